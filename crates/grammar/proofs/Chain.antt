-- Heads and bodies one after the other: the reader meets what is asked of it.
--
-- A turn reads a head and then a body, which the first token behind the head chooses. So a turn is
-- a piece and then a choice, and `Then` and `Choice` serve: a body, with what comes behind it, is
-- read as a function of the head, so that it does not depend on the head's tree.
use Rattle.std.proofs.Common.{◌≡◌, ℕ, zero, suc, ◌≤◌, Bool, true, false, List, [], ◌∷◌, ◌++◌, length, ◌⊎◌, inl, inr, refl, sym, ◌∙◌, ap, subst, append-nil, append_assoc, arith, if◌then◌else◌}
use Rattle.ir_lexer.specs.Tokens.{Token}
use Rattle.grammar.specs.Grammar.{Tokens, Parser, Outcome, done, stop, ◌>>=◌, pure, Links, DeepLinks, body, links}
use Rattle.grammar.specs.Exact.{HasMore, IsExactAnswer}
use Rattle.grammar.specs.Front.{Lists, Barred, Shallow, Some_of, Front}
use Rattle.grammar.proofs.Shrink.{Takes, Fewer}
use Rattle.grammar.proofs.Then.{Apart, Both, DeepBoth, then-meets, deep-both-seen, Mapped, map-meets}
use Rattle.grammar.proofs.Choice.{choice-meets, empty-parts}

other-way : {P Q : Type 0} → P ⊎ Q → Q ⊎ P
other-way (inl x) = inr x
other-way (inr x) = inl x

module _ {B C D I : Type 0} (p : B → C → I) (q : B → D → I) (H : Tokens → B → Type 0)
    (K : Tokens → C → Type 0) (L : Tokens → D → Type 0) where
  -- a row of heads and bodies
  abbrev pub Chain : Tokens → List I → Type 0
  Chain ts is = Links p q H K L ts is

  -- a body and what comes behind it, as a function of the head
  abbrev pub More_after : Tokens → (B → List I) → Type 0
  More_after ts f =
      (mid rest : Tokens) × (c : C) × (is : List I) × (ts ≡ mid ++ rest) × K mid c × Chain rest is
      × (f ≡ (λ b. p b c ∷ is))

  -- a last body, as a function of the head
  abbrev pub Last : Tokens → (B → List I) → Type 0
  Last ts f = Mapped (λ d. λ b. q b d ∷ []) L ts f

  -- a body of either kind and what comes behind it
  abbrev pub Rest : Tokens → (B → List I) → Type 0
  Rest ts f = More_after ts f ⊎ Last ts f

  -- what begins a body
  pub rest-piece : (full-k : (c : C) → K [] c → ⊥) → (y : Token) (w : Tokens) → Some_of Rest (y ∷ w)
      → ((e : Tokens) × (c : C) × K (y ∷ e) c) ⊎ ((d : D) × L (y ∷ w) d)
  rest-piece full-k y w (f, inl (mid, rest, c, is, e, k, more, ef)) = go mid e k
    where
      go : (m : Tokens) → y ∷ w ≡ m ++ rest → K m c
          → ((e : Tokens) × (c : C) × K (y ∷ e) c) ⊎ ((d : D) × L (y ∷ w) d)
      go [] e k = absurd (full-k c k)
      go (z ∷ m) e k = let hd : z ≡ y = cc in inl (m, c, subst (λ (v : Token). K (v ∷ m) c) hd k)
  rest-piece full-k y w (f, inr (d, l, ef)) = inr (d, l)

module _ {B C D I : Type 0} (p : B → C → I) (q : B → D → I) (H : Tokens → B → Type 0)
    (K : Tokens → C → Type 0) (L : Tokens → D → Type 0) (DH DK DL : Lists)
    (seen_h : (w : Tokens) → DH w → HasMore (Some_of H) w)
    (seen_k : (w : Tokens) → DK w → HasMore (Some_of K) w)
    (seen_l : (w : Tokens) → DL w → HasMore (Some_of L) w)
    (sample_l : (ts : Tokens) × Some_of L ts) where
  -- what is too deep in a row is viable
  pub chain-seen : (n : ℕ) (w : Tokens) → DeepLinks H K L DH DK DL n w
      → HasMore (Some_of (Chain p q H K L)) w
  chain-seen zero w (inl x) = let v = seen_h w x in (
    v.0 ++ sample_l.0,
    (
      q v.1.0 sample_l.1.0 ∷ [],
      (
        w ++ v.0,
        sample_l.0,
        v.1.0,
        sym (append_assoc w v.0 sample_l.0),
        v.1.1,
        inr (sample_l.1.0, sample_l.1.1, refl, refl),
      ),
    ),
  )
  chain-seen zero w (inr (front, back, b, is, h, inl x)) = let v = seen_k back x in (
    v.0,
    (
      p b v.1.0 ∷ [],
      (
        front,
        back ++ v.0,
        b,
        ap (λ l. l ++ v.0) is ∙ append_assoc front back v.0,
        h,
        inl (back ++ v.0, [], v.1.0, sym (append-nil (back ++ v.0)), v.1.1, refl, refl),
      ),
    ),
  )
  chain-seen zero w (inr (front, back, b, is, h, inr x)) = let v = seen_l back x in (
    v.0,
    (
      q b v.1.0 ∷ [],
      (
        front,
        back ++ v.0,
        b,
        ap (λ l. l ++ v.0) is ∙ append_assoc front back v.0,
        h,
        inr (v.1.0, v.1.1, refl, refl),
      ),
    ),
  )
  chain-seen (suc n) w (front, mid, rest, b, c, is, h, k, x) = let v = chain-seen n rest x in (
    v.0,
    (
      p b c ∷ v.1.0,
      (
        front,
        (mid ++ rest) ++ v.0,
        b,
        ap (λ l. l ++ v.0) is ∙ append_assoc front (mid ++ rest) v.0,
        h,
        inl (mid, rest ++ v.0, c, append_assoc mid rest v.0, k, v.1.1, refl),
      ),
    ),
  )

module _ {B C D : Type 0} (H : Tokens → B → Type 0) (K : Tokens → C → Type 0)
    (L : Tokens → D → Type 0) (DH DK DL : Lists)
    (some_h : DH [] → ⊥) (some_k : DK [] → ⊥) (some_l : DL [] → ⊥) where
  -- nothing is too deep before the first token
  pub chain-some : (n : ℕ) → DeepLinks H K L DH DK DL n [] → ⊥
  chain-some zero (inl x) = some_h x
  chain-some zero (inr (front, back, b, is, h, inl x)) =
      some_k (subst DK (empty-parts front back is).1 x)
  chain-some zero (inr (front, back, b, is, h, inr x)) =
      some_l (subst DL (empty-parts front back is).1 x)
  chain-some (suc n) (front, mid, rest, b, c, is, h, k, x) =
      let e = empty-parts front (mid ++ rest) is in let f = empty-parts mid rest (sym e.1) in
      chain-some n (subst (DeepLinks H K L DH DK DL n) f.1 x)

module _ {B C D I : Type 0} (p : B → C → I) (q : B → D → I) (H : Tokens → B → Type 0)
    (K : Tokens → C → Type 0) (L : Tokens → D → Type 0) (DH DK DL : Lists)
    (begins body_begins : Token → Bool) (ph : Parser B) (pk : Parser C) (pl : Parser D)
    (few : Fewer ph) (takes : Takes pk)
    (h_meets : (ts : Tokens) → IsExactAnswer H DH ts (ph ts))
    (k_meets : (ts : Tokens) → IsExactAnswer K DK ts (pk ts))
    (l_meets : (ts : Tokens) → IsExactAnswer L DL ts (pl ts))
    (apart_h : Apart (Some_of H) (λ w. Some_of K w ⊎ Some_of L w))
    (apart_k : Apart (Some_of K) (Some_of (Chain p q H K L)))
    (seen_h : (w : Tokens) → DH w → HasMore (Some_of H) w)
    (seen_k : (w : Tokens) → DK w → HasMore (Some_of K) w)
    (seen_l : (w : Tokens) → DL w → HasMore (Some_of L) w)
    (some_h : DH [] → ⊥) (some_k : DK [] → ⊥) (some_l : DL [] → ⊥)
    (full-k : (c : C) → K [] c → ⊥) (full-l : (d : D) → L [] d → ⊥)
    (k_first : (t : Token) (w : Tokens) (c : C) → K (t ∷ w) c → body_begins t ≡ true)
    (l_first : (t : Token) (w : Tokens) (d : D) → L (t ∷ w) d → body_begins t ≡ true → ⊥)
    (first : (t : Token) (w : Tokens) (is : List I) → Links p q H K L (t ∷ w) is → begins t ≡ true)
    (begun : (t : Token) → begins t ≡ true → HasMore (Some_of (Chain p q H K L)) (t ∷ []))
    (k_begun : (t : Token) → body_begins t ≡ true → HasMore (Some_of K) (t ∷ []))
    (sample_l : (ts : Tokens) × Some_of L ts) where
  -- the row
  abbrev Ch : Tokens → List I → Type 0
  Ch = Chain p q H K L

  -- a body and what comes behind it
  abbrev Re : Tokens → (B → List I) → Type 0
  Re = Rest p q H K L

  -- too deep in the row
  abbrev DeepCh : Lists
  DeepCh w = (n : ℕ) × DeepLinks H K L DH DK DL n w

  ch-seen : (w : Tokens) → DeepCh w → HasMore (Some_of Ch) w
  ch-seen w x = chain-seen p q H K L DH DK DL seen_h seen_k seen_l sample_l x.0 w x.1

  ch-some : DeepCh [] → ⊥
  ch-some x = chain-some H K L DH DK DL some_h some_k some_l x.0 x.1

  -- a body of the first kind, and the row behind it
  abbrev AfterK : Tokens → (B → List I) → Type 0
  AfterK = Both (λ c is. λ b. p b c ∷ is) K Ch DK DeepCh apart_k seen_k ch-seen ch-some
      ([], ([], refl))

  -- too deep in these
  abbrev DeepAfterK : Lists
  DeepAfterK =
      DeepBoth {A = B → List I}
      (λ c is. λ b. p b c ∷ is) K Ch DK DeepCh apart_k seen_k ch-seen ch-some ([], ([], refl))

  -- too deep in a body or behind it
  abbrev DeepRe : Lists
  DeepRe w = DeepAfterK w ⊎ DL w

  -- a last body
  abbrev LastOf : Tokens → (B → List I) → Type 0
  LastOf = Last p q H K L

  last-seen : (w : Tokens) → DL w → HasMore (Some_of LastOf) w
  last-seen w x = let v = seen_l w x in (v.0, ((λ b. q b v.1.0 ∷ []), (v.1.0, v.1.1, refl)))

  after-seen : (w : Tokens) → DeepAfterK w → HasMore (Some_of AfterK) w
  after-seen w x =
      deep-both-seen {A = B → List I}
      (λ c is. λ b. p b c ∷ is) K Ch DK DeepCh apart_k seen_k ch-seen ch-some ([], ([], refl)) w x

  after-some : DeepAfterK [] → ⊥
  after-some (inl x) = some_k x
  after-some (inr (front, back, c, is, k, x)) =
      ch-some (subst DeepCh (empty-parts front back is).1 x)

  after-empty : (f : B → List I) → AfterK [] f → ⊥
  after-empty f (front, back, c, is, e, k, more, ef) =
      full-k c (subst (λ (w : Tokens). K w c) (empty-parts front back e).0 k)

  rest-out : (w : Tokens) → Some_of Re w → Some_of AfterK w ⊎ Some_of LastOf w
  rest-out w (f, inl x) = inl (f, x)
  rest-out w (f, inr x) = inr (f, x)

  after-first : (t : Token) (w : Tokens) → Some_of AfterK (t ∷ w) → body_begins t ≡ true
  after-first t w (f, (mid, rest, c, is, e, k, more, ef)) = go mid e k
    where
      go : (m : Tokens) → t ∷ w ≡ m ++ rest → K m c → body_begins t ≡ true
      go [] e k = absurd (full-k c k)
      go (z ∷ m) e k = let hd : z ≡ t = cc in
          k_first t m c (subst (λ (v : Token). K (v ∷ m) c) hd k)

  -- the reader of a body and what comes behind it
  rest-meets : (more : Parser (List I)) → (ts : Tokens)
      → ((c : C) (rest : Tokens) → pk ts ≡ done c rest → IsExactAnswer Ch DeepCh rest (more rest))
      → IsExactAnswer Re DeepRe ts (body p q body_begins pk pl more ts)
  rest-meets more [] m =
      choice-meets LastOf AfterK Re DL DeepAfterK DeepRe (λ w a z. inr z)
      (λ w z. other-way (rest-out w z)) (λ w z. inr z) (λ w z. other-way z) []
      (λ t e w z. absurd (cc)) after-seen after-some _ (λ rest z e o. after-empty o.0 o.1)
      (map-meets (λ d. λ b. q b d ∷ []) L DL [] (pl []) (l_meets []))
  rest-meets more (t ∷ ts) m = go (body_begins t) refl
    where
      go : (z : Bool) → body_begins t ≡ z
          → IsExactAnswer Re DeepRe (t ∷ ts)
          (if z then (pk >>= (λ c. more >>= (λ is. pure (λ b. p b c ∷ is)))) (t ∷ ts)
          else (pl >>= (λ d. pure (λ b. q b d ∷ []))) (t ∷ ts))
      go true e = choice-meets AfterK LastOf Re DeepAfterK DL DeepRe (λ w a z. inl z) rest-out
          (λ w z. inl z) (λ w z. z) (t ∷ ts)
          (λ u more w is z. let hd : t ≡ u = cc in
          l_first u w z.1.0 z.1.1
          (subst (λ (v : Token). body_begins v ≡ true) hd e)) last-seen some_l _
          (λ rest z e2 o. full-l o.1.0 o.1.1)
          (then-meets (λ c is. λ b. p b c ∷ is) K Ch DK DeepCh apart_k seen_k ch-seen ch-some
          ([], ([], refl)) (t ∷ ts) (pk (t ∷ ts)) more (k_meets (t ∷ ts)) m)
      go false e =
          choice-meets LastOf AfterK Re DL DeepAfterK DeepRe (λ w a z. inr z)
          (λ w z. other-way (rest-out w z)) (λ w z. inr z) (λ w z. other-way z) (t ∷ ts)
          (λ u more w is z. let hd : t ≡ u = cc in let v = after-first u w z in
          absurd (cc (e, hd, v))) after-seen after-some _
          (λ rest z e2 o. after-empty o.0 o.1)
          (map-meets (λ d. λ b. q b d ∷ []) L DL (t ∷ ts) (pl (t ∷ ts)) (l_meets (t ∷ ts)))

  rest-seen : (w : Tokens) → DeepRe w → HasMore (Some_of Re) w
  rest-seen w (inl x) = let v = after-seen w x in (v.0, (v.1.0, inl v.1.1))
  rest-seen w (inr x) = let v = last-seen w x in (v.0, (v.1.0, inr v.1.1))

  rest-some : DeepRe [] → ⊥
  rest-some (inl x) = after-some x
  rest-some (inr x) = some_l x

  rest-apart : Apart (Some_of H) (Some_of Re)
  rest-apart d y e w x z r = go (rest-piece p q H K L full-k y w r)
    where
      go : ((e : Tokens) × (c : C) × K (y ∷ e) c) ⊎ ((d : D) × L (y ∷ w) d) → ⊥
      go (inl (v, c, k)) = apart_h d y e v x z (inl (c, k))
      go (inr l) = apart_h d y e w x z (inr l)

  sample-rest : (ts : Tokens) × Some_of Re ts
  sample-rest = (sample_l.0, ((λ b. q b sample_l.1.0 ∷ []), inr (sample_l.1.0, sample_l.1.1, refl)))

  -- a head, and then a body and what comes behind it
  abbrev Turn : Tokens → List I → Type 0
  Turn = Both (λ b f. f b) H Re DH DeepRe rest-apart seen_h rest-seen rest-some sample-rest

  -- too deep in a turn
  abbrev DeepTurn : Lists
  DeepTurn = DeepBoth {A = List I}
      (λ b f. f b) H Re DH DeepRe rest-apart seen_h rest-seen rest-some sample-rest

  -- a turn is a row
  turn-chain : (w : Tokens) (is : List I) → Turn w is → Ch w is
  turn-chain w l (front, back, b, f, is, h, inl (mid, rest, c, js, e, k, more, ef), a) =
      subst (Ch w) (sym (a ∙ ap (λ g. g b) ef))
      (front, back, b, is, h, inl (mid, rest, c, e, k, more, refl))
  turn-chain w l (front, back, b, f, is, h, inr (d, x, ef), a) =
      subst (Ch w) (sym (a ∙ ap (λ g. g b) ef)) (front, back, b, is, h, inr (d, x, refl, refl))

  -- a row with a token is a turn
  chain-turn : (t : Token) (w : Tokens) → Some_of Ch (t ∷ w) → Some_of Turn (t ∷ w)
  chain-turn t w ([], e) = absurd (cc)
  chain-turn t w (i ∷ is, (front, back, b, e, h, inl (mid, rest, c, e2, k, more, ei))) = (
    p b c ∷ is,
    (front, back, b, (λ b. p b c ∷ is), e, h, inl (mid, rest, c, is, e2, k, more, refl), refl),
  )
  chain-turn t w (i ∷ is, (front, back, b, e, h, inr (d, l, en, ei))) =
      (q b d ∷ [], (front, back, b, (λ b. q b d ∷ []), e, h, inr (d, l, refl), refl))

  deep-turn : (n : ℕ) (w : Tokens) → DeepLinks H K L DH DK DL n w → DeepTurn w
  deep-turn zero w (inl x) = inl x
  deep-turn zero w (inr (front, back, b, is, h, inl x)) = inr (front, back, b, is, h, inl (inl x))
  deep-turn zero w (inr (front, back, b, is, h, inr x)) = inr (front, back, b, is, h, inr x)
  deep-turn (suc n) w (front, mid, rest, b, c, is, h, k, x) =
      inr (front, mid ++ rest, b, is, h, inl (inr (mid, rest, c, refl, k, (n, x))))

  turn-deep : (w : Tokens) → DeepTurn w → DeepCh w
  turn-deep w (inl x) = (0, inl x)
  turn-deep w (inr (front, back, b, is, h, inl (inl x))) = (0, inr (front, back, b, is, h, inl x))
  turn-deep w (inr (front, back, b, is, h, inl (inr (mid, rest, c, e, k, (n, x))))) =
      (suc n, (front, mid, rest, b, c, is ∙ ap (λ l. front ++ l) e, h, k, x))
  turn-deep w (inr (front, back, b, is, h, inr x)) = (0, inr (front, back, b, is, h, inr x))

  barred-chain : (front rest : Tokens) → Barred (Some_of Turn) front rest
      → Barred (Some_of Ch) front rest
  barred-chain [] rest bar t more e at x = bar t more e at (chain-turn t e x)
  barred-chain (y ∷ front) rest bar t more e at x =
      bar t more e at (chain-turn y (front ++ t ∷ e) x)

  shallow-chain : (front : Tokens) → Shallow DeepTurn front → Shallow DeepCh front
  shallow-chain front sh a b is x = sh a b is (deep-turn x.0 a x.1)

  none-chain : (t : Token) (ts front rest : Tokens) → begins t ≡ true → t ∷ ts ≡ front ++ rest
      → Barred (Some_of Turn) front rest → (Some_of Turn front → ⊥) → Some_of Ch front → ⊥
  none-chain t ts [] rest h is bar n x = let u = begun t h in
      bar t ts u.0 (sym is) (chain-turn t u.0 u.1)
  none-chain t ts (y ∷ front) rest h is bar n x = n (chain-turn y front x)

  -- what the reader of a turn finds is what the row asks for
  turn-meets : (t : Token) (ts : Tokens) (o : Outcome (List I)) → begins t ≡ true
      → IsExactAnswer Turn DeepTurn (t ∷ ts) o → IsExactAnswer Ch DeepCh (t ∷ ts) o
  turn-meets t ts (done bs rest) h x = record {
    front = x.front;
    is = x.is;
    tree = turn-chain x.front bs x.tree;
    barred = barred-chain x.front rest x.barred;
    shallow = shallow-chain x.front x.shallow;
  }
  turn-meets t ts (stop false rest) h x = record {
    front = x.front;
    is = x.is;
    viable = (x.viable.0, (x.viable.1.0, turn-chain _ x.viable.1.0 x.viable.1.1));
    none = none-chain t ts x.front rest h x.is x.barred x.none;
    barred = barred-chain x.front rest x.barred;
    shallow = shallow-chain x.front x.shallow;
  }
  turn-meets t ts (stop true rest) h x = record {
    front = x.front;
    next = x.next;
    more = x.more;
    at = x.at;
    is = x.is;
    deep = turn-deep (x.front ++ x.next ∷ []) x.deep;
    shallow = shallow-chain x.front x.shallow;
  }

  -- where nothing begins, the row is empty
  no-turn : (ts : Tokens) → ((t : Token) (more : Tokens) → ts ≡ t ∷ more → begins t ≡ false)
      → Front Ch DeepCh ts [] ts
  no-turn ts h = record {
    front = [];
    is = refl;
    tree = refl;
    barred = λ t more e at x. absurd (cc (first t e x.0 x.1, h t more at));
    shallow = λ a b is x. ch-some (subst DeepCh (empty-parts a b is).0 x);
  }

  -- the reader of a row, with a bound that is enough, meets what is asked of it
  pub links-meet : (n : ℕ) (ts : Tokens) → length ts ≤ n
      → IsExactAnswer Ch DeepCh ts (links p q begins body_begins ph pk pl n ts)
  links-meet zero [] le = no-turn [] (λ t more e. absurd (cc))
  links-meet zero (t ∷ ts) le = absurd (omega arith)
  links-meet (suc n) [] le = no-turn [] (λ t more e. absurd (cc))
  links-meet (suc n) (t ∷ ts) le =
      go (begins t) refl
      (λ b rest e c rest2 e2. let u = few.by (t ∷ ts) b rest e in
      let v = takes.by rest c rest2 e2 in links-meet n rest2 (omega arith))
    where
      go : (z : Bool) → begins t ≡ z
          → ((b : B) (rest : Tokens) → ph (t ∷ ts) ≡ done b rest → (c : C) (rest2 : Tokens)
          → pk rest ≡ done c rest2
          → IsExactAnswer Ch DeepCh rest2 (links p q begins body_begins ph pk pl n rest2))
          → IsExactAnswer Ch DeepCh (t ∷ ts)
          (if z then (ph >>= (λ b. body p q body_begins pk pl
          (links p q begins body_begins ph pk pl n) >>= (λ f. pure (f b)))) (t ∷ ts)
          else done [] (t ∷ ts))
      go true h m =
          turn-meets t ts _ h
          (then-meets (λ b f. f b) H Re DH DeepRe rest-apart seen_h rest-seen rest-some sample-rest
          (t ∷ ts) (ph (t ∷ ts))
          (body p q body_begins pk pl (links p q begins body_begins ph pk pl n))
          (h_meets (t ∷ ts))
          (λ b rest e. rest-meets (links p q begins body_begins ph pk pl n) rest (m b rest e)))
      go false h m =
          no-turn (t ∷ ts)
          (λ y more e. let hd : t ≡ y = cc in subst (λ (z : Token). begins z ≡ false) hd h)
