-- A choice by the first token, and a row of pieces.
--
-- Where no list of the other branch begins as these tokens do, what the reader of the one branch
-- finds is what the choice asks for. A row is such a choice at each turn: a piece and then the row,
-- or nothing. The turns are counted down by a bound, and each takes a token.
use Rattle.std.proofs.Common.{◌≡◌, ℕ, zero, suc, ◌≤◌, Bool, true, false, List, [], ◌∷◌, ◌++◌, length, ◌⊎◌, inl, inr, refl, sym, ◌∙◌, ap, subst, append-nil, append_assoc, arith, if◌then◌else◌}
use Rattle.ir_lexer.specs.Tokens.{Token}
use Rattle.grammar.specs.Grammar.{Tokens, Parser, Outcome, done, stop, ◌>>=◌, pure, turns, EachPiece}
use Rattle.grammar.specs.Exact.{HasMore, Blocked, IsExactAnswer}
use Rattle.grammar.specs.Front.{Lists, Barred, Shallow, Some_of, Front}
use Rattle.grammar.proofs.Shrink.{Takes}
use Rattle.grammar.proofs.Then.{Apart, Both, DeepBoth, then-meets}

-- of an empty list both parts are empty
pub empty-parts : (a b : Tokens) → [] ≡ a ++ b → (a ≡ []) × (b ≡ [])
empty-parts [] b e = (refl, sym e)
empty-parts (x ∷ a) b e = absurd (cc)

-- The other branch has no list that begins as these tokens do.
module _ {A : Type 0} (R O T : Tokens → A → Type 0) (DR DO DT : Lists)
    (into : (w : Tokens) (a : A) → R w a → T w a)
    (out : (w : Tokens) → Some_of T w → Some_of R w ⊎ Some_of O w)
    (deep_into : (p : Tokens) → DR p → DT p) (deep_out : (p : Tokens) → DT p → DR p ⊎ DO p)
    (ts : Tokens) (alien : (t : Token) (more w : Tokens) → ts ≡ t ∷ more → Some_of O (t ∷ w) → ⊥)
    (other_seen : (p : Tokens) → DO p → HasMore (Some_of O) p) (some : DO [] → ⊥) where
  -- nothing of the other branch is too deep here
  deep-alien : (p q : Tokens) → ts ≡ p ++ q → DO p → ⊥
  deep-alien [] q is x = some x
  deep-alien (t ∷ p) q is x = let v = other_seen (t ∷ p) x in alien t (p ++ q) (p ++ v.0) is v.1

  shallow-choice : (front rest : Tokens) → ts ≡ front ++ rest → Shallow DR front → Shallow DT front
  shallow-choice front rest is sh p q e x = go (deep_out p x)
    where
      go : DR p ⊎ DO p → ⊥
      go (inl y) = sh p q e y
      go (inr y) = deep-alien p (q ++ rest) (is ∙ ap (λ l. l ++ rest) e ∙ append_assoc p q rest) y

  barred-choice : (front rest : Tokens) → ts ≡ front ++ rest → Barred (Some_of R) front rest
      → Barred (Some_of T) front rest
  barred-choice front rest is bar t more e at x = go front refl (out (front ++ t ∷ e) x)
    where
      go : (k : Tokens) → front ≡ k → Some_of R (front ++ t ∷ e) ⊎ Some_of O (front ++ t ∷ e) → ⊥
      go k ek (inl y) = bar t more e at y
      go [] ek (inr y) =
          alien t more e (is ∙ ap (λ l. l ++ rest) ek ∙ at)
          (subst (λ (l : Tokens). Some_of O (l ++ t ∷ e)) ek y)
      go (z ∷ k) ek (inr y) =
          alien z (k ++ rest) (k ++ t ∷ e) (is ∙ ap (λ l. l ++ rest) ek)
          (subst (λ (l : Tokens). Some_of O (l ++ t ∷ e)) ek y)

  none-choice : (front rest : Tokens) → ts ≡ front ++ rest → (Some_of R front → ⊥)
      → (front ≡ [] → Some_of O [] → ⊥) → Some_of T front → ⊥
  none-choice front rest is n empty x = go front refl (out front x)
    where
      go : (k : Tokens) → front ≡ k → Some_of R front ⊎ Some_of O front → ⊥
      go k ek (inl y) = n y
      go [] ek (inr y) = empty ek (subst (Some_of O) ek y)
      go (z ∷ k) ek (inr y) =
          alien z (k ++ rest) k (is ∙ ap (λ l. l ++ rest) ek) (subst (Some_of O) ek y)

  -- a reader that meets what is asked for the one branch meets it for the choice
  pub choice-meets : (o : Outcome A)
      → ((rest : Tokens) (x : Blocked R DR ts rest) → x.front ≡ [] → Some_of O [] → ⊥)
      → IsExactAnswer R DR ts o → IsExactAnswer T DT ts o
  choice-meets (done a rest) empty x = record {
    front = x.front;
    is = x.is;
    tree = into x.front a x.tree;
    barred = barred-choice x.front rest x.is x.barred;
    shallow = shallow-choice x.front rest x.is x.shallow;
  }
  choice-meets (stop false rest) empty x = record {
    front = x.front;
    is = x.is;
    viable = (x.viable.0, (x.viable.1.0, into _ x.viable.1.0 x.viable.1.1));
    none = none-choice x.front rest x.is x.none (empty rest x);
    barred = barred-choice x.front rest x.is x.barred;
    shallow = shallow-choice x.front rest x.is x.shallow;
  }
  choice-meets (stop true rest) empty x = record {
    front = x.front;
    next = x.next;
    more = x.more;
    at = x.at;
    is = x.is;
    deep = deep_into (x.front ++ x.next ∷ []) x.deep;
    shallow = shallow-choice x.front rest x.is x.shallow;
  }

-- what is too deep in one of several pieces
abbrev pub DeepStar : {B : Type 0} → (Tokens → B → Type 0) → Lists → Lists
DeepStar {B = B} R D p =
    (front back : Tokens) × (bs : List B) × (p ≡ front ++ back) × EachPiece R front bs × D back

-- what is too deep in a row of pieces is viable
pub star-seen : {B : Type 0} (R : Tokens → B → Type 0) (D : Lists)
    (seen : (p : Tokens) → D p → HasMore (Some_of R) p) (p : Tokens) → DeepStar R D p
    → HasMore (Some_of (EachPiece R)) p
star-seen {B = B} R D seen p (front, back, bs, is, each, x) = go front bs p is each
  where
    v : HasMore (Some_of R) back
    v = seen back x

    go : (front : Tokens) (bs : List B) (p : Tokens) → p ≡ front ++ back → EachPiece R front bs
        → HasMore (Some_of (EachPiece R)) p
    go front [] p is each = (
      v.0,
      (
        v.1.0 ∷ [],
        (
          back ++ v.0,
          [],
          ap (λ l. l ++ v.0) (is ∙ ap (λ l. l ++ back) each) ∙ sym (append-nil (back ++ v.0)),
          v.1.1,
          refl,
        ),
      ),
    )
    go front (b ∷ bs) p is (f1, f2, e, r, more) =
        let u = go f2 bs (f2 ++ back) refl more in (
          u.0,
          (
            b ∷ u.1.0,
            (
              f1,
              (f2 ++ back) ++ u.0,
              ap (λ l. l ++ u.0) (is ∙ ap (λ l. l ++ back) e ∙ append_assoc f1 f2 back)
                  ∙ append_assoc f1 (f2 ++ back) u.0,
              r,
              u.1.1,
            ),
          ),
        )

-- nothing is too deep before the first token
pub star-some : {B : Type 0} (R : Tokens → B → Type 0) (D : Lists) (some : D [] → ⊥)
    → DeepStar R D [] → ⊥
star-some R D some (front, back, bs, is, each, x) = some (subst D (empty-parts front back is).1 x)

-- None or more pieces.
module _ {B : Type 0} (begins : Token → Bool) (item : Parser B) (R : Tokens → B → Type 0)
    (D : Lists)
    (takes : Takes item) (item_meets : (ts : Tokens) → IsExactAnswer R D ts (item ts))
    (apart : Apart (Some_of R) (Some_of R)) (seen : (p : Tokens) → D p → HasMore (Some_of R) p)
    (some : D [] → ⊥)
    (full : (b : B) → R [] b → ⊥)
    (sound : (t : Token) (w : Tokens) (b : B) → R (t ∷ w) b → begins t ≡ true)
    (begun : (t : Token) → begins t ≡ true → HasMore (Some_of R) (t ∷ [])) where
  -- a list of pieces that isn't empty
  each-cons : (t : Token) (w : Tokens) → Some_of (EachPiece R) (t ∷ w)
      → (front back : Tokens) × (b : B) × (bs : List B) × (t ∷ w ≡ (t ∷ front) ++ back)
      × R (t ∷ front) b × EachPiece R back bs
  each-cons t w ([], e) = absurd (cc)
  each-cons t w (b ∷ bs, (front, back, is, r, more)) = go front is r
    where
      go : (k : Tokens) → t ∷ w ≡ k ++ back → R k b
          → (f2 back : Tokens) × (b : B) × (bs : List B) × (t ∷ w ≡ (t ∷ f2) ++ back) × R (t ∷ f2) b
          × EachPiece R back bs
      go [] is r = absurd (full b r)
      go (y ∷ k) is r = let hd : y ≡ t = cc in (
        k,
        back,
        b,
        bs,
        is ∙ ap (λ z. z ∷ (k ++ back)) hd,
        subst (λ (z : Token). R (z ∷ k) b) hd r,
        more,
      )

  -- a token that goes on with a piece begins no row of them
  each-apart : Apart (Some_of R) (Some_of (EachPiece R))
  each-apart d y e w p q x = let (front, back, b, bs, is, r, more) = each-cons y w x in
      apart d y e front p q (b, r)

  -- a piece, and then the row
  abbrev Turn : Tokens → List B → Type 0
  Turn = Both (λ b bs. b ∷ bs) R (EachPiece R) D (DeepStar R D) each-apart seen (star-seen R D seen)
      (star-some R D some) ([], ([], refl))

  -- too deep in a turn
  abbrev DeepTurn : Lists
  DeepTurn = DeepBoth (λ b bs. b ∷ bs) R (EachPiece R) D (DeepStar R D) each-apart seen
      (star-seen R D seen) (star-some R D some) ([], ([], refl))

  -- a turn is a row
  turn-each : (w : Tokens) (bs : List B) → Turn w bs → EachPiece R w bs
  turn-each w l (front, back, b, bs, is, r, more, e) =
      subst (EachPiece R w) (sym e) (front, back, is, r, more)

  -- a row with a token is a turn
  each-turn : (t : Token) (w : Tokens) → Some_of (EachPiece R) (t ∷ w) → Some_of Turn (t ∷ w)
  each-turn t w x = let (front, back, b, bs, is, r, more) = each-cons t w x in
      (b ∷ bs, (t ∷ front, back, b, bs, is, r, more, refl))

  star-turn : (p : Tokens) → (DeepStar R D) p → DeepTurn p
  star-turn p (front, back, [], is, each, x) = inl (subst D (sym (is ∙ ap (λ l. l ++ back) each)) x)
  star-turn p (front, back, b ∷ bs, is, (f1, f2, e, r, more), x) =
      inr (
        f1,
        f2 ++ back,
        b,
        is ∙ ap (λ l. l ++ back) e ∙ append_assoc f1 f2 back,
        r,
        (f2, back, bs, refl, more, x),
      )

  turn-star : (p : Tokens) → DeepTurn p → (DeepStar R D) p
  turn-star p (inl x) = ([], p, [], refl, refl, x)
  turn-star p (inr (front, back, b, is, r, (f2, b2, bs, e, each, x))) = (
    front ++ f2,
    b2,
    b ∷ bs,
    is ∙ ap (λ l. front ++ l) e ∙ sym (append_assoc front f2 b2),
    (front, f2, refl, r, each),
    x,
  )

  barred-star : (front rest : Tokens) → Barred (Some_of Turn) front rest
      → Barred (Some_of (EachPiece R)) front rest
  barred-star [] rest bar t more e at x = bar t more e at (each-turn t e x)
  barred-star (y ∷ front) rest bar t more e at x = bar t more e at (each-turn y (front ++ t ∷ e) x)

  shallow-star : (front : Tokens) → Shallow DeepTurn front → Shallow (DeepStar R D) front
  shallow-star front sh p q is x = sh p q is (star-turn p x)

  -- a turn that began took a token
  none-star : (t : Token) (ts front rest : Tokens) → begins t ≡ true → t ∷ ts ≡ front ++ rest
      → HasMore (Some_of Turn) front → Barred (Some_of Turn) front rest → (Some_of Turn front → ⊥)
      → Some_of (EachPiece R) front → ⊥
  none-star t ts [] rest h is v bar n x =
      let u = begun t h in
      bar t ts u.0 (sym is)
      (u.1.0 ∷ [], (t ∷ u.0, [], u.1.0, [], sym (append-nil (t ∷ u.0)), u.1.1, refl, refl))
  none-star t ts (y ∷ front) rest h is v bar n x = n (each-turn y front x)

  -- what the reader of a turn finds is what the row asks for
  turn-meets : (t : Token) (ts : Tokens) (o : Outcome (List B)) → begins t ≡ true
      → IsExactAnswer Turn DeepTurn (t ∷ ts) o → IsExactAnswer (EachPiece R) (DeepStar R D) (t ∷ ts) o
  turn-meets t ts (done bs rest) h x = record {
    front = x.front;
    is = x.is;
    tree = turn-each x.front bs x.tree;
    barred = barred-star x.front rest x.barred;
    shallow = shallow-star x.front x.shallow;
  }
  turn-meets t ts (stop false rest) h x = record {
    front = x.front;
    is = x.is;
    viable = (x.viable.0, (x.viable.1.0, turn-each _ x.viable.1.0 x.viable.1.1));
    none = none-star t ts x.front rest h x.is x.viable x.barred x.none;
    barred = barred-star x.front rest x.barred;
    shallow = shallow-star x.front x.shallow;
  }
  turn-meets t ts (stop true rest) h x = record {
    front = x.front;
    next = x.next;
    more = x.more;
    at = x.at;
    is = x.is;
    deep = turn-star (x.front ++ x.next ∷ []) x.deep;
    shallow = shallow-star x.front x.shallow;
  }

  shallow-nil : Shallow (DeepStar R D) []
  shallow-nil p q is x = (star-some R D some) (subst (DeepStar R D) (empty-parts p q is).0 x)

  -- where no piece begins, the row is empty
  no-turn : (ts : Tokens) → ((t : Token) (more : Tokens) → ts ≡ t ∷ more → begins t ≡ false)
      → Front (EachPiece R) (DeepStar R D) ts [] ts
  no-turn ts h = record {
    front = [];
    is = refl;
    tree = refl;
    barred = λ t more e at x. let (front, back, b, bs, is, r, rest) = each-cons t e x in
        absurd (cc (sound t front b r, h t more at));
    shallow = shallow-nil;
  }

  -- the reader of a row, with a bound that is enough, meets what is asked of it
  pub turns-meet : (n : ℕ) (ts : Tokens) → length ts ≤ n
      → IsExactAnswer (EachPiece R) (DeepStar R D) ts (turns begins item n ts)
  turns-meet zero [] le = no-turn [] (λ t more e. absurd (cc))
  turns-meet zero (t ∷ ts) le = absurd (omega arith)
  turns-meet (suc n) [] le = no-turn [] (λ t more e. absurd (cc))
  turns-meet (suc n) (t ∷ ts) le =
      go (begins t) refl
      (λ b rest e. let u = takes.by (t ∷ ts) b rest e in turns-meet n rest (omega arith))
    where
      go : (c : Bool) → begins t ≡ c
          → ((b : B) (rest : Tokens) → item (t ∷ ts) ≡ done b rest
          → IsExactAnswer (EachPiece R) (DeepStar R D) rest (turns begins item n rest))
          → IsExactAnswer (EachPiece R) (DeepStar R D) (t ∷ ts)
          (if c then (item >>= (λ b. turns begins item n >>= (λ bs. pure (b ∷ bs)))) (t ∷ ts)
          else done [] (t ∷ ts))
      go true h rest-meets =
          turn-meets t ts _ h
          (then-meets (λ b bs. b ∷ bs) R (EachPiece R) D (DeepStar R D) each-apart seen
          (star-seen R D seen) (star-some R D some) ([], ([], refl)) (t ∷ ts) (item (t ∷ ts))
          (turns begins item n) (item_meets (t ∷ ts)) rest-meets)
      go false h rest-meets =
          no-turn (t ∷ ts)
          (λ y more e. let hd : t ≡ y = cc in subst (λ (z : Token). begins z ≡ false) hd h)
