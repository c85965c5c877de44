-- A reader of a piece and then a piece meets what is asked of it.
--
-- If the first part stops, the whole stops there; behind the first part, the whole is where the
-- second part is. `Cut` shows it of the lists, and here the trees are added.
use Rattle.std.proofs.Common.{◌≡◌, ℕ, true, false, [], ◌∷◌, ◌++◌, ◌⊎◌, inl, inr, refl, sym, ◌∙◌, ap, subst, append_assoc}
use Rattle.ir_lexer.specs.Tokens.{Token}
use Rattle.grammar.specs.Grammar.{Tokens, Parser, Outcome, done, stop, and_then, ◌>>=◌, pure, place_of}
use Rattle.grammar.specs.Exact.{HasMore, IsExactAnswer}
use Rattle.grammar.specs.Front.{Lists, Barred, Shallow, Some_of, Front}
use Rattle.grammar.proofs.Cut.{Joined, Deeper, barred-second, none-second, shallow-second, barred-first, none-first, shallow-first}

-- no token goes on with a piece of the one and begins a piece of the other
abbrev pub Apart : Lists → Lists → Type 0
Apart P Q = (d : Tokens) (y : Token) (e w : Tokens) → P d → P (d ++ y ∷ e) → Q (y ∷ w) → ⊥

-- what is barred for more lists is barred for fewer
pub barred-in : {P Q : Lists} → ((w : Tokens) → P w → Q w) → (d rest : Tokens) → Barred Q d rest
    → Barred P d rest
barred-in h d rest b t more e is x = b t more e is (h (d ++ t ∷ e) x)

-- what is shallow for more lists is shallow for fewer
pub shallow-in : {D E : Lists} → ((w : Tokens) → D w → E w) → (d : Tokens) → Shallow E d
    → Shallow D d
shallow-in h d s p q is x = s p q is (h p x)

module _ {A B C : Type 0} (f : B → C → A) (R : Tokens → B → Type 0) (S : Tokens → C → Type 0)
    (DR DS : Lists)
    (apart : Apart (Some_of R) (Some_of S)) (seen : (p : Tokens) → DR p → HasMore (Some_of R) p)
    (next_seen : (p : Tokens) → DS p → HasMore (Some_of S) p)
    (some : DS [] → ⊥) (sample : (ts : Tokens) × Some_of S ts) where
  -- a piece of the first and then one of the second, with the tree of both
  abbrev pub Both : Tokens → A → Type 0
  Both ts a = (front back : Tokens) × (b : B) × (c : C) × (ts ≡ front ++ back) × R front b
      × S back c × (a ≡ f b c)

  -- too deep in the first, or behind a piece of it in the second
  abbrev pub DeepBoth : Lists
  DeepBoth p = DR p ⊎ ((front back : Tokens) × (b : B) × (p ≡ front ++ back) × R front b × DS back)

  to-joined : (w : Tokens) → Some_of Both w
      → Joined (Some_of R) (Some_of S) DR DS apart seen next_seen some w
  to-joined w (a, (front, back, b, c, is, r, s, e)) = (front, back, is, (b, r), (c, s))

  to-deeper : (w : Tokens) → DeepBoth w
      → Deeper (Some_of R) (Some_of S) DR DS apart seen next_seen some w
  to-deeper w (inl x) = inl x
  to-deeper w (inr (front, back, b, is, r, x)) = inr (front, back, is, (b, r), x)

  viable-second : (d1 d2 : Tokens) (b : B) → R d1 b → HasMore (Some_of S) d2
      → HasMore (Some_of Both) (d1 ++ d2)
  viable-second d1 d2 b r (more, (c, s)) =
      (more, (f b c, (d1, d2 ++ more, b, c, append_assoc d1 d2 more, r, s, refl)))

  -- what goes on to the first goes on to both
  pub viable-first : (d : Tokens) → HasMore (Some_of R) d → HasMore (Some_of Both) d
  viable-first d (more, (b, r)) = (
    more ++ sample.0,
    (
      f b sample.1.0,
      (
        d ++ more,
        sample.0,
        b,
        sample.1.0,
        sym (append_assoc d more sample.0),
        r,
        sample.1.1,
        refl,
      ),
    ),
  )

  -- what is too deep in one of both is viable
  pub deep-both-seen : (p : Tokens) → DeepBoth p → HasMore (Some_of Both) p
  deep-both-seen p (inl x) = viable-first p (seen p x)
  deep-both-seen p (inr (front, back, b, is, r, x)) =
      subst (λ (l : Tokens). HasMore (Some_of Both) l) (sym is)
      (viable-second front back b r (next_seen back x))

  -- behind the first piece
  second : (ts : Tokens) (b : B) (rest1 : Tokens) (o : Outcome C) → Front R DR ts b rest1
      → IsExactAnswer S DS rest1 o
      → IsExactAnswer Both DeepBoth ts (and_then o (λ c. pure (f b c)))
  second ts b rest1 (done c rest) x y =
      let bar = subst (λ (l : Tokens). Barred (Some_of R) x.front l) y.is x.barred in
      record {
        front = x.front ++ y.front;
        is = x.is ∙ ap (λ l. x.front ++ l) y.is ∙ sym (append_assoc x.front y.front rest);
        tree = (x.front, y.front, b, c, refl, x.tree, y.tree, refl);
        barred = barred-in to-joined (x.front ++ y.front) rest
            (barred-second (Some_of R)
            (Some_of S) DR DS apart seen next_seen some x.front y.front rest
            (b, x.tree) bar y.barred);
        shallow = shallow-in to-deeper (x.front ++ y.front)
            (shallow-second (Some_of R)
            (Some_of S) DR DS apart seen next_seen some x.front y.front rest
            (b, x.tree) bar x.shallow y.shallow);
      }
  second ts b rest1 (stop false rest) x y =
      let bar = subst (λ (l : Tokens). Barred (Some_of R) x.front l) y.is x.barred in
      record {
        front = x.front ++ y.front;
        is = x.is ∙ ap (λ l. x.front ++ l) y.is ∙ sym (append_assoc x.front y.front rest);
        viable = viable-second x.front y.front b x.tree y.viable;
        none = λ w. none-second (Some_of R)
            (Some_of S) DR DS apart seen next_seen some x.front y.front rest (b, x.tree) bar y.none
            (to-joined _ w);
        barred = barred-in to-joined (x.front ++ y.front) rest
            (barred-second (Some_of R)
            (Some_of S) DR DS apart seen next_seen some x.front y.front rest
            (b, x.tree) bar y.barred);
        shallow = shallow-in to-deeper (x.front ++ y.front)
            (shallow-second (Some_of R)
            (Some_of S) DR DS apart seen next_seen some x.front y.front rest
            (b, x.tree) bar x.shallow y.shallow);
      }
  second ts b rest1 (stop true rest) x y =
      let bar = subst (λ (l : Tokens). Barred (Some_of R) x.front l) y.is x.barred in
      record {
        front = x.front ++ y.front;
        next = y.next;
        more = y.more;
        at = y.at;
        is = x.is ∙ ap (λ l. x.front ++ l) y.is ∙ sym (append_assoc x.front y.front rest);
        deep = inr (
          x.front,
          y.front ++ y.next ∷ [],
          b,
          append_assoc x.front y.front (y.next ∷ []),
          x.tree,
          y.deep,
        );
        shallow = shallow-in to-deeper (x.front ++ y.front)
            (shallow-second (Some_of R)
            (Some_of S) DR DS apart seen next_seen some x.front y.front rest
            (b, x.tree) bar x.shallow y.shallow);
      }

  -- a reader of the one and then of the other meets what is asked for both
  pub then-meets : (ts : Tokens) (o : Outcome B) (q : Parser C) → IsExactAnswer R DR ts o
      → ((b : B) (rest : Tokens) → o ≡ done b rest → IsExactAnswer S DS rest (q rest))
      → IsExactAnswer Both DeepBoth ts (and_then o (λ b. q >>= (λ c. pure (f b c))))
  then-meets ts (done b rest) q x y = second ts b rest (q rest) x (y b rest refl)
  then-meets ts (stop false rest) q x y = record {
    front = x.front;
    is = x.is;
    viable = viable-first x.front x.viable;
    none = λ w. none-first (Some_of R)
        (Some_of S) DR DS apart seen next_seen some x.front x.viable x.none (to-joined _ w);
    barred = barred-in to-joined x.front rest
        (barred-first (Some_of R)
        (Some_of S) DR DS apart seen next_seen some x.front rest x.viable x.none x.barred);
    shallow = shallow-in to-deeper x.front
        (shallow-first (Some_of R)
        (Some_of S) DR DS apart seen next_seen some x.front x.viable x.shallow);
  }
  then-meets ts (stop true rest) q x y =
      let v = seen (x.front ++ x.next ∷ []) x.deep in
      let viable : HasMore (Some_of R) x.front =
      (x.next ∷ v.0, subst (Some_of R) (append_assoc x.front (x.next ∷ []) v.0) v.1) in
      record {
        front = x.front;
        next = x.next;
        more = x.more;
        at = x.at;
        is = x.is;
        deep = inl x.deep;
        shallow = shallow-in to-deeper x.front
            (shallow-first (Some_of R)
            (Some_of S) DR DS apart seen next_seen some x.front viable x.shallow);
      }

-- a piece that stands for something else
abbrev pub Mapped : {A B : Type 0} → (B → A) → (Tokens → B → Type 0) → Tokens → A → Type 0
Mapped {B = B} f R ts a = (b : B) × R ts b × (a ≡ f b)

-- a reader meets what is asked where its tree stands for something else
pub map-meets : {A B : Type 0} (f : B → A) (R : Tokens → B → Type 0) (D : Lists) (ts : Tokens)
    (o : Outcome B) → IsExactAnswer R D ts o → IsExactAnswer (Mapped f R) D ts (and_then o (λ b. pure (f b)))
map-meets f R D ts (done b rest) x =
    record {
      front = x.front;
      is = x.is;
      tree = (b, x.tree, refl);
      barred = λ t more e at y. x.barred t more e at (y.1.0, y.1.1);
      shallow = x.shallow;
    }
map-meets f R D ts (stop false rest) x = record {
  front = x.front;
  is = x.is;
  viable = (x.viable.0, (f x.viable.1.0, (x.viable.1.0, x.viable.1.1, refl)));
  none = λ y. x.none (y.1.0, y.1.1);
  barred = λ t more e at y. x.barred t more e at (y.1.0, y.1.1);
  shallow = x.shallow;
}
map-meets f R D ts (stop true rest) x =
    record {
      front = x.front;
      next = x.next;
      more = x.more;
      at = x.at;
      is = x.is;
      deep = x.deep;
      shallow = x.shallow;
    }

-- a piece that isn't empty, with the place of its first token
abbrev pub Placed : {A B : Type 0} → (ℕ → B → A) → (Tokens → B → Type 0) → Tokens → A → Type 0
Placed {B = B} f R ts a = (b : B) × R ts b × (a ≡ f (place_of ts) b)

same-place : {B : Type 0} (R : Tokens → B → Type 0) → ((b : B) → R [] b → ⊥)
    → (front rest ts : Tokens) (b : B) → R front b → ts ≡ front ++ rest
    → place_of ts ≡ place_of front
same-place R full [] rest ts b r is = absurd (full b r)
same-place R full (t ∷ front) rest ts b r is = ap place_of is

-- a reader meets what is asked where its tree gets the place of its first token
pub place-meets : {A B : Type 0} (f : ℕ → B → A) (R : Tokens → B → Type 0) (D : Lists)
    (full : (b : B) → R [] b → ⊥) (ts : Tokens) (o : Outcome B) → IsExactAnswer R D ts o
    → IsExactAnswer (Placed f R) D ts (and_then o (λ b. pure (f (place_of ts) b)))
place-meets f R D full ts (done b rest) x = record {
  front = x.front;
  is = x.is;
  tree = (b, x.tree, ap (λ p. f p b) (same-place R full x.front rest ts b x.tree x.is));
  barred = λ t more e at y. x.barred t more e at (y.1.0, y.1.1);
  shallow = x.shallow;
}
place-meets f R D full ts (stop false rest) x = record {
  front = x.front;
  is = x.is;
  viable = (
    x.viable.0,
    (f (place_of (x.front ++ x.viable.0)) x.viable.1.0, (x.viable.1.0, x.viable.1.1, refl)),
  );
  none = λ y. x.none (y.1.0, y.1.1);
  barred = λ t more e at y. x.barred t more e at (y.1.0, y.1.1);
  shallow = x.shallow;
}
place-meets f R D full ts (stop true rest) x =
    record {
      front = x.front;
      next = x.next;
      more = x.more;
      at = x.at;
      is = x.is;
      deep = x.deep;
      shallow = x.shallow;
    }
