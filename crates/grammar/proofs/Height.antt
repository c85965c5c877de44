-- Derivations by height.
--
-- Where nonterminals nest, what they derive is said for each height. A piece has finitely many
-- parts, so one height serves all of them: the greatest.
use Rattle.std.proofs.Common.{ℕ, ◌≤◌, max, List, [], ◌∷◌, inl, inr, arith}
use Rattle.grammar.specs.Grammar.{Tokens, EachPiece, G, ret, tok, both, alt, star, chain, made, placed, kid, Links, Derives}

-- a row of pieces is one for a wider relation
pub each-in : {B : Type 0} (R S : Tokens → B → Type 0) → ((ts : Tokens) (b : B) → R ts b → S ts b)
    → (ts : Tokens) (bs : List B) → EachPiece R ts bs → EachPiece S ts bs
each-in R S h ts [] x = x
each-in R S h ts (b ∷ bs) (front, back, is, r, more) =
    (front, back, is, h front b r, each-in R S h back bs more)

-- and so is a row of heads and bodies
pub links-in : {B C D I : Type 0} (p : B → C → I) (q : B → D → I) (H H' : Tokens → B → Type 0)
    (K K' : Tokens → C → Type 0) (L L' : Tokens → D → Type 0)
    → ((ts : Tokens) (b : B) → H ts b → H' ts b) → ((ts : Tokens) (c : C) → K ts c → K' ts c)
    → ((ts : Tokens) (d : D) → L ts d → L' ts d)
    → (ts : Tokens) (is : List I) → Links p q H K L ts is → Links p q H' K' L' ts is
links-in p q H H' K K' L L' hh kk ll ts [] x = x
links-in p q H H' K K' L L' hh kk ll ts (i ∷ is)
    (front, back, b, e, h, inl (mid, rest, c, e2, k, more, ei)) = (
      front,
      back,
      b,
      e,
      hh front b h,
      inl (mid, rest, c, e2, kk mid c k, links-in p q H H' K K' L L' hh kk ll rest is more, ei),
    )
links-in p q H H' K K' L L' hh kk ll ts (i ∷ is) (front, back, b, e, h, inr (d, l, en, ei)) =
    (front, back, b, e, hh front b h, inr (d, ll back d l, en, ei))

-- what is derived stays so where the nonterminals derive more
pub derives-in : {X : Type 0} {Sem : X → Type 0} (D E : (x : X) → Tokens → Sem x → Type 0)
    → ((x : X) (ts : Tokens) (c : Sem x) → D x ts c → E x ts c)
    → {A : Type 0} (g : G X Sem A) (ts : Tokens) (a : A) → Derives D g ts a → Derives E g ts a
derives-in D E h (ret b) ts a x = x
derives-in D E h (tok begins look f) ts a x = x
derives-in D E h (both f g k) ts a (front, back, b, c, is, x, y, e) =
    (front, back, b, c, is, derives-in D E h g front b x, derives-in D E h k back c y, e)
derives-in D E h (alt g k) ts a (inl x) = inl (derives-in D E h g ts a x)
derives-in D E h (alt g k) ts a (inr x) = inr (derives-in D E h k ts a x)
derives-in D E h (star f g) ts a (bs, x, e) = (bs, each-in _ _ (derives-in D E h g) ts bs x, e)
derives-in D E h (chain f u v g k l) ts a (is, x, e) = (
  is,
  links-in u v _ _ _ _ _ _ (derives-in D E h g) (derives-in D E h k)
      (derives-in D E h l) ts is x,
  e,
)
derives-in D E h (made f g) ts a (b, x, e) = (b, derives-in D E h g ts b x, e)
derives-in D E h (placed f g) ts a (b, x, e) = (b, derives-in D E h g ts b x, e)
derives-in D E h (kid y f) ts a (c, x, e) = (c, h y ts c x, e)

module _ {X : Type 0} {Sem : X → Type 0} (N : ℕ → (x : X) → Tokens → Sem x → Type 0)
    (up : (n m : ℕ) → n ≤ m → (x : X) (ts : Tokens) (c : Sem x) → N n x ts c → N m x ts c) where
  -- derived with nonterminals of this height
  abbrev At : {A : Type 0} → ℕ → G X Sem A → Tokens → A → Type 0
  At n g ts a = Derives (N n) g ts a

  -- what is derived at a height is so at a greater one
  up-to : {A : Type 0} (n m : ℕ) → n ≤ m → (g : G X Sem A) (ts : Tokens) (a : A) → At n g ts a
      → At m g ts a
  up-to n m le g ts a x = derives-in (N n) (N m) (up n m le) g ts a x

  -- one height for a row of pieces
  bounded-each : {B : Type 0} (g : G X Sem B)
      → ((ts : Tokens) (b : B) → Derives (λ x ts c. (n : ℕ) × N n x ts c) g ts b
      → (n : ℕ) × At n g ts b)
      → (ts : Tokens) (bs : List B) → EachPiece (Derives (λ x ts c. (n : ℕ) × N n x ts c) g) ts bs
      → (n : ℕ) × EachPiece (At n g) ts bs
  bounded-each g h ts [] x = (0, x)
  bounded-each g h ts (b ∷ bs) (front, back, is, r, more) =
      let u = h front b r in let v = bounded-each g h back bs more in (
        max u.0 v.0,
        (
          front,
          back,
          is,
          up-to u.0 (max u.0 v.0) (omega arith) g front b u.1,
          each-in (At v.0 g) (At (max u.0 v.0) g)
              (up-to v.0 (max u.0 v.0) (omega arith) g) back bs v.1,
        ),
      )

  -- derived at some height
  abbrev Over : (x : X) → Tokens → Sem x → Type 0
  Over x ts c = (n : ℕ) × N n x ts c

  -- one height for a row of heads and bodies
  bounded-links : {B C D I : Type 0} (p : B → C → I) (q : B → D → I) (h : G X Sem B) (k : G X Sem C)
      (l : G X Sem D)
      → ((ts : Tokens) (b : B) → Derives Over h ts b → (n : ℕ) × At n h ts b)
      → ((ts : Tokens) (c : C) → Derives Over k ts c → (n : ℕ) × At n k ts c)
      → ((ts : Tokens) (d : D) → Derives Over l ts d → (n : ℕ) × At n l ts d)
      → (ts : Tokens) (is : List I)
      → Links p q (Derives Over h) (Derives Over k) (Derives Over l) ts is
      → (n : ℕ) × Links p q (At n h) (At n k) (At n l) ts is
  bounded-links p q h k l hh kk ll ts [] x = (0, x)
  bounded-links p q h k l hh kk ll ts (i ∷ is)
      (front, back, b, e, x, inl (mid, rest, c, e2, y, more, ei)) =
      let u = hh front b x in let v = kk mid c y in
      let w = bounded-links p q h k l hh kk ll rest is more in (
        max u.0 (max v.0 w.0),
        (
          front,
          back,
          b,
          e,
          up-to u.0 (max u.0 (max v.0 w.0)) (omega arith) h front b u.1,
          inl (
            mid,
            rest,
            c,
            e2,
            up-to v.0 (max u.0 (max v.0 w.0)) (omega arith) k mid c v.1,
            links-in p q (At w.0 h) (At (max u.0 (max v.0 w.0)) h) (At w.0 k)
                (At (max u.0 (max v.0 w.0)) k) (At w.0 l) (At (max u.0 (max v.0 w.0)) l)
                (up-to w.0 (max u.0 (max v.0 w.0)) (omega arith) h)
                (up-to w.0 (max u.0 (max v.0 w.0)) (omega arith) k)
                (up-to w.0 (max u.0 (max v.0 w.0)) (omega arith) l) rest is w.1,
            ei,
          ),
        ),
      )
  bounded-links p q h k l hh kk ll ts (i ∷ is) (front, back, b, e, x, inr (d, y, en, ei)) =
      let u = hh front b x in let v = ll back d y in (
        max u.0 v.0,
        (
          front,
          back,
          b,
          e,
          up-to u.0 (max u.0 v.0) (omega arith) h front b u.1,
          inr (d, up-to v.0 (max u.0 v.0) (omega arith) l back d v.1, en, ei),
        ),
      )

  -- One bound serves all parts.
  pub bounded : {A : Type 0} (g : G X Sem A) (ts : Tokens) (a : A)
      → Derives (λ x ts c. (n : ℕ) × N n x ts c) g ts a → (n : ℕ) × At n g ts a
  bounded (ret b) ts a x = (0, x)
  bounded (tok begins look f) ts a x = (0, x)
  bounded (both f g h) ts a (front, back, b, c, is, x, y, e) =
      let u = bounded g front b x in let v = bounded h back c y in (
        max u.0 v.0,
        (
          front,
          back,
          b,
          c,
          is,
          up-to u.0 (max u.0 v.0) (omega arith) g front b u.1,
          up-to v.0 (max u.0 v.0) (omega arith) h back c v.1,
          e,
        ),
      )
  bounded (alt g h) ts a (inl x) = let u = bounded g ts a x in (u.0, inl u.1)
  bounded (alt g h) ts a (inr x) = let u = bounded h ts a x in (u.0, inr u.1)
  bounded (star f g) ts a (bs, x, e) = let u = bounded-each g (bounded g) ts bs x in
      (u.0, (bs, u.1, e))
  bounded (chain f p q h k l) ts a (is, x, e) =
      let u = bounded-links p q h k l (bounded h) (bounded k) (bounded l) ts is x in
      (u.0, (is, u.1, e))
  bounded (made f g) ts a (b, x, e) = let u = bounded g ts b x in (u.0, (b, u.1, e))
  bounded (placed f g) ts a (b, x, e) = let u = bounded g ts b x in (u.0, (b, u.1, e))
  bounded (kid y f) ts a (c, x, e) = (x.0, (c, x.1, e))
