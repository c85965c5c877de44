-- What a piece begins with, and what derives the empty list.
--
-- `nullable` and `starts` compute from a grammar what its pieces can be; here it is shown that they
-- miss no piece. By the grammar: of two pieces one after the other, the first token is that of the
-- first one that is not empty.
use Rattle.std.proofs.Common.{◌≡◌, Bool, true, ◌&&◌, ◌||◌, List, [], ◌∷◌, ◌++◌, ◌⊎◌, inl, inr, refl, sym, ◌∙◌, subst}
use Rattle.ir_lexer.specs.Tokens.{Token}
use Rattle.grammar.specs.Looks.{passes}
use Rattle.grammar.proofs.Meet.{and-true, or-true, true-or}
use Rattle.grammar.specs.Grammar.{Tokens, EachPiece, G, ret, tok, both, alt, star, chain, made, placed, kid, Links, Derives, nullable, starts}
use Rattle.grammar.specs.Front.{Lists, Some_of}
use Rattle.grammar.proofs.Choice.{empty-parts}

-- what is known of the pieces of nonterminals: their first tokens, and that none is empty
pub record Kids {X : Type 0} {Sem : X → Type 0} (Derived : (x : X) → Tokens → Sem x → Type 0)
    (kid_starts : X → Token → Bool) : Type 0 where
  pub begins : (x : X) (t : Token) (ts : Tokens) (c : Sem x) → Derived x (t ∷ ts) c
      → kid_starts x t ≡ true
  pub full : (x : X) (c : Sem x) → Derived x [] c → ⊥

-- what a row of pieces begins with
pub first-of-each : {B : Type 0} (R : Tokens → B → Type 0) (begins : Token → Bool)
    (h : (t : Token) (ts : Tokens) (b : B) → R (t ∷ ts) b → begins t ≡ true)
    (bs : List B) (t : Token) (ts : Tokens) → EachPiece R (t ∷ ts) bs → begins t ≡ true
first-of-each R begins h [] t ts x = absurd (cc)
first-of-each R begins h (b ∷ bs) t ts (front, back, is, r, more) =
    go front is r (first-of-each R begins h bs)
  where
    go : (k : Tokens) → t ∷ ts ≡ k ++ back → R k b
        → ((t : Token) (ts : Tokens) → EachPiece R (t ∷ ts) bs → begins t ≡ true) → begins t ≡ true
    go [] is r again = again t ts (subst (λ (w : Tokens). EachPiece R w bs) (sym is) more)
    go (y ∷ k) is r again = let hd : y ≡ t = cc in
        subst (λ (z : Token). begins z ≡ true) hd (h y k b r)

-- what a row of heads and bodies begins with
pub first-of-links : {B C D I : Type 0} (p : B → C → I) (q : B → D → I) (H : Tokens → B → Type 0)
    (K : Tokens → C → Type 0) (L : Tokens → D → Type 0) (sh sk sl : Token → Bool) (nh : Bool)
    → ((t : Token) (w : Tokens) (b : B) → H (t ∷ w) b → sh t ≡ true)
    → ((b : B) → H [] b → nh ≡ true)
    → ((t : Token) (w : Tokens) (c : C) → K (t ∷ w) c → sk t ≡ true)
    → ((t : Token) (w : Tokens) (d : D) → L (t ∷ w) d → sl t ≡ true)
    → (is : List I) (t : Token) (w : Tokens) → Links p q H K L (t ∷ w) is
    → (sh t || (nh && (sk t || sl t))) ≡ true
first-of-links p q H K L sh sk sl nh fh eh fk fl [] t w x = absurd (cc)
first-of-links {B = B} {C = C} {D = D} {I = I} p q H K L sh sk sl nh fh eh fk fl (i ∷ is) t w
    (front, back, b, e, h, r) = go front e h r (first-of-links p q H K L sh sk sl nh fh eh fk fl is)
  where
    Body : Tokens → Type 0
    Body back = ((mid rest : Tokens) × (c : C) × (back ≡ mid ++ rest) × K mid c
        × Links p q H K L rest is × (i ≡ p b c)) ⊎ ((d : D) × L back d × (is ≡ []) × (i ≡ q b d))

    headed : (a n : Bool) → n ≡ true → (x y : Bool) → (x ≡ true) ⊎ (y ≡ true)
        → (a || (n && (x || y))) ≡ true
    headed a n e x y (inl z) = true-or a (n && (x || y)) (rw (e, z) refl)
    headed a n e x y (inr z) = true-or a (n && (x || y)) (let u = true-or x y z in rw (e, u) refl)

    go-mid : (mid rest : Tokens) (c : C) → t ∷ w ≡ mid ++ rest → K mid c → Links p q H K L rest is
        → nh ≡ true
        → ((t : Token) (w : Tokens) → Links p q H K L (t ∷ w) is
        → (sh t || (nh && (sk t || sl t))) ≡ true) → (sh t || (nh && (sk t || sl t))) ≡ true
    go-mid [] rest c e k more n again =
        again t w (subst (λ (v : Tokens). Links p q H K L v is) (sym e) more)
    go-mid (z ∷ mid) rest c e k more n again = let hd : z ≡ t = cc in
        headed (sh t) nh n (sk t) (sl t)
        (inl (subst (λ (v : Token). sk v ≡ true) hd (fk z mid c k)))

    go-body : t ∷ w ≡ back → Body back → nh ≡ true
        → ((t : Token) (w : Tokens) → Links p q H K L (t ∷ w) is
        → (sh t || (nh && (sk t || sl t))) ≡ true) → (sh t || (nh && (sk t || sl t))) ≡ true
    go-body e (inl (mid, rest, c, e2, k, more, ei)) n again =
        go-mid mid rest c (e ∙ e2) k more n again
    go-body e (inr (d, l, en, ei)) n again =
        headed (sh t) nh n (sk t) (sl t) (inr (fl t w d (subst (λ (v : Tokens). L v d) (sym e) l)))

    go : (k : Tokens) → t ∷ w ≡ k ++ back → H k b → Body back
        → ((t : Token) (w : Tokens) → Links p q H K L (t ∷ w) is
        → (sh t || (nh && (sk t || sl t))) ≡ true) → (sh t || (nh && (sk t || sl t))) ≡ true
    go [] e h r again = go-body e r (eh b h) again
    go (z ∷ k) e h r again = let hd : z ≡ t = cc in
        let u : sh t ≡ true = subst (λ (v : Token). sh v ≡ true) hd (fh z k b h) in rw u refl

module _ {X : Type 0} {Sem : X → Type 0} (Derived : (x : X) → Tokens → Sem x → Type 0)
    (kid_starts : X → Token → Bool) where
  -- the tokens are a piece of the grammar, with this tree
  abbrev Tree : {A : Type 0} → G X Sem A → Tokens → A → Type 0
  Tree g = Derives Derived g

  -- a piece begins with the token
  abbrev opens : {A : Type 0} → G X Sem A → Token → Bool
  opens g = starts kid_starts g

  -- the tokens are a piece
  abbrev Piece : {A : Type 0} → G X Sem A → Lists
  Piece g = Some_of (Tree g)

  module _ (kids : Kids Derived kid_starts) where
    -- a grammar with an empty piece is nullable
    pub empty : {A : Type 0} (g : G X Sem A) (a : A) → Tree g [] a → nullable g ≡ true
    empty (ret b) a d = refl
    empty (tok begins look f) a (t, is, p, e) = absurd (cc)
    empty (both f g h) a (front, back, b, c, is, x, y, e) =
        let p = empty-parts front back is in
        let u : nullable g ≡ true = empty g b (subst (λ (w : Tokens). Tree g w b) p.0 x) in
        let v : nullable h ≡ true = empty h c (subst (λ (w : Tokens). Tree h w c) p.1 y) in
        rw (u, v) refl
    empty (alt g h) a (inl x) = let u = empty g a x in rw u refl
    empty (alt g h) a (inr x) = true-or _ _ (empty h a x)
    empty (star f g) a x = refl
    empty (chain f u v h k l) a x = refl
    empty (made f g) a (b, x, e) = empty g b x
    empty (placed f g) a (b, x, e) = empty g b x
    empty (kid x f) a (c, y, e) = absurd (kids.full x c y)

    empty-alt : {A : Type 0} (g h : G X Sem A) → (nullable g ≡ true) ⊎ (nullable h ≡ true)
        → (nullable g ≡ true → Piece g []) → (nullable h ≡ true → Piece h []) → Piece (alt g h) []
    empty-alt g h (inl e) x y = let p = x e in (p.0, inl p.1)
    empty-alt g h (inr e) x y = let p = y e in (p.0, inr p.1)

    -- a nullable grammar has an empty piece
    pub empty-piece : {A : Type 0} (g : G X Sem A) → nullable g ≡ true → Piece g []
    empty-piece (ret b) e = (b, (refl, refl))
    empty-piece (tok begins look f) e = absurd (cc)
    empty-piece (both f g h) e = let p = and-true _ _ e in let x = empty-piece g p.0 in
        let y = empty-piece h p.1 in (f x.0 y.0, ([], [], x.0, y.0, refl, x.1, y.1, refl))
    empty-piece (alt g h) e = empty-alt g h (or-true _ _ e) (empty-piece g) (empty-piece h)
    empty-piece (star f g) e = (f [], ([], refl, refl))
    empty-piece (chain f u v h k l) e = (f [], ([], refl, refl))
    empty-piece (made f g) e = let x = empty-piece g e in (f x.0, (x.0, x.1, refl))
    empty-piece (placed f g) e = let x = empty-piece g e in (f 0 x.0, (x.0, x.1, refl))
    empty-piece (kid x f) e = absurd (cc)

    -- a piece begins with a token that its grammar starts with
    pub first : {A : Type 0} (g : G X Sem A) (t : Token) (ts : Tokens) (a : A) → Tree g (t ∷ ts) a
        → opens g t ≡ true
    first (ret b) t ts a d = absurd (cc (d.0))
    first (tok begins look f) t ts a (y, is, p, e) = let hd : y ≡ t = cc in
        subst (λ (z : Token). passes look z ≡ true) hd p
    first (both {B = B} {C = C} f g h) t ts a (front, back, b, c, is, x, y, e) =
        go front is x (first g) (first h)
      where
        go : (k : Tokens) → t ∷ ts ≡ k ++ back → Tree g k b
            → ((t : Token) (ts : Tokens) (b : B) → Tree g (t ∷ ts) b → opens g t ≡ true)
            → ((t : Token) (ts : Tokens) (c : C) → Tree h (t ∷ ts) c → opens h t ≡ true)
            → (opens g t || (nullable g && opens h t)) ≡ true
        go [] is x fg fh = let u = empty g b x in
            let v = fh t ts c (subst (λ (w : Tokens). Tree h w c) (sym is) y) in
            true-or (opens g t) (nullable g && opens h t) (rw (u, v) refl)
        go (z ∷ k) is x fg fh = let hd : z ≡ t = cc in
            let u : opens g t ≡ true = subst (λ (w : Token). opens g w ≡ true) hd (fg z k b x) in
            rw u refl
    first (alt g h) t ts a (inl x) = let u = first g t ts a x in rw u refl
    first (alt g h) t ts a (inr x) = true-or _ _ (first h t ts a x)
    first (star f g) t ts a (bs, x, e) = first-of-each (Tree g) (opens g) (first g) bs t ts x
    first (chain f u v h k l) t ts a (is, x, e) =
        first-of-links u v (Tree h) (Tree k) (Tree l) (opens h) (opens k) (opens l) (nullable h)
        (first h) (empty h) (first k) (first l) is t ts x
    first (made f g) t ts a (b, x, e) = first g t ts b x
    first (placed f g) t ts a (b, x, e) = first g t ts b x
    first (kid x f) t ts a (c, y, e) = kids.begins x t ts c y
