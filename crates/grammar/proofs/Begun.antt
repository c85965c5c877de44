-- Grammars that one token decides: each has a piece, and each token it starts with begins one.
--
-- `IsOneToken` is what the reader needs of a grammar: at each place the ways to go on begin with
-- different tokens. Each look passes some token, so such a grammar has a piece, its sample; and
-- each token that it starts with is the first of a piece. Both are shown by the grammar.
use Rattle.std.proofs.Common.{◌≡◌, Bool, true, false, not, ◌&&◌, ◌||◌, List, [], ◌∷◌, ◌++◌, ◌⊎◌, inl, inr, refl, sym, append-nil}
use Rattle.ir_lexer.specs.Tokens.{Token}
use Rattle.grammar.proofs.Meet.{and-true, or-true, not-or, a-token, passes-some}
use Rattle.grammar.specs.Grammar.{Tokens, G, ret, tok, both, alt, star, chain, made, placed, kid, place_of, Links, Derives, nullable, starts}
use Rattle.grammar.specs.Exact.{HasMore}
use Rattle.grammar.specs.Front.{Lists, Some_of}
use Rattle.grammar.proofs.Then.{Apart}
use Rattle.grammar.proofs.Firsts.{Kids}
use Rattle.grammar.proofs.Firsts as firsts

module _ {X : Type 0} {Sem : X → Type 0} where
  -- no nonterminal stands at the front
  abbrev pub guarded : {A : Type 0} → G X Sem A → Bool
  guarded (ret b) = true
  guarded (tok begins look f) = true
  guarded (both f g h) = guarded g && (not (nullable g) || guarded h)
  guarded (alt g h) = guarded g && guarded h
  guarded (star f g) = guarded g
  guarded (chain f u v h k l) = guarded h && (not (nullable h) || (guarded k && guarded l))
  guarded (made f g) = guarded g
  guarded (placed f g) = guarded g
  guarded (kid x f) = false

-- a piece of each nonterminal
pub record Samples {X : Type 0} {Sem : X → Type 0} (Derived : (x : X) → Tokens → Sem x → Type 0)
    (kid_starts : X → Token → Bool) : Type 0 where
  pub sample : (x : X) → (ts : Tokens) × Some_of (Derived x) ts

module _ {X : Type 0} {Sem : X → Type 0} (Derived : (x : X) → Tokens → Sem x → Type 0)
    (kid_starts : X → Token → Bool) where
  -- the tokens are a piece of the grammar, with this tree
  abbrev Tree : {A : Type 0} → G X Sem A → Tokens → A → Type 0
  Tree g = Derives Derived g

  -- a piece begins with the token
  abbrev opens : {A : Type 0} → G X Sem A → Token → Bool
  opens g = starts kid_starts g

  -- the tokens are a piece
  abbrev Piece : {A : Type 0} → G X Sem A → Lists
  Piece g = Some_of (Tree g)

  -- One token decides at each place.
  abbrev pub IsOneToken : {A : Type 0} → G X Sem A → Type 0
  IsOneToken (ret b) = Unit {0}
  IsOneToken (tok begins look f) = Unit {0}
  IsOneToken (both f g h) = IsOneToken g × IsOneToken h × Apart (Piece g) (Piece h)
  IsOneToken (alt g h) =
      IsOneToken g × IsOneToken h × (nullable g ≡ false)
      × ((t : Token) → opens g t ≡ true → opens h t ≡ true → ⊥)
  IsOneToken (star f g) = IsOneToken g × (nullable g ≡ false) × Apart (Piece g) (Piece g)
  IsOneToken (chain f u v h k l) =
      IsOneToken h × IsOneToken k × IsOneToken l × (nullable k ≡ false) × (nullable l ≡ false)
      × ((t : Token) → opens k t ≡ true → opens l t ≡ true → ⊥)
      × Apart (Piece h) (λ w. Piece k w ⊎ Piece l w)
      × Apart (Piece k) (Some_of (Links u v (Tree h) (Tree k) (Tree l)))
  IsOneToken (made f g) = IsOneToken g
  IsOneToken (placed f g) = IsOneToken g × (nullable g ≡ false)
  IsOneToken (kid x f) = Unit {0}

  module _ (kids : Kids Derived kid_starts) where
    empty-piece : {A : Type 0} (g : G X Sem A) → nullable g ≡ true → Piece g []
    empty-piece g e = firsts.empty-piece Derived kid_starts kids g e

    module _ (samples : Samples Derived kid_starts) where
      -- a piece of the grammar
      pub sample : {A : Type 0} (g : G X Sem A) → IsOneToken g → (ts : Tokens) × Piece g ts
      sample (ret b) l = ([], (b, (refl, refl)))
      sample (tok begins look f) l =
          (a-token look ∷ [], (f (a-token look), (a-token look, refl, passes-some look, refl)))
      sample (both f g h) l = let x = sample g l.0 in let y = sample h l.1 in
          (x.0 ++ y.0, (f x.1.0 y.1.0, (x.0, y.0, x.1.0, y.1.0, refl, x.1.1, y.1.1, refl)))
      sample (alt g h) l = let x = sample g l.0 in (x.0, (x.1.0, inl x.1.1))
      sample (star f g) l = ([], (f [], ([], refl, refl)))
      sample (chain f u v h k l) o = ([], (f [], ([], refl, refl)))
      sample (made f g) l = let x = sample g l in (x.0, (f x.1.0, (x.1.0, x.1.1, refl)))
      sample (placed f g) l = let x = sample g l.0 in
          (x.0, (f (place_of x.0) x.1.0, (x.1.0, x.1.1, refl)))
      sample (kid x f) l = let y = samples.sample x in (y.0, (f y.1.0, (y.1.0, y.1.1, refl)))

      -- of two pieces one after the other, by the first or, where it may be empty, by the second
      begun-or : {A B C : Type 0} (f : B → C → A) (g : G X Sem B) (h : G X Sem C) (t : Token)
          → (opens g t ≡ true) ⊎ ((nullable g && opens h t) ≡ true) → (ts : Tokens) × Piece h ts
          → (opens g t ≡ true → HasMore (Piece g) (t ∷ []))
          → (nullable g ≡ true → opens h t ≡ true → HasMore (Piece h) (t ∷ []))
          → HasMore (Piece (both f g h)) (t ∷ [])
      begun-or f g h t (inl e) s x y = let u = x e in
          (u.0 ++ s.0, (f u.1.0 s.1.0, (t ∷ u.0, s.0, u.1.0, s.1.0, refl, u.1.1, s.1.1, refl)))
      begun-or f g h t (inr e) s x y = let p = and-true _ _ e in let u = empty-piece g p.0 in
          let v = y p.0 p.1 in
          (v.0, (f u.0 v.1.0, ([], t ∷ v.0, u.0, v.1.0, refl, u.1, v.1.1, refl)))

      -- of a choice, by either branch
      begun-alt : {A : Type 0} (g h : G X Sem A) (t : Token)
          → (opens g t ≡ true) ⊎ (opens h t ≡ true)
          → (opens g t ≡ true → HasMore (Piece g) (t ∷ []))
          → (opens h t ≡ true → HasMore (Piece h) (t ∷ [])) → HasMore (Piece (alt g h)) (t ∷ [])
      begun-alt g h t (inl e) x y = let u = x e in (u.0, (u.1.0, inl u.1.1))
      begun-alt g h t (inr e) x y = let u = y e in (u.0, (u.1.0, inr u.1.1))

      -- the same of a row of heads and bodies, by its first head or body
      pub begun-links : {A B C D I : Type 0} (f : List I → A) (u : B → C → I) (v : B → D → I)
          (h : G X Sem B) (k : G X Sem C) (l : G X Sem D) (t : Token)
          → (opens h t ≡ true) ⊎ ((nullable h && (opens k t || opens l t)) ≡ true)
          → (ts : Tokens) × Piece l ts
          → (opens h t ≡ true → HasMore (Piece h) (t ∷ []))
          → (nullable h ≡ true → opens k t ≡ true → HasMore (Piece k) (t ∷ []))
          → (nullable h ≡ true → opens l t ≡ true → HasMore (Piece l) (t ∷ []))
          → HasMore (Some_of (Links u v (Tree h) (Tree k) (Tree l))) (t ∷ [])
      begun-links f u v h k l t (inl e) s x y z = let w = x e in (
        w.0 ++ s.0,
        (v w.1.0 s.1.0 ∷ [], (t ∷ w.0, s.0, w.1.0, refl, w.1.1, inr (s.1.0, s.1.1, refl, refl))),
      )
      begun-links {B = B} {I = I} f u v h k l t (inr e) s x y z =
          let p = and-true _ _ e in let w = empty-piece h p.0 in
          go w.0 w.1 (y p.0) (z p.0) (or-true _ _ p.1)
        where
          go : (b : B) → Tree h [] b → (opens k t ≡ true → HasMore (Piece k) (t ∷ []))
              → (opens l t ≡ true → HasMore (Piece l) (t ∷ []))
              → (opens k t ≡ true) ⊎ (opens l t ≡ true)
              → HasMore (Some_of (Links u v (Tree h) (Tree k) (Tree l))) (t ∷ [])
          go b d y z (inl e) = let w = y e in (
            w.0,
            (
              u b w.1.0 ∷ [],
              (
                [],
                t ∷ w.0,
                b,
                refl,
                d,
                inl (t ∷ w.0, [], w.1.0, sym (append-nil (t ∷ w.0)), w.1.1, refl, refl),
              ),
            ),
          )
          go b d y z (inr e) = let w = z e in
              (w.0, (v b w.1.0 ∷ [], ([], t ∷ w.0, b, refl, d, inr (w.1.0, w.1.1, refl, refl))))

      -- a token that the grammar starts with is the first of a piece, where no nonterminal stands
      -- at the front
      pub begun-guarded : {A : Type 0} (g : G X Sem A) → IsOneToken g → guarded g ≡ true
          → (t : Token) → opens g t ≡ true → HasMore (Piece g) (t ∷ [])
      begun-guarded (ret b) l w t e = absurd (cc)
      begun-guarded (tok begins look f) l w t e = ([], (f t, (t, refl, e, refl)))
      begun-guarded (both f g h) l w t e = let p = and-true (guarded g) _ w in
          begun-or f g h t (or-true _ _ e) (sample h l.1) (begun-guarded g l.0 p.0 t)
          (λ n. begun-guarded h l.1 (not-or (nullable g) (guarded h) p.1 n) t)
      begun-guarded (alt g h) l w t e = let p = and-true (guarded g) (guarded h) w in
          begun-alt g h t (or-true _ _ e) (begun-guarded g l.0 p.0 t) (begun-guarded h l.1 p.1 t)
      begun-guarded (star f g) l w t e = let u = begun-guarded g l.0 w t e in (
        u.0,
        (
          f (u.1.0 ∷ []),
          (u.1.0 ∷ [], (t ∷ u.0, [], sym (append-nil (t ∷ u.0)), u.1.1, refl), refl),
        ),
      )
      begun-guarded (chain f u v h k l) o w t e = let p = and-true (guarded h) _ w in
          let z = begun-links f u v h k l t (or-true _ _ e) (sample l o.2)
          (begun-guarded h o.0 p.0 t)
          (λ n. begun-guarded k o.1
          (and-true (guarded k) (guarded l) (not-or (nullable h) (guarded k && guarded l) p.1 n)).0
          t)
          (λ n. begun-guarded l o.2
          (and-true (guarded k) (guarded l) (not-or (nullable h) (guarded k && guarded l) p.1 n)).1
          t) in (z.0, (f z.1.0, (z.1.0, z.1.1, refl)))
      begun-guarded (made f g) l w t e = let u = begun-guarded g l w t e in
          (u.0, (f u.1.0, (u.1.0, u.1.1, refl)))
      begun-guarded (placed f g) l w t e = let u = begun-guarded g l.0 w t e in
          (u.0, (f t.place u.1.0, (u.1.0, u.1.1, refl)))
      begun-guarded (kid x f) l w t e = absurd (cc)

      module _ (kid_begun : (x : X) (t : Token) → kid_starts x t ≡ true
          → HasMore (Some_of (Derived x)) (t ∷ [])) where
        -- a token that the grammar starts with is the first of a piece
        pub begun : {A : Type 0} (g : G X Sem A) → IsOneToken g → (t : Token) → opens g t ≡ true
            → HasMore (Piece g) (t ∷ [])
        begun (ret b) l t e = absurd (cc)
        begun (tok begins look f) l t e = ([], (f t, (t, refl, e, refl)))
        begun (both f g h) l t e =
            begun-or f g h t (or-true _ _ e) (sample h l.1) (begun g l.0 t) (λ _. begun h l.1 t)
        begun (alt g h) l t e = begun-alt g h t (or-true _ _ e) (begun g l.0 t) (begun h l.1 t)
        begun (star f g) l t e = let u = begun g l.0 t e in (
          u.0,
          (
            f (u.1.0 ∷ []),
            (u.1.0 ∷ [], (t ∷ u.0, [], sym (append-nil (t ∷ u.0)), u.1.1, refl), refl),
          ),
        )
        begun (chain f u v h k l) o t e =
            let w = begun-links f u v h k l t (or-true _ _ e) (sample l o.2) (begun h o.0 t)
            (λ _. begun k o.1 t) (λ _. begun l o.2 t) in (w.0, (f w.1.0, (w.1.0, w.1.1, refl)))
        begun (made f g) l t e = let u = begun g l t e in (u.0, (f u.1.0, (u.1.0, u.1.1, refl)))
        begun (placed f g) l t e = let u = begun g l.0 t e in
            (u.0, (f t.place u.1.0, (u.1.0, u.1.1, refl)))
        begun (kid x f) l t e = let u = kid_begun x t e in (u.0, (f u.1.0, (u.1.0, u.1.1, refl)))
        -- what is too deep goes on
