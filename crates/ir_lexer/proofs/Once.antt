-- A text has one list of tokens, whose last token alone is the end.
use Rattle.std.proofs.Common.{◌≡◌, inl, inr, ℕ, suc, ◌+◌, ◌<◌, ◌≤◌, Bool, true, false}
use Rattle.std.proofs.Common.{not, ◌&&◌, ◌==◌, if◌then◌else◌, slice_index, List, [], ◌∷◌, ◌++◌}
use Rattle.std.proofs.Common.{length, take, drop, refl, sym, ◌∙◌, ap, subst, arith, length-drop}
use Rattle.std.proofs.lemmas.Bool.{cases_lt}
use Rattle.ir_lexer.specs.declared.class.Class.{Class}
use Rattle.ir_lexer.specs.declared.class.Class.TheVariants as c
use Rattle.ir_lexer.specs.Spelling.{Text, Spells}
use Rattle.ir_lexer.specs.Signs.{line_feed, slash}
use Rattle.ir_lexer.specs.Tokens.{is_blank, Token, IsLongest, IsFront, IsNext, AreTokensFrom, layout_len}
use Rattle.ir_lexer.proofs.Machine.{accepted}
use Rattle.ir_lexer.proofs.Next.{moves}

-- no two classes have a spelling in common
one-class : (a b : Class) (t : Text) → Spells a t → Spells b t → a ≡ b
one-class a b t f g = sym (accepted a t f).1 ∙ (accepted b t g).1

-- of two longest prefixes neither is longer
not-longer : (t : Text) (a b : Class) (n m : ℕ) → IsLongest t a n → IsLongest t b m
    → n < m → ⊥
not-longer t a b n m x y less = x.longest m b (omega arith) y.within.1 y.spelled

same-number : (n m : ℕ) → (n < m → ⊥) → (m < n → ⊥) → n ≡ m
same-number n m p q = elim (cases_lt n m) [
  | inl less ↦ absurd (p less)
  | inr ge ↦ (elim (cases_lt m n) [ inl less ↦ absurd (q less) | inr le ↦ omega arith ])
]

same-length : (t : Text) (a b : Class) (n m : ℕ) → IsLongest t a n → IsLongest t b m → n ≡ m
same-length t a b n m x y = same-number n m (not-longer t a b n m x y) (not-longer t b a m n y x)

one-front : (t : Text) (a b : Class) (n m : ℕ) → IsFront t a n → IsFront t b m
    → (a ≡ b) × (n ≡ m)
unfolding IsFront
one-front [] a b n m x y = (x.0 ∙ sym y.0, x.1 ∙ sym y.1)
one-front (k ∷ t) a b n m (inl x) (inl y) =
    let same = same-length (k ∷ t) a b n m x y in
    let spelled : Spells b (take n (k ∷ t)) =
    subst (λ (i : ℕ). Spells b (take i (k ∷ t))) (sym same) y.spelled in
    (one-class a b (take n (k ∷ t)) x.spelled spelled, same)
one-front (k ∷ t) a b n m (inl x) (inr y) = absurd (y.2 n a (omega arith) x.within.1 x.spelled)
one-front (k ∷ t) a b n m (inr x) (inl y) = absurd (x.2 m b (omega arith) y.within.1 y.spelled)
one-front (k ∷ t) a b n m (inr x) (inr y) = (x.0 ∙ sym y.0, x.1 ∙ sym y.1)

-- a token of this class, text and place
abbrev token_of : Class → Text → ℕ → Token
token_of class text place = record { class = class; text = text; place = place }

same-token : (a b : Class) (x y : Text) (p q : ℕ) → a ≡ b → x ≡ y → p ≡ q
    → token_of a x p ≡ token_of b y q
same-token a b x y p q e f h =
    ap (λ c. token_of c x p) e ∙ ap (λ t. token_of b t p) f ∙ ap (λ n. token_of b y n) h

one-next : (src : Text) (at : ℕ) (t u : Token) → IsNext src at t → IsNext src at u → t ≡ u
one-next src at t u x y =
    let place : t.place ≡ u.place = x.place ∙ sym y.place in
    let front = one-front (drop t.place src) t.class u.class (length t.text) (length u.text) x.front
    (subst (λ (p : ℕ). IsFront (drop p src) u.class (length u.text)) (sym place) y.front) in
    let text : t.text ≡ u.text =
    x.text ∙ ap (λ n. take n (drop t.place src)) front.1
    ∙ ap (λ p. take (length u.text) (drop p src)) place ∙ sym y.text in
    same-token t.class u.class t.text u.text t.place u.place front.0 text place

-- a text has one list of tokens from a place on
pub one-list : (src : Text) (at : ℕ) (ts us : List Token) → AreTokensFrom src at ts
    → AreTokensFrom src at us → ts ≡ us
one-list src at [] us x y = absurd x
one-list src at ts [] x y = absurd y
one-list src at (t ∷ []) (u ∷ []) x y = ap (λ k. k ∷ []) (one-next src at t u x.0 y.0)
one-list src at (t ∷ []) (u ∷ v ∷ us) x y =
    absurd (y.1 (ap (λ k. k.class) (sym (one-next src at t u x.0 y.0)) ∙ x.1))
one-list src at (t ∷ v ∷ ts) (u ∷ []) x y =
    absurd (x.1 (ap (λ k. k.class) (one-next src at t u x.0 y.0) ∙ y.1))
one-list src at (t ∷ v ∷ ts) (u ∷ w ∷ us) x y =
    let same = one-next src at t u x.0 y.0 in
    let rest = one-list src (t.place + length t.text) (v ∷ ts) (w ∷ us) x.2
    (subst (λ (k : Token). AreTokensFrom src (k.place + length k.text) (w ∷ us)) (sym same) y.2) in
    ap (λ k. k ∷ v ∷ ts) same ∙ ap (λ k. u ∷ k) rest

-- nothing stands behind the end
pub end_is_last : (src : Text) (at : ℕ) (front : List Token) (t : Token) (rest : List Token)
    → AreTokensFrom src at (front ++ t ∷ rest) → t.class ≡ c.End → rest ≡ []
end_is_last src at [] t [] x e = refl
end_is_last src at [] t (u ∷ rest) x e = absurd (x.1 e)
end_is_last src at (a ∷ []) t rest x e = end_is_last src (a.place + length a.text) [] t rest x.2 e
end_is_last src at (a ∷ b ∷ front) t rest x e =
    end_is_last src (a.place + length a.text) (b ∷ front) t rest x.2 e

layout-within : (in_comment : Bool) (t : Text) → layout_len in_comment t ≤ length t
layout-within in_comment [] = omega arith
layout-within true (b ∷ t) = let rest = layout-within (not (b == line_feed)) t in omega arith
layout-within false (b ∷ t) =
    go (is_blank b) ((b == slash) && (slice_index t 0 == slash)) (layout-within false t)
    (layout-within true t)
  where
    go : (blank comment : Bool) → layout_len false t ≤ length t → layout_len true t ≤ length t
        → (if blank then suc (layout_len false t)
        else (if comment then suc (layout_len true t) else 0)) ≤ suc (length t)
    go true comment x y = omega arith
    go false true x y = omega arith
    go false false x y = omega arith

next-within : (src : Text) (at : ℕ) (t : Token) → at ≤ length src → IsNext src at t
    → t.place ≤ length src
next-within src at t le x =
    let layout = layout-within false (drop at src) in
    rw x.place (omega (arith, length-drop at src))

-- each token stands in the text
pub placed-within : (src : Text) (at : ℕ) (front : List Token) (t : Token) (rest : List Token)
    → at ≤ length src → AreTokensFrom src at (front ++ t ∷ rest) → t.place ≤ length src
placed-within src at [] t [] le x = next-within src at t le x.0
placed-within src at [] t (u ∷ rest) le x = next-within src at t le x.0
placed-within src at (a ∷ []) t rest le x =
    let m = moves src at a x.0 x.1 in
    placed-within src (a.place + length a.text) [] t rest m.1 x.2
placed-within src at (a ∷ b ∷ front) t rest le x =
    let m = moves src at a x.0 x.1 in
    placed-within src (a.place + length a.text) (b ∷ front) t rest m.1 x.2
