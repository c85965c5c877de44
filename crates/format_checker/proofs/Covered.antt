-- Lists of looks that ask for the same tokens, by a test that computes.
use Rattle.std.proofs.Common.{◌≡◌, Bool, true, false, ◌&&◌, ◌||◌, List, [], ◌∷◌, inl, inr, refl, sym, subst, bytes_eq}
use Rattle.ir_lexer.specs.declared.class.Class.{Class}
use Rattle.ir_lexer.specs.Classes.{same_class}
use Rattle.ir_lexer.specs.Tokens.{Token}
use Rattle.ir_lexer.proofs.Machine.{same-class-is}
use Rattle.grammar.specs.Looks.{Look, any_of, word, other_word, int_word, dotted, undotted, number_to, has_dot, passes, any}
use Rattle.grammar.proofs.Meet.{and-true, or-true, or-first, true-or, same-text}

-- two looks ask the same
abbrev pub same_look : Look → Look → Bool
same_look (any_of a) (any_of b) = same_class a b
same_look (word v) (word w) = bytes_eq v w
same_look int_word int_word = true
same_look (dotted a) (dotted b) = same_class a b
same_look (undotted a) (undotted b) = same_class a b
same_look p q = false

same-passes : (p q : Look) (t : Token) → same_look p q ≡ true → passes p t ≡ true → passes q t ≡ true
same-passes (any_of a) (any_of b) t e h = subst (λ x. passes (any_of x) t ≡ true) (same-class-is a b e) h
same-passes (word v) (word w) t e h = subst (λ x. passes (word x) t ≡ true) (same-text v w e) h
same-passes int_word int_word t e h = h
same-passes (dotted a) (dotted b) t e h = subst (λ x. passes (dotted x) t ≡ true) (same-class-is a b e) h
same-passes (undotted a) (undotted b) t e h =
    subst (λ x. passes (undotted x) t ≡ true) (same-class-is a b e) h
same-passes _ _ t e h = absurd (cc)

-- the look is one of these
abbrev pub is_in : Look → List Look → Bool
is_in p [] = false
is_in p (q ∷ qs) = same_look p q || is_in p qs

in-passes : (p : Look) (qs : List Look) (t : Token) → is_in p qs ≡ true → passes p t ≡ true
    → any qs t ≡ true
in-passes p [] t e h = absurd (cc)
in-passes p (q ∷ qs) t e h = elim (or-true (same_look p q) (is_in p qs) e) [
  | inl s ↦ or-first (passes q t) (any qs t) (same-passes p q t s h)
  | inr s ↦ true-or (passes q t) (any qs t) (in-passes p qs t s h)
]

-- its tokens pass one of these: it is one of them, or one that asks less of the dots is, or both
-- that ask more are
abbrev pub is_covered : Look → List Look → Bool
is_covered (any_of a) qs =
    is_in (any_of a) qs || (is_in (dotted a) qs && is_in (undotted a) qs)
is_covered (dotted a) qs = is_in (dotted a) qs || is_in (any_of a) qs
is_covered (undotted a) qs = is_in (undotted a) qs || is_in (any_of a) qs
is_covered p qs = is_in p qs

any-of-dots : (a : Class) (qs : List Look) (t : Token) (b : Bool) → has_dot t.text ≡ b
    → is_in (dotted a) qs ≡ true → is_in (undotted a) qs ≡ true → passes (any_of a) t ≡ true
    → any qs t ≡ true
any-of-dots a qs t true d e f h =
    in-passes (dotted a) qs t e (rw (class, d) refl)
  where
    class : same_class t.class a ≡ true
    class = (and-true (same_class t.class a) true h).0
any-of-dots a qs t false d e f h =
    in-passes (undotted a) qs t f (rw (class, d) refl)
  where
    class : same_class t.class a ≡ true
    class = (and-true (same_class t.class a) true h).0

less : (a : Class) (t : Token) (b : Bool) → (same_class t.class a && b) ≡ true
    → passes (any_of a) t ≡ true
less a t b h = rw (and-true (same_class t.class a) b h).0 refl

covered-passes : (p : Look) (qs : List Look) (t : Token) → is_covered p qs ≡ true
    → passes p t ≡ true → any qs t ≡ true
covered-passes (any_of a) qs t e h = elim (or-true (is_in (any_of a) qs) _ e) [
  | inl s ↦ in-passes (any_of a) qs t s h
  | inr s ↦ let both = and-true (is_in (dotted a) qs) (is_in (undotted a) qs) s in
      any-of-dots a qs t (has_dot t.text) refl both.0 both.1 h
]
covered-passes (dotted a) qs t e h = elim (or-true (is_in (dotted a) qs) _ e) [
  | inl s ↦ in-passes (dotted a) qs t s h
  | inr s ↦ in-passes (any_of a) qs t s (less a t _ h)
]
covered-passes (undotted a) qs t e h = elim (or-true (is_in (undotted a) qs) _ e) [
  | inl s ↦ in-passes (undotted a) qs t s h
  | inr s ↦ in-passes (any_of a) qs t s (less a t _ h)
]
covered-passes (word w) qs t e h = in-passes (word w) qs t e h
covered-passes (other_word ws) qs t e h = in-passes (other_word ws) qs t e h
covered-passes int_word qs t e h = in-passes int_word qs t e h
covered-passes (number_to n) qs t e h = in-passes (number_to n) qs t e h

-- the tokens of the first looks pass one of the second
abbrev pub all_covered : List Look → List Look → Bool
all_covered [] qs = true
all_covered (p ∷ ps) qs = is_covered p qs && all_covered ps qs

pub any-covered : (ps qs : List Look) (t : Token) → all_covered ps qs ≡ true → any ps t ≡ true
    → any qs t ≡ true
any-covered [] qs t e h = absurd (cc)
any-covered (p ∷ ps) qs t e h =
    let both = and-true (is_covered p qs) (all_covered ps qs) e in
    elim (or-true (passes p t) (any ps t) h) [
      | inl s ↦ covered-passes p qs t both.0 s
      | inr s ↦ any-covered ps qs t both.1 s
    ]

-- two tests that lead to each other have one answer
pub same-truth : (a b : Bool) → (a ≡ true → b ≡ true) → (b ≡ true → a ≡ true) → a ≡ b
same-truth true b f g = sym (f refl)
same-truth false true f g = g refl
same-truth false false f g = refl
