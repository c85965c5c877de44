-- Numbers that are kept: what the test of a kind and a range says, and that a number may be cut
-- down where none is so great.
use Rattle.std.proofs.Common.{◌≡◌, ℕ, ◌-◌, ◌^◌, ◌≤◌, inl, inr, min, Bool, true, false, ◌&&◌, not, refl, sym, ◌∙◌, ap, arith, ℤ, pos, neg_ℤ, ◌≤ℤ◌, ◌<ℤ◌, ◌-ℤ◌, int_le, nat_le, if◌then◌else◌, subst, FitsSigned, w64}
use Rattle.std.specs.Prelude.{Option, Some, None, IfSome, IfNone, cond}
use Rattle.std.proofs.Math.Nat.{min-eq_left, min-eq_right}
use Rattle.std.proofs.Math.Pow.{pow_mono}
use Rattle.std.proofs.lemmas.Bool.{cases_lt}
use Rattle.std.proofs.lemmas.Bool.Decides.{nat_tests}
use Rattle.std.proofs.lemmas.Int.{ints}
use Rattle.attr_value.specs.declared.kind.IntKind.{IntKind}
use Rattle.attr_value.specs.declared.kind.IntKind.TheVariants.{Index, Signless, Signed, Unsigned}
use Rattle.attr_value.specs.declared.number.TheConstants.{NUMBER_WIDTH_LIMIT}
use Rattle.attr_value.specs.Numbers.{IsNumberWidth, HasNumbers, IsInRange, IsKept, kept, limit, lowest, power}
use Rattle.attr_value.proofs.Powers.{twice-power}
use Rattle.value_meaning.specs.declared.digits.TheConstants.{TOO_GREAT}
use Rattle.value_meaning.specs.Spelled.{is_number_kind, is_in_range, residue}

-- ---- what the tests say

width-true : (width : ℕ) → (nat_le 1 width && nat_le width NUMBER_WIDTH_LIMIT) ≡ true
    → IsNumberWidth width
width-true width e = (grind (arith, nat_tests), grind (arith, nat_tests))

width-false : (width : ℕ) → (nat_le 1 width && nat_le width NUMBER_WIDTH_LIMIT) ≡ false
    → IsNumberWidth width → ⊥
width-false width e is = grind (arith, nat_tests)

is_number_kind-true : (kind : IntKind) → is_number_kind kind ≡ true → HasNumbers kind
is_number_kind-true Index e = tt
is_number_kind-true (Signless width) e = width-true width e
is_number_kind-true (Signed width) e = width-true width e
is_number_kind-true (Unsigned width) e = width-true width e

is_number_kind-false : (kind : IntKind) → is_number_kind kind ≡ false → HasNumbers kind → ⊥
is_number_kind-false Index e is = absurd (cc)
is_number_kind-false (Signless width) e is = width-false width e is
is_number_kind-false (Signed width) e is = width-false width e is
is_number_kind-false (Unsigned width) e is = width-false width e is

range-true : (low high n : ℤ) → (int_le low n && not (int_le high n)) ≡ true
    → (low ≤ℤ n) × (n <ℤ high)
range-true low high n e = (grind (arith, ints), grind (arith, ints))

range-false : (low high n : ℤ) → (int_le low n && not (int_le high n)) ≡ false
    → (low ≤ℤ n) × (n <ℤ high) → ⊥
range-false low high n e is = let a = is.0 in let b = is.1 in grind (arith, ints)

-- ---- what is kept

-- what is kept, by what is asked of the kind and of the number
residue-by : (kind : IntKind) (n : ℤ) (has in_range : Bool) (r : Option ℤ)
    → is_number_kind kind ≡ has → is_in_range kind n ≡ in_range
    → IfSome r (λ m. HasNumbers kind × IsInRange kind n × (m ≡ kept kind n))
    → IfNone r (HasNumbers kind → IsInRange kind n → ⊥)
    → r ≡ cond (has && in_range) (Some (kept kind n)) None
residue-by kind n true true None has in_range some none =
    absurd (none (is_number_kind-true kind has) (range-true (lowest kind) (limit kind) n in_range))
residue-by kind n true true (Some m) has in_range some none = ap Some some.2
residue-by kind n true false None has in_range some none = refl
residue-by kind n true false (Some m) has in_range some none =
    absurd (range-false (lowest kind) (limit kind) n in_range some.1)
residue-by kind n false in_range None has is some none = refl
residue-by kind n false in_range (Some m) has is some none =
    absurd (is_number_kind-false kind has some.0)

-- what is kept of a number that may be written, and of no other, is its residue
pub residue-is : (kind : IntKind) (n : ℤ) (r : Option ℤ)
    → IfSome r (λ m. HasNumbers kind × IsInRange kind n × (m ≡ kept kind n))
    → IfNone r (HasNumbers kind → IsInRange kind n → ⊥) → r ≡ residue kind n
unfolding residue
residue-is kind n r some none =
    residue-by kind n (is_number_kind kind) (is_in_range kind n) r refl refl some none

-- ---- numbers that are cut down

-- the powers of a width that numbers may have
width-powers : (width : ℕ) → IsNumberWidth width
    → (2 ^ width ≤ 2 ^ 64) × (2 ^ (width - 1) ≤ 2 ^ 63)
width-powers width is =
    let low = is.0 in let high = is.1 in
    (pow_mono {i = width} {j = 64} is.1, pow_mono {i = width - 1} {j = 63} (omega arith))

-- no kind has so great a number, nor the negative of one
too-great : (kind : IntKind) (n : ℕ) → TOO_GREAT ≤ n → HasNumbers kind
    → (IsInRange kind (pos n) → ⊥) × (IsInRange kind (neg_ℤ (pos n)) → ⊥)
too-great Index n great has = (
  λ is. let high = is.1 in omega (arith, ints),
  λ is. let low = is.0 in omega (arith, ints),
)
too-great (Signless width) n great has =
    let p = width-powers width has in let whole = p.0 in let half = p.1 in
    (λ is. let high = is.1 in omega (arith, ints), λ is. let low = is.0 in omega (arith, ints))
too-great (Signed width) n great has =
    let p = width-powers width has in let whole = p.0 in let half = p.1 in
    (λ is. let high = is.1 in omega (arith, ints), λ is. let low = is.0 in omega (arith, ints))
too-great (Unsigned width) n great has =
    let p = width-powers width has in let whole = p.0 in
    (λ is. let high = is.1 in omega (arith, ints), λ is. let low = is.0 in omega (arith, ints))

-- a number with its minus or without one
abbrev with-sign : Bool → ℕ → ℤ
with-sign negative n = if negative then neg_ℤ (pos n) else pos n

residue-too-great : (kind : IntKind) (negative : Bool) (n : ℕ) → TOO_GREAT ≤ n
    → residue kind (with-sign negative n) ≡ None
residue-too-great kind true n great =
    sym (residue-is kind (neg_ℤ (pos n)) None tt (λ has is. (too-great kind n great has).1 is))
residue-too-great kind false n great =
    sym (residue-is kind (pos n) None tt (λ has is. (too-great kind n great has).0 is))

-- what is kept of a number is kept of it where it is cut down
pub residue-cut : (kind : IntKind) (negative : Bool) (n : ℕ)
    → residue kind (if negative then neg_ℤ (pos (min n TOO_GREAT)) else pos (min n TOO_GREAT))
    ≡ residue kind (if negative then neg_ℤ (pos n) else pos n)
residue-cut kind negative n = elim (cases_lt n TOO_GREAT) [
  | inl less ↦
      ap (λ m. residue kind (with-sign negative m)) (min-eq_left (omega arith))
  | inr great ↦
      let cut : min n TOO_GREAT ≡ TOO_GREAT = min-eq_right great in
      residue-too-great kind negative (min n TOO_GREAT) (omega arith)
      ∙ sym (residue-too-great kind negative n great)
]

-- ---- numbers that are kept

-- what is kept at a kind
kept-by : (kind : IntKind) (n : ℤ) → HasNumbers kind → IsInRange kind n
    → IsKept kind (kept kind n)
kept-by Index n has is = (has, is)
kept-by (Signed width) n has is = (has, is)
kept-by (Unsigned width) n has is = (has, is)
kept-by (Signless width) n has is =
    go (int_le (power (width - 1)) n) refl
  where
    go : (upper : Bool) → int_le (power (width - 1)) n ≡ upper
        → IsKept (Signless width) (if upper then n -ℤ power width else n)
    go true e =
        let twice = twice-power width has.0 in let low = is.0 in let high = is.1 in
        (has, (grind (arith, ints), grind (arith, ints)))
    go false e = let low = is.0 in let high = is.1 in (has, (low, grind (arith, ints)))

-- what is a residue is kept
pub residue-kept : (kind : IntKind) (n m : ℤ) → residue kind n ≡ Some m → IsKept kind m
unfolding residue
residue-kept kind n m e = go (is_number_kind kind) (is_in_range kind n) refl refl e
  where
    go : (has in_range : Bool) → is_number_kind kind ≡ has → is_in_range kind n ≡ in_range
        → cond (has && in_range) (Some (kept kind n)) None ≡ Some m → IsKept kind m
    go true true has in_range e =
        let same : kept kind n ≡ m = cc in
        subst (IsKept kind) same
        (kept-by kind n (is_number_kind-true kind has)
        (range-true (lowest kind) (limit kind) n in_range))
    go true false has in_range e = absurd (cc)
    go false in_range has is e = absurd (cc)

-- a number that is kept at a signless kind fits 64 bits
pub kept-fits : (width : ℕ) (n : ℤ) → IsKept (Signless width) n → FitsSigned w64 n
kept-fits width n is =
    let p = width-powers width is.0 in let half = p.1 in
    let low = is.1.0 in let high = is.1.1 in omega (arith, ints)
