-- Kept numbers: they are short, are kept again as they are, and those of one bit are two.
use Rattle.std.proofs.Common.{◌≡◌, ℕ, zero, suc, ◌-◌, ◌<◌, ◌≤◌, ◌^◌, Bool, true, false, not, ◌&&◌, ◌⊎◌, inl, inr, refl, ◌∙◌, ap, arith, if◌then◌else◌, nat_le, ℤ, pos, negsuc, neg_ℤ, nat_abs, ◌≤ℤ◌, ◌<ℤ◌, int_le, Some}
use Rattle.std.proofs.lemmas.Bool.{cond-true, le-leb}
use Rattle.std.proofs.lemmas.Float.{T_from_true}
use Rattle.std.proofs.Math.Dec.{T, leb→le, ltb→lt}
use Rattle.std.proofs.Math.Pow.{pow_mono}
use Rattle.std.specs.Int.Signed.{le_z_yes, <ℤ-≤ℤ_trans, clash_ℤ}
use Rattle.attr_value.specs.declared.kind.IntKind.{IntKind}
use Rattle.attr_value.specs.declared.kind.IntKind.TheVariants.{Index, Signless, Signed, Unsigned}
use Rattle.attr_value.specs.Heads.{IsTypeWidth}
use Rattle.attr_value.specs.Numbers.{IsKept, IsNumberWidth, lowest, limit, kept, power}
use Rattle.value_meaning.specs.Spelled.{residue, is_number_kind}

-- ---- how great they are

above-low : (k m : ℕ) → neg_ℤ (pos k) ≤ℤ negsuc m → suc m ≤ k
above-low zero m h = absurd h.le
above-low (suc k) m h = let e : m ≤ k = leb→le m k h.le in omega (arith, e)

under-high : (k m : ℕ) → pos m <ℤ pos k → m < k
under-high k m h = ltb→lt m k h.lt

within-half : (j : ℕ) → j ≤ 63 → (n : ℤ) → neg_ℤ (pos (2 ^ j)) ≤ℤ n → n <ℤ pos (2 ^ j)
    → nat_abs n < 2 ^ 64
within-half j le (pos m) low high =
    let e : m < 2 ^ j = under-high (2 ^ j) m high in
    let p : 2 ^ j ≤ 2 ^ 63 = pow_mono le in omega (arith, e, p)
within-half j le (negsuc m) low high =
    let e : suc m ≤ 2 ^ j = above-low (2 ^ j) m low in
    let p : 2 ^ j ≤ 2 ^ 63 = pow_mono le in omega (arith, e, p)

-- a kept number has 64 bits at most, apart from its sign
pub kept-small : (kind : IntKind) (n : ℤ) → IsKept kind n → nat_abs n < 2 ^ 64
kept-small Index n k = within-half 63 (omega arith) n k.1.0 k.1.1
kept-small (Signless w) n k = within-half (w - 1) (omega (arith, k.0.1)) n k.1.0 k.1.1
kept-small (Signed w) n k = within-half (w - 1) (omega (arith, k.0.1)) n k.1.0 k.1.1
kept-small (Unsigned w) (pos m) k =
    let e : m < 2 ^ w = under-high (2 ^ w) m k.1.1 in
    let p : 2 ^ w ≤ 2 ^ 64 = pow_mono (k.0.1) in omega (arith, e, p)
kept-small (Unsigned w) (negsuc m) k = absurd k.1.0.le

-- an integer type may have the width of a number
pub number-width : (w : ℕ) → IsNumberWidth w → IsTypeWidth w
number-width w k = (k.0, omega (arith, k.1))

-- ---- kept again

true-is : (b : Bool) → T b → b ≡ true
true-is true x = refl
true-is false x = absurd x

low-test : (a n : ℤ) → a ≤ℤ n → int_le a n ≡ true
low-test a n h = true-is (int_le a n) h.le

high-test : (b n : ℤ) → n <ℤ b → int_le b n ≡ false
high-test b n h = go (int_le b n) refl
  where
    go : (q : Bool) → int_le b n ≡ q → q ≡ false
    go true e = clash_ℤ h (le_z_yes {a = b} {b = n} (T_from_true _ e))
    go false e = refl

width-test : (w : ℕ) → IsNumberWidth w → (nat_le 1 w && nat_le w 64) ≡ true
width-test w k = rw (le-leb 1 w k.0, le-leb w 64 k.1) refl

all-three : (a b d : Bool) → a ≡ true → b ≡ true → d ≡ false → (a && (b && not d)) ≡ true
all-three true true false e f g = refl
all-three true true true e f g = absurd (cc)
all-three true false d e f g = absurd (cc)
all-three false b d e f g = absurd (cc)

kept-by : (kind : IntKind) (n : ℤ) → is_number_kind kind ≡ true → lowest kind ≤ℤ n → n <ℤ limit kind
    → kept kind n ≡ n → residue kind n ≡ Some n
unfolding residue
kept-by kind n w low high same =
    cond-true _ _ _ (all-three _ _ _ w (low-test _ n low) (high-test _ n high))
    ∙ ap (λ m. Some m) same

not-upper : (b : Bool) (m n : ℤ) → b ≡ false → (if b then m else n) ≡ n
not-upper true m n e = absurd (cc)
not-upper false m n e = refl

pos-below : (a b : ℕ) → a ≤ b → pos a ≤ℤ pos b
pos-below a b le = le_z_yes {a = pos a} {b = pos b} (T_from_true _ (le-leb a b le))

-- a kept number may be written, and is kept as it is
pub kept-again : (kind : IntKind) (n : ℤ) → IsKept kind n → residue kind n ≡ Some n
kept-again Index n k = kept-by Index n refl k.1.0 k.1.1 refl
kept-again (Signless w) n k =
    kept-by (Signless w) n (width-test w k.0) k.1.0
    (<ℤ-≤ℤ_trans k.1.1 (pos-below (2 ^ (w - 1)) (2 ^ w) (pow_mono (omega arith))))
    (not-upper _ _ n (high-test (power (w - 1)) n k.1.1))
kept-again (Signed w) n k = kept-by (Signed w) n (width-test w k.0) k.1.0 k.1.1 refl
kept-again (Unsigned w) n k = kept-by (Unsigned w) n (width-test w k.0) k.1.0 k.1.1 refl

-- the numbers of one bit
pub kept-bit : (n : ℤ) → IsKept (Signless 1) n → (n ≡ pos 0) ⊎ (n ≡ negsuc 0)
kept-bit (pos m) k = let e : m < 1 = under-high 1 m k.1.1 in let z : m ≡ 0 = omega (arith, e) in
    inl (ap pos z)
kept-bit (negsuc m) k = let e : suc m ≤ 1 = above-low 1 m k.1.0 in
    let z : m ≡ 0 = omega (arith, e) in inr (ap negsuc z)
