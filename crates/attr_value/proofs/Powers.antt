-- Powers of two.
use Rattle.std.proofs.Common.{◌≡◌, ℕ, suc, ◌-◌, ◌≤◌, ◌*◌, ◌^◌, ap, sym, arith, ◌∙◌}
use Rattle.std.specs.Prelude.{pos, ◌*ℤ◌}
use Rattle.std.proofs.Math.Nat.{pow-succ'}
use Rattle.attr_value.specs.Numbers.{power}

-- a power of two is twice the one before it
twice : (n : ℕ) → 1 ≤ n → 2 * 2 ^ (n - 1) ≡ 2 ^ n
twice n one =
    let next : suc (n - 1) ≡ n = omega arith in
    sym (pow-succ' 2 (n - 1)) ∙ ap (λ m. 2 ^ m) next

-- the same of signed numbers
pub twice-power : (n : ℕ) → 1 ≤ n → (pos 2 *ℤ power (n - 1)) ≡ power n
twice-power n one = ap pos (twice n one)
