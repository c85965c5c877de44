-- Values that nest little enough: they are values, and nothing in them is too deep.
use Rattle.std.proofs.Common.{ℕ, zero, suc, ◌==◌}
use Rattle.generic_syntax.specs.declared.cst.ValueCst.{ValueCst}
use Rattle.generic_syntax.specs.Nested.{IsValue, value_looks, value_more_looks, deep}
use Rattle.generic_syntax.specs.Values.{Sort, rule}
use Rattle.generic_syntax.proofs.Knot.{kids, samples, begun, deep-some, deep-seen, fold, one-of-checks}
use Rattle.grammar.specs.Front.{Shallow}
use Rattle.grammar.specs.Grammar.{Tokens}
use Rattle.grammar.specs.OneToken.{by_looks}
use Rattle.grammar.specs.Within.{Within}
use Rattle.generic_syntax.proofs.OneToken.{decided}
use Rattle.grammar.proofs.Begun.{IsOneToken}
use Rattle.grammar.proofs.Check.{checked}
use Rattle.grammar.proofs.Shallow.{within-derived, within-shallow}

-- The tokens are spelled with this tree, in which values nest less than n deep, those that a key
-- alone stands for among them.
abbrev pub within : ℕ → (x : Sort) → Tokens → ValueCst → Type 0
within zero x ts v = ⊥
within (suc n) x ts v = Within (within n) (n == 0) (rule x) ts v

-- one token decides in each rule
one-token : (x : Sort) → IsOneToken IsValue (by_looks value_looks) (rule x)
one-token x = one-of-checks (rule x) (checked value_looks value_more_looks (rule x) (decided x))

-- what nests less than n deep is a value, and has no front in which something nests too deep
pub within-value : (n : ℕ) (x : Sort) (ts : Tokens) (v : ValueCst) → within n x ts v
    → IsValue x ts v × Shallow (deep n x) ts
within-value zero x ts v w = absurd w
within-value (suc n) x ts v w = (
  fold x ts v (within-derived (within n) IsValue (λ y us c d. (within-value n y us c d).0) (n == 0)
      (rule x) ts v w),
  within-shallow (within n) IsValue (by_looks value_looks) kids samples begun (deep n) (deep-some n)
      (deep-seen n) (n == 0)
      (λ y us c d. (within-value n y us c d).0) (λ y us c d. (within-value n y us c d).1) (rule x)
      (one-token x) ts v w,
)
