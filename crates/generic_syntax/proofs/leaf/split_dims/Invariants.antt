use Rattle.std.proofs.Common.{◌++◌, ◌≡◌, ◌≤◌, ◌-◌, length, take, drop, []}
use Rattle.generic_syntax.specs.Dims.{known}
use Rattle.generic_syntax.specs.Values as spec
use Rattle.generic_syntax.proofs.leaf.split_dims.Given as goal

abbrev pub invariant-loop-at : goal.invariant-loop-at
invariant-loop-at l =
    (l.found ++ spec.dims_from (known (take (l.at - l.from) (drop l.from l.text))) (drop l.at l.text)
    ≡ spec.dims_from [] l.text) × (l.from ≤ l.at) × (l.at ≤ length l.text)

abbrev pub decreases-loop-at : goal.decreases-loop-at
decreases-loop-at l = length l.text - l.at
