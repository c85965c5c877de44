use Rattle.std.proofs.Common.{◌≡◌, ◌≤◌, ◌-◌, ◌++◌, length, drop}
use Rattle.format_checker.specs.Columns.{branch_starts}
use Rattle.format_checker.proofs.columns.branch_starts.Given as goal

abbrev pub invariant-loop-at : goal.invariant-loop-at
invariant-loop-at l =
    (l.found ++ branch_starts l.op l.anchor l.at (drop l.at l.items)
    ≡ l.fn.found ++ branch_starts l.op l.anchor 0 l.items) × (l.at ≤ length l.items)

abbrev pub decreases-loop-at : goal.decreases-loop-at
decreases-loop-at l = length l.items - l.at
