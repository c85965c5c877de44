use Rattle.std.proofs.Common.{◌≡◌, ◌≤◌, true, length, drop}
use Rattle.format_checker.specs.Columns.{branch_empty}
use Rattle.format_checker.proofs.columns.empty_from.Given as goal

abbrev pub invariant-loop-at : goal.invariant-loop-at
invariant-loop-at l =
    (branch_empty l.op l.anchor l.at (drop l.at l.items) ≡ true) × (l.at ≤ length l.items)

abbrev pub decreases-loop-at : goal.decreases-loop-at
decreases-loop-at l = l.at
