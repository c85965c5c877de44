use Rattle.std.proofs.Common.{◌-◌, length}
use Rattle.format_checker.specs.Anchors.{item_fault}
use Rattle.format_checker.proofs.Both.{NoneBefore}
use Rattle.format_checker.proofs.anchors.items_fault.Given as goal

abbrev pub invariant-loop-at : goal.invariant-loop-at
invariant-loop-at l = NoneBefore (item_fault l.op l.in_first) l.raw l.items l.at

abbrev pub decreases-loop-at : goal.decreases-loop-at
decreases-loop-at l = length l.raw - l.at
