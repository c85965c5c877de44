use Rattle.std.proofs.Common.{◌-◌, length}
use Rattle.format_checker.specs.Anchors.{element_fault}
use Rattle.format_checker.proofs.Both.{NoneBefore}
use Rattle.format_checker.proofs.anchors.first_group_fault.Given as goal

abbrev pub invariant-loop-at : goal.invariant-loop-at
invariant-loop-at l = NoneBefore (element_fault l.op) l.raw l.elements l.at

abbrev pub decreases-loop-at : goal.decreases-loop-at
decreases-loop-at l = length l.raw - l.at
