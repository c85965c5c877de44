use Rattle.std.proofs.Common.{arith}
use Rattle.format_checker.specs.Anchors.{element_fault}
use Rattle.format_checker.proofs.Both.{none-second}
use Rattle.format_checker.proofs.anchors.first_group_fault.Goals as goal

pub returns-else-at-elements : goal.returns-else-at-elements
returns-else-at-elements c =
    none-second (element_fault c.args.op.now) c.args.raw.now c.args.elements.now c.loop-at.at
    (omega arith) c.loop-at.invariant
