use Rattle.std.proofs.Common.{arith}
use Rattle.format_checker.specs.Anchors.{item_fault}
use Rattle.format_checker.proofs.Both.{none-second}
use Rattle.format_checker.proofs.anchors.items_fault.Goals as goal

pub returns-else-at-items : goal.returns-else-at-items
returns-else-at-items c =
    none-second (item_fault c.args.op.now c.args.in_first) c.args.raw.now c.args.items.now
    c.loop-at.at (omega arith) c.loop-at.invariant
