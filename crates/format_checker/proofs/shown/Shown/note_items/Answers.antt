use Rattle.format_checker.specs.Shown.{item_showings}
use Rattle.format_checker.proofs.Noted.{notes-none, notes-more}
use Rattle.std.proofs.Common.{arith}
use Rattle.format_checker.proofs.shown.Shown.note_items.Goals as goal

pub loop-at-init : goal.loop-at-init
loop-at-init c = (notes-none c.args.self.now, omega arith)

pub loop-at-preserved : goal.loop-at-preserved
loop-at-preserved c = (
  notes-more (item_showings c.args.op.now) c.args.items.now c.loop-at.at c.index-items-at.result
      c.args.self.now c.loop-at.self _ c.loop-at-test.true c.index-items-at.is c.loop-at.invariant.0
      c.in_ok-note_kind.ensures,
  omega arith,
)
