use Rattle.format_checker.specs.Shown.{element_showings}
use Rattle.format_checker.proofs.Noted.{saw-more}
use Rattle.std.proofs.Common.{arith}
use Rattle.format_checker.proofs.shown.Shown.of.Goals as goal

pub loop-at-preserved : goal.loop-at-preserved
loop-at-preserved c = (
  saw-more (element_showings c.args.op.now) c.args.elements.now c.loop-at.at
      c.index-elements-at.result c.loop-at.shown _ c.loop-at-test.true c.index-elements-at.is
      c.loop-at.invariant.0 c.in_ok-note_element.ensures,
  omega arith,
)
