use Rattle.module_builder.proofs.Counting.{args-more}
use Rattle.module_builder.proofs.firsts.Numbering.pass_args.Goals as goal

pub loop-preserved : goal.loop-preserved
loop-preserved c = (
  args-more _ _ _ _ _ _ _ _ c.loop-test.true c.loop.invariant.0 c.in_ok-push.ensures.items
      c.in_ok-self.ensures,
  c.loop.invariant.1,
)
