use Rattle.std.proofs.Common.{◌∙◌}
use Rattle.op_judgement.proofs.Finding.{args-push}
use Rattle.op_judgement.proofs.args.Args.add_block.Goals as goal

pub returns-clause-found : goal.returns-clause-found
returns-clause-found g c = λ old al before over x.
    args-push _ c.arg_types.ensures.later x
    (rw c.as_slice.ensures at (c.in_ok-types.ensures.found old al over))
    c.earlier-self.ensures c.in_ok-push.ensures.ok
