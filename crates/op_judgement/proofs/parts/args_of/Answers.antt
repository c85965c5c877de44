use Rattle.std.proofs.Common.{[]}
use Rattle.op_judgement.proofs.Finding.{args-none}
use Rattle.op_judgement.proofs.parts.args_of.Goals as goal

pub returns-clause-found : goal.returns-clause-found
returns-clause-found g c = λ old al over.
    rw c.as_slice.ensures at (c.in_ok-add_regions.ensures.found old al [] over
    (args-none c.args.u.now c.new-args.result c.new-args.ensures.types c.new-args.ensures.first))
