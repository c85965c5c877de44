use Rattle.std.proofs.Common.{rules}
use Rattle.grammar.proofs.Runs.{took-ok, took-err, took-exit}
use Rattle.generic_syntax.specs.Operations.{size_of}
use Rattle.generic_syntax.proofs.module.names.pack_size.Goals as goal

pub returns-in_err-expect : goal.returns-in_err-expect
returns-in_err-expect g c = took-exit c.from_residual-in_err-expect.ensures
    (took-err c.in_err-expect.ensures.took)

pub returns : goal.returns
unfolding size_of
returns g c = took-ok size_of (search rules) c.in_ok-expect.ensures.took
