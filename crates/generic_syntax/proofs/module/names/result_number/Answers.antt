use Rattle.std.proofs.Common.{rules}
use Rattle.grammar.proofs.Runs.{took-ok, took-err, took-exit}
use Rattle.generic_syntax.specs.Operations.{number_of}
use Rattle.generic_syntax.proofs.module.names.result_number.Goals as goal

pub returns-in_err-expect : goal.returns-in_err-expect
returns-in_err-expect g c = took-exit c.from_residual-in_err-expect.ensures
    (took-err c.in_err-expect.ensures.took)

pub returns : goal.returns
unfolding number_of
returns g c = took-ok number_of (search rules) c.in_ok-expect.ensures.took
