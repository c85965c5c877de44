use Rattle.grammar.proofs.Runs.{exit, made-ok, made-err}
use Rattle.irdl_ops.proofs.read.file.Goals as goal

pub returns-in_err-dialects : goal.returns-in_err-dialects
returns-in_err-dialects g c = exit c.from_residual.ensures (made-err c.in_err-dialects.ensures)

pub returns : goal.returns
returns g c = made-ok c.in_ok-dialects.ensures
