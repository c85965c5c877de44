use Rattle.format_reader.proofs.Runs.{exit, made-err, made-ok}
use Rattle.format_reader.proofs.read.elements.bare.Goals as goal

pub returns-in_err-variable : goal.returns-in_err-variable
returns-in_err-variable c = exit c.from_residual.ensures
    (made-err c.in_err-variable.ensures)

pub returns : goal.returns
returns c = made-ok c.in_ok-variable.ensures
