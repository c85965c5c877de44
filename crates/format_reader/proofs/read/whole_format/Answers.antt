use Rattle.format_reader.proofs.Runs.{whole-ok, whole-at, whole-err, whole-exit}
use Rattle.format_reader.proofs.read.whole_format.Goals as goal

pub returns-in_err-elements : goal.returns-in_err-elements
returns-in_err-elements c = whole-exit c.from_residual.ensures (whole-err c.in_err-elements.ensures)

pub returns-in_err-expect_end : goal.returns-in_err-expect_end
returns-in_err-expect_end c = whole-exit c.from_residual-in_err-expect_end.ensures
    (whole-at c.in_ok-elements.ensures c.in_err-expect_end.ensures)

pub returns : goal.returns
returns c = whole-ok c.in_ok-elements.ensures c.in_ok-expect_end.ensures
