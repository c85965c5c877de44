use Rattle.format_reader.proofs.Runs.{exit, placed-err, placed-ok}
use Rattle.format_reader.proofs.read.elements.all_results.Goals as goal

pub returns-in_err-expect_word : goal.returns-in_err-expect_word
returns-in_err-expect_word c = exit c.from_residual.ensures
    (placed-err c.in_err-expect_word.ensures)

pub returns : goal.returns
returns c = placed-ok c.place-at.ensures.place c.place-at.ensures.some c.in_ok-expect_word.ensures
