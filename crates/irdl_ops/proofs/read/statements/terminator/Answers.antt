use Rattle.grammar.proofs.Runs.{exit, at-tok, placed-ok, placed-err}
use Rattle.irdl_ops.proofs.read.statements.terminator.Goals as goal

pub returns-in_err-expect_word : goal.returns-in_err-expect_word
returns-in_err-expect_word g c = exit c.from_residual.ensures
    (placed-err (at-tok c.in_err-expect_word.ensures.took))

pub returns : goal.returns
returns g c = rw c.place-place.ensures (placed-ok (at-tok c.in_ok-expect_word.ensures.took))
