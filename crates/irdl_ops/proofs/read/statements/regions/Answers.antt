use Rattle.grammar.proofs.Runs.{exit, at-tok, both-ok, both-first, both-second, placed-ok, placed-err}
use Rattle.irdl_ops.proofs.read.statements.regions.Goals as goal

pub returns-in_err-expect_word : goal.returns-in_err-expect_word
returns-in_err-expect_word g c = exit c.from_residual.ensures
    (placed-err (both-first (at-tok c.in_err-expect_word.ensures.took)))

pub returns-in_err-entries : goal.returns-in_err-entries
returns-in_err-entries g c = exit c.from_residual-in_err-entries.ensures
    (placed-err (both-second (at-tok c.in_ok-expect_word.ensures.took) c.in_err-entries.ensures))

pub returns : goal.returns
returns g c = rw c.place-place.ensures
    (placed-ok (both-ok (at-tok c.in_ok-expect_word.ensures.took) c.in_ok-entries.ensures))
