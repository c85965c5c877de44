use Rattle.grammar.proofs.Runs.{exit, at-tok, both-ok, both-first, both-second}
use Rattle.irdl_ops.proofs.read.bodies.operation.Goals as goal

pub returns-in_err-expect_word : goal.returns-in_err-expect_word
returns-in_err-expect_word g c = exit c.from_residual.ensures
    (both-first (at-tok c.in_err-expect_word.ensures.took))

pub returns-in_err-name : goal.returns-in_err-name
returns-in_err-name g c = exit c.from_residual-in_err-name.ensures
    (both-second (at-tok c.in_ok-expect_word.ensures.took)
    (both-first (at-tok c.in_err-name.ensures)))

pub returns-in_err-statements : goal.returns-in_err-statements
returns-in_err-statements g c = exit c.from_residual-in_err-statements.ensures
    (both-second (at-tok c.in_ok-expect_word.ensures.took)
    (both-second (at-tok c.in_ok-name.ensures) c.in_err-statements.ensures))

pub returns : goal.returns
returns g c = both-ok (at-tok c.in_ok-expect_word.ensures.took)
    (both-ok (at-tok c.in_ok-name.ensures) c.in_ok-statements.ensures)
