use Rattle.grammar.proofs.Runs.{exit, at-tok, both-ok, both-first, both-second, made-ok, made-err}
use Rattle.irdl_ops.proofs.read.constraints.pred_expr.Goals as goal

pub returns-in_err-expect_word : goal.returns-in_err-expect_word
returns-in_err-expect_word g c = exit c.from_residual.ensures
    (both-first (at-tok c.in_err-expect_word.ensures.took))

pub returns-in_err-name : goal.returns-in_err-name
returns-in_err-name g c = exit c.from_residual-in_err-name.ensures
    (both-second (at-tok c.in_ok-expect_word.ensures.took)
    (made-err (at-tok c.in_err-name.ensures)))

pub returns : goal.returns
returns g c = both-ok (at-tok c.in_ok-expect_word.ensures.took)
    (made-ok (at-tok c.in_ok-name.ensures))
