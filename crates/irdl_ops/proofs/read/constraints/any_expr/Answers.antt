use Rattle.grammar.proofs.Runs.{exit, at-tok, made-ok, made-err}
use Rattle.irdl_ops.proofs.read.constraints.any_expr.Goals as goal

pub returns-in_err-expect_word : goal.returns-in_err-expect_word
returns-in_err-expect_word g c = exit c.from_residual.ensures
    (made-err (at-tok c.in_err-expect_word.ensures.took))

pub returns : goal.returns
returns g c = made-ok (at-tok c.in_ok-expect_word.ensures.took)
