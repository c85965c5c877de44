use Rattle.grammar.proofs.Runs.{exit, at-tok, both-ok, both-first, both-second, made-ok, made-err}
use Rattle.irdl_ops.proofs.read.constraints.all_of_expr.Goals as goal

pub returns-in_err-expect_word : goal.returns-in_err-expect_word
returns-in_err-expect_word g c = exit c.from_residual.ensures
    (both-first (at-tok c.in_err-expect_word.ensures.took))

pub returns-in_err-members : goal.returns-in_err-members
returns-in_err-members g c = exit c.from_residual-in_err-members.ensures
    (both-second (at-tok c.in_ok-expect_word.ensures.took) (made-err c.in_err-members.ensures))

pub returns : goal.returns
returns g c = both-ok (at-tok c.in_ok-expect_word.ensures.took) (made-ok c.in_ok-members.ensures)
