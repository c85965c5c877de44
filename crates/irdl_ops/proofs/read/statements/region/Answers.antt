use Rattle.grammar.proofs.Runs.{exit, at-tok, both-ok, both-first, both-second}
use Rattle.irdl_ops.proofs.read.statements.region.Goals as goal

pub returns-in_err-expect_word : goal.returns-in_err-expect_word
returns-in_err-expect_word g c = exit c.from_residual.ensures
    (both-first (at-tok c.in_err-expect_word.ensures.took))

pub returns-in_err-args : goal.returns-in_err-args
returns-in_err-args g c = exit c.from_residual-in_err-args.ensures
    (both-second (at-tok c.in_ok-expect_word.ensures.took) (both-first c.in_err-args.ensures))

pub returns-in_err-size : goal.returns-in_err-size
returns-in_err-size g c = exit c.from_residual-in_err-size.ensures
    (both-second (at-tok c.in_ok-expect_word.ensures.took)
    (both-second c.in_ok-args.ensures c.in_err-size.ensures))

pub returns : goal.returns
returns g c = both-ok (at-tok c.in_ok-expect_word.ensures.took)
    (both-ok c.in_ok-args.ensures c.in_ok-size.ensures)
