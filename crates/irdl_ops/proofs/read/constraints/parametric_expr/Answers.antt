use Rattle.grammar.proofs.Runs.{exit, at-tok, both-ok, both-first, both-second}
use Rattle.irdl_ops.proofs.read.constraints.parametric_expr.Goals as goal

pub returns-in_err-expect_word : goal.returns-in_err-expect_word
returns-in_err-expect_word g c = exit c.from_residual.ensures
    (both-first (at-tok c.in_err-expect_word.ensures.took))

pub returns-in_err-target : goal.returns-in_err-target
returns-in_err-target g c = exit c.from_residual-in_err-target.ensures
    (both-second (at-tok c.in_ok-expect_word.ensures.took) (both-first c.in_err-target.ensures))

pub returns-in_err-expect : goal.returns-in_err-expect
returns-in_err-expect g c = exit c.from_residual-in_err-expect.ensures
    (both-second (at-tok c.in_ok-expect_word.ensures.took)
    (both-second c.in_ok-target.ensures (both-first (at-tok c.in_err-expect.ensures.took))))

pub returns-in_err-parts : goal.returns-in_err-parts
returns-in_err-parts g c = exit c.from_residual-in_err-parts.ensures
    (both-second (at-tok c.in_ok-expect_word.ensures.took)
    (both-second c.in_ok-target.ensures
    (both-second (at-tok c.in_ok-expect.ensures.took) (both-first c.in_err-parts.ensures))))

pub returns-in_err-expect-2 : goal.returns-in_err-expect-2
returns-in_err-expect-2 g c = exit c.from_residual-in_err-expect-2.ensures
    (both-second (at-tok c.in_ok-expect_word.ensures.took)
    (both-second c.in_ok-target.ensures
    (both-second (at-tok c.in_ok-expect.ensures.took)
    (both-second c.in_ok-parts.ensures (at-tok c.in_err-expect-2.ensures.took)))))

pub returns : goal.returns
returns g c = both-ok (at-tok c.in_ok-expect_word.ensures.took)
    (both-ok c.in_ok-target.ensures
    (both-ok (at-tok c.in_ok-expect.ensures.took)
    (both-ok c.in_ok-parts.ensures (at-tok c.in_ok-expect-2.ensures.took))))
