use Rattle.grammar.proofs.Runs.{exit, at-tok, both-ok, both-first, both-second}
use Rattle.irdl_ops.proofs.read.dialect.Goals as goal

pub returns-in_err-expect_word : goal.returns-in_err-expect_word
returns-in_err-expect_word g c = exit c.from_residual.ensures
    (both-first (at-tok c.in_err-expect_word.ensures.took))

pub returns-in_err-name : goal.returns-in_err-name
returns-in_err-name g c = exit c.from_residual-in_err-name.ensures
    (both-second (at-tok c.in_ok-expect_word.ensures.took)
    (both-first (at-tok c.in_err-name.ensures)))

pub returns-in_err-expect : goal.returns-in_err-expect
returns-in_err-expect g c = exit c.from_residual-in_err-expect.ensures
    (both-second (at-tok c.in_ok-expect_word.ensures.took)
    (both-second (at-tok c.in_ok-name.ensures) (both-first (at-tok c.in_err-expect.ensures.took))))

pub returns-in_err-defs : goal.returns-in_err-defs
returns-in_err-defs g c = exit c.from_residual-in_err-defs.ensures
    (both-second (at-tok c.in_ok-expect_word.ensures.took)
    (both-second (at-tok c.in_ok-name.ensures)
    (both-second (at-tok c.in_ok-expect.ensures.took) (both-first c.in_err-defs.ensures))))

pub returns-in_err-expect-2 : goal.returns-in_err-expect-2
returns-in_err-expect-2 g c = exit c.from_residual-in_err-expect-2.ensures
    (both-second (at-tok c.in_ok-expect_word.ensures.took)
    (both-second (at-tok c.in_ok-name.ensures)
    (both-second (at-tok c.in_ok-expect.ensures.took)
    (both-second c.in_ok-defs.ensures (at-tok c.in_err-expect-2.ensures.took)))))

pub returns : goal.returns
returns g c = both-ok (at-tok c.in_ok-expect_word.ensures.took)
    (both-ok (at-tok c.in_ok-name.ensures)
    (both-ok (at-tok c.in_ok-expect.ensures.took)
    (both-ok c.in_ok-defs.ensures (at-tok c.in_ok-expect-2.ensures.took))))
