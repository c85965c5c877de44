use Rattle.std.proofs.Common.{refl, sym, ◌∙◌}
use Rattle.grammar.proofs.Runs.{exit, at-tok, at-ret, both-ok, both-first, both-second, left, right, made-ok, made-err}
use Rattle.irdl_ops.proofs.read.statements.region_size.Goals as goal

pub returns-then-not-is_word : goal.returns-then-not-is_word
returns-then-not-is_word g c = right
    (rw (sym c.is_word.ensures.passes ∙ c.if-not-is_word.true) refl) at-ret

pub returns-in_err-expect_word : goal.returns-in_err-expect_word
returns-in_err-expect_word g c = exit c.from_residual.ensures
    (left (rw (sym c.is_word.ensures.passes ∙ c.if-not-is_word.false) refl)
    (made-err (both-first (at-tok c.in_err-expect_word.ensures.took))))

pub returns-in_err-expect_word-2 : goal.returns-in_err-expect_word-2
returns-in_err-expect_word-2 g c = exit c.from_residual-in_err-expect_word-2.ensures
    (left (rw (sym c.is_word.ensures.passes ∙ c.if-not-is_word.false) refl)
    (made-err
    (both-second (at-tok c.in_ok-expect_word.ensures.took)
    (both-first (at-tok c.in_err-expect_word-2.ensures.took)))))

pub returns-in_err-size : goal.returns-in_err-size
returns-in_err-size g c = exit c.from_residual-in_err-size.ensures
    (left (rw (sym c.is_word.ensures.passes ∙ c.if-not-is_word.false) refl)
    (made-err
    (both-second (at-tok c.in_ok-expect_word.ensures.took)
    (both-second (at-tok c.in_ok-expect_word-2.ensures.took) (at-tok c.in_err-size.ensures)))))

pub returns : goal.returns
returns g c = left (rw (sym c.is_word.ensures.passes ∙ c.if-not-is_word.false) refl)
    (made-ok
    (both-ok (at-tok c.in_ok-expect_word.ensures.took)
    (both-ok (at-tok c.in_ok-expect_word-2.ensures.took) (at-tok c.in_ok-size.ensures))))
