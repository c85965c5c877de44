use Rattle.std.proofs.Common.{refl, sym, ◌∙◌}
use Rattle.grammar.proofs.Runs.{exit, at-tok, both-ok, both-first, both-second, left, right, made-ok, made-err}
use Rattle.irdl_ops.proofs.read.constraints.base_expr.Goals as goal

pub returns-in_err-expect_word : goal.returns-in_err-expect_word
returns-in_err-expect_word g c = exit c.from_residual.ensures
    (both-first (at-tok c.in_err-expect_word.ensures.took))

pub returns-in_err-target : goal.returns-in_err-target
returns-in_err-target g c = exit c.from_residual-in_err-target.ensures
    (both-second (at-tok c.in_ok-expect_word.ensures.took)
    (left (rw (sym c.is_class.ensures.passes ∙ c.if-is_class.true) refl)
    (made-err c.in_err-target.ensures)))

pub returns-then-is_class : goal.returns-then-is_class
returns-then-is_class g c = both-ok (at-tok c.in_ok-expect_word.ensures.took)
    (left (rw (sym c.is_class.ensures.passes ∙ c.if-is_class.true) refl)
    (made-ok c.in_ok-target.ensures))

pub returns-in_err-name : goal.returns-in_err-name
returns-in_err-name g c = exit c.from_residual-in_err-name.ensures
    (both-second (at-tok c.in_ok-expect_word.ensures.took)
    (right (rw (sym c.is_class.ensures.passes ∙ c.if-is_class.false) refl)
    (made-err (at-tok c.in_err-name.ensures))))

pub returns : goal.returns
returns g c = both-ok (at-tok c.in_ok-expect_word.ensures.took)
    (right (rw (sym c.is_class.ensures.passes ∙ c.if-is_class.false) refl)
    (made-ok (at-tok c.in_ok-name.ensures)))
