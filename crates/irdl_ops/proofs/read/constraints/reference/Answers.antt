use Rattle.std.proofs.Common.{refl, sym, ◌∙◌}
use Rattle.grammar.proofs.Runs.{exit, at-tok, at-ret, both-ok, both-first, both-second, left, right, made-ok, made-err}
use Rattle.irdl_ops.proofs.read.constraints.reference.Goals as goal

pub returns-in_err-first : goal.returns-in_err-first
returns-in_err-first g c = exit c.from_residual.ensures (both-first (at-tok c.in_err-first.ensures))

pub returns-then-not-is_class : goal.returns-then-not-is_class
returns-then-not-is_class g c = both-ok (at-tok c.in_ok-first.ensures)
    (right (rw (sym c.is_class.ensures.passes ∙ c.if-not-is_class.true) refl) at-ret)

pub returns-in_err-expect : goal.returns-in_err-expect
returns-in_err-expect g c = exit c.from_residual-in_err-expect.ensures
    (both-second (at-tok c.in_ok-first.ensures)
    (left (rw (sym c.is_class.ensures.passes ∙ c.if-not-is_class.false) refl)
    (made-err (both-first (at-tok c.in_err-expect.ensures.took)))))

pub returns-in_err-second : goal.returns-in_err-second
returns-in_err-second g c = exit c.from_residual-in_err-second.ensures
    (both-second (at-tok c.in_ok-first.ensures)
    (left (rw (sym c.is_class.ensures.passes ∙ c.if-not-is_class.false) refl)
    (made-err (both-second (at-tok c.in_ok-expect.ensures.took) (at-tok c.in_err-second.ensures)))))

pub returns : goal.returns
returns g c = both-ok (at-tok c.in_ok-first.ensures)
    (left (rw (sym c.is_class.ensures.passes ∙ c.if-not-is_class.false) refl)
    (made-ok (both-ok (at-tok c.in_ok-expect.ensures.took) (at-tok c.in_ok-second.ensures))))
