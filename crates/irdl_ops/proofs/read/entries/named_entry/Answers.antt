use Rattle.std.proofs.Common.{refl, sym, ◌∙◌}
use Rattle.grammar.proofs.Runs.{exit, at-tok, both-ok, both-first, both-second, left, right}
use Rattle.irdl_ops.proofs.read.entries.named_entry.Goals as goal

pub returns-then-is_class : goal.returns-then-is_class
returns-then-is_class g c = left (rw (sym c.is_class.ensures.passes ∙ c.if-is_class.true) refl)
    c.bare_entry.ensures

pub returns-in_err-name : goal.returns-in_err-name
returns-in_err-name g c = exit c.from_residual.ensures
    (right (rw (sym c.is_class.ensures.passes ∙ c.if-is_class.false) refl)
    (both-first (at-tok c.in_err-name.ensures)))

pub returns-in_err-expect : goal.returns-in_err-expect
returns-in_err-expect g c = exit c.from_residual-in_err-expect.ensures
    (right (rw (sym c.is_class.ensures.passes ∙ c.if-is_class.false) refl)
    (both-second (at-tok c.in_ok-name.ensures) (both-first (at-tok c.in_err-expect.ensures.took))))

pub returns-in_err-var : goal.returns-in_err-var
returns-in_err-var g c = exit c.from_residual-in_err-var.ensures
    (right (rw (sym c.is_class.ensures.passes ∙ c.if-is_class.false) refl)
    (both-second (at-tok c.in_ok-name.ensures)
    (both-second (at-tok c.in_ok-expect.ensures.took) (at-tok c.in_err-var.ensures))))

pub returns : goal.returns
returns g c = right (rw (sym c.is_class.ensures.passes ∙ c.if-is_class.false) refl)
    (both-ok (at-tok c.in_ok-name.ensures)
    (both-ok (at-tok c.in_ok-expect.ensures.took) (at-tok c.in_ok-var.ensures)))
