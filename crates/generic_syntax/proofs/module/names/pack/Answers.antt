use Rattle.std.proofs.Common.{refl, sym, ◌∙◌}
use Rattle.grammar.proofs.Runs.{exit, at-tok, at-ret, both-ok, both-first, both-second, left, right, made-ok, made-err}
use Rattle.generic_syntax.proofs.module.names.pack.Goals as goal

pub returns-then-not-is_class : goal.returns-then-not-is_class
returns-then-not-is_class g c = λ regions. right
    (rw (sym c.is_class.ensures.passes ∙ c.if-not-is_class.true) refl) at-ret

pub returns-in_err-expect : goal.returns-in_err-expect
returns-in_err-expect g c = λ regions. exit c.from_residual.ensures
    (left (rw (sym c.is_class.ensures.passes ∙ c.if-not-is_class.false) refl)
    (made-err (both-first (at-tok c.in_err-expect.ensures.took))))

pub returns-in_err-size : goal.returns-in_err-size
returns-in_err-size g c = λ regions. exit c.from_residual-in_err-size.ensures
    (left (rw (sym c.is_class.ensures.passes ∙ c.if-not-is_class.false) refl)
    (made-err (both-second (at-tok c.in_ok-expect.ensures.took) (at-tok c.in_err-size.ensures))))

pub returns : goal.returns
returns g c = λ regions. left (rw (sym c.is_class.ensures.passes ∙ c.if-not-is_class.false) refl)
    (made-ok (both-ok (at-tok c.in_ok-expect.ensures.took) (at-tok c.in_ok-size.ensures)))
