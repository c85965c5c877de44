use Rattle.std.proofs.Common.{refl, sym, ◌∙◌}
use Rattle.grammar.proofs.Runs.{exit, at-tok, at-ret, left, right, made-ok, made-err}
use Rattle.generic_syntax.proofs.module.names.use_number.Goals as goal

pub returns-then-not-is_class : goal.returns-then-not-is_class
returns-then-not-is_class g c = λ regions. right
    (rw (sym c.is_class.ensures.passes ∙ c.if-not-is_class.true) refl) at-ret

pub returns-in_err-number : goal.returns-in_err-number
returns-in_err-number g c = λ regions. exit c.from_residual.ensures
    (left (rw (sym c.is_class.ensures.passes ∙ c.if-not-is_class.false) refl)
    (made-err (at-tok c.in_err-number.ensures)))

pub returns : goal.returns
returns g c = λ regions. left (rw (sym c.is_class.ensures.passes ∙ c.if-not-is_class.false) refl)
    (made-ok (at-tok c.in_ok-number.ensures))
