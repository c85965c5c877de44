use Rattle.std.proofs.Common.{refl, sym, ◌∙◌}
use Rattle.grammar.proofs.Runs.{exit, at-tok, at-ret, both-ok, both-first, both-second, left, right}
use Rattle.generic_syntax.specs.Pieces.{dictionary}
use Rattle.generic_syntax.proofs.ModuleSteps.{in-module}
use Rattle.generic_syntax.proofs.module.parts.read_properties.Goals as goal

pub returns-then-not-is_class : goal.returns-then-not-is_class
returns-then-not-is_class g c = λ regions. rw c.new.ensures
    (right (rw (sym c.is_class.ensures.passes ∙ c.if-not-is_class.true) refl) at-ret)

pub returns-in_err-expect : goal.returns-in_err-expect
returns-in_err-expect g c = λ regions. exit c.from_residual.ensures
    (left (rw (sym c.is_class.ensures.passes ∙ c.if-not-is_class.false) refl)
    (both-first (at-tok c.in_err-expect.ensures.took)))

pub returns-in_err-found : goal.returns-in_err-found
returns-in_err-found g c = λ regions. exit c.from_residual-in_err-found.ensures
    (left (rw (sym c.is_class.ensures.passes ∙ c.if-not-is_class.false) refl)
    (both-second (at-tok c.in_ok-expect.ensures.took)
    (both-first (in-module dictionary regions c.in_err-found.ensures))))

pub returns-in_err-expect-2 : goal.returns-in_err-expect-2
returns-in_err-expect-2 g c = λ regions. exit c.from_residual-in_err-expect-2.ensures
    (left (rw (sym c.is_class.ensures.passes ∙ c.if-not-is_class.false) refl)
    (both-second (at-tok c.in_ok-expect.ensures.took)
    (both-second (in-module dictionary regions c.in_ok-found.ensures)
    (at-tok c.in_err-expect-2.ensures.took))))

pub returns : goal.returns
returns g c = λ regions.
    (left (rw (sym c.is_class.ensures.passes ∙ c.if-not-is_class.false) refl)
    (both-ok (at-tok c.in_ok-expect.ensures.took)
    (both-ok (in-module dictionary regions c.in_ok-found.ensures)
    (at-tok c.in_ok-expect-2.ensures.took))))
