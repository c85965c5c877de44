use Rattle.grammar.proofs.Runs.{exit, at-tok, both-ok, both-first, both-second, placed-ok, placed-err}
use Rattle.generic_syntax.specs.Pieces.{one_type}
use Rattle.generic_syntax.proofs.ModuleSteps.{in-module}
use Rattle.generic_syntax.proofs.module.parts.argument.Goals as goal

pub returns-in_err-name : goal.returns-in_err-name
returns-in_err-name g c = λ regions. exit c.from_residual.ensures
    (placed-err (both-first (at-tok c.in_err-name.ensures)))

pub returns-in_err-expect : goal.returns-in_err-expect
returns-in_err-expect g c = λ regions. exit c.from_residual-in_err-expect.ensures
    (placed-err (both-second (at-tok c.in_ok-name.ensures)
    (both-first (at-tok c.in_err-expect.ensures.took))))

pub returns-in_err-ty : goal.returns-in_err-ty
returns-in_err-ty g c = λ regions. exit c.from_residual-in_err-ty.ensures
    (placed-err (both-second (at-tok c.in_ok-name.ensures)
    (both-second (at-tok c.in_ok-expect.ensures.took)
    (in-module one_type regions c.in_err-ty.ensures))))

pub returns : goal.returns
returns g c = λ regions. rw c.place-place.ensures
    (placed-ok (both-ok (at-tok c.in_ok-name.ensures)
    (both-ok (at-tok c.in_ok-expect.ensures.took)
    (in-module one_type regions c.in_ok-ty.ensures))))
