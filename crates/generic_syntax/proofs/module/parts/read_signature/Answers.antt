use Rattle.grammar.proofs.Runs.{exit, at-tok, both-ok, both-first, both-second}
use Rattle.generic_syntax.specs.Pieces.{some_types, results}
use Rattle.generic_syntax.proofs.ModuleSteps.{in-module}
use Rattle.generic_syntax.proofs.module.parts.read_signature.Goals as goal

pub returns-in_err-expect : goal.returns-in_err-expect
returns-in_err-expect g c = λ regions. exit c.from_residual.ensures
    (both-first (at-tok c.in_err-expect.ensures.took))

pub returns-in_err-inputs : goal.returns-in_err-inputs
returns-in_err-inputs g c = λ regions. exit c.from_residual-in_err-inputs.ensures
    (both-second (at-tok c.in_ok-expect.ensures.took)
    (both-first (in-module some_types regions c.in_err-inputs.ensures)))

pub returns-in_err-expect-2 : goal.returns-in_err-expect-2
returns-in_err-expect-2 g c = λ regions. exit c.from_residual-in_err-expect-2.ensures
    (both-second (at-tok c.in_ok-expect.ensures.took)
    (both-second (in-module some_types regions c.in_ok-inputs.ensures)
    (both-first (at-tok c.in_err-expect-2.ensures.took))))

pub returns-in_err-outputs : goal.returns-in_err-outputs
returns-in_err-outputs g c = λ regions. exit c.from_residual-in_err-outputs.ensures
    (both-second (at-tok c.in_ok-expect.ensures.took)
    (both-second (in-module some_types regions c.in_ok-inputs.ensures)
    (both-second (at-tok c.in_ok-expect-2.ensures.took)
    (in-module results regions c.in_err-outputs.ensures))))

pub returns : goal.returns
returns g c = λ regions. both-ok (at-tok c.in_ok-expect.ensures.took)
    (both-ok (in-module some_types regions c.in_ok-inputs.ensures)
    (both-ok (at-tok c.in_ok-expect-2.ensures.took)
    (in-module results regions c.in_ok-outputs.ensures)))
