use Rattle.grammar.proofs.Runs.{exit, at-tok, both-ok, both-first, both-second}
use Rattle.generic_syntax.proofs.module.names.read_operands.Goals as goal

pub returns-in_err-expect : goal.returns-in_err-expect
returns-in_err-expect g c = λ regions. exit c.from_residual.ensures
    (both-first (at-tok c.in_err-expect.ensures.took))

pub returns-in_err-found : goal.returns-in_err-found
returns-in_err-found g c = λ regions. exit c.from_residual-in_err-found.ensures
    (both-second (at-tok c.in_ok-expect.ensures.took)
    (both-first (c.in_err-found.ensures regions)))

pub returns-in_err-expect-2 : goal.returns-in_err-expect-2
returns-in_err-expect-2 g c = λ regions. exit c.from_residual-in_err-expect-2.ensures
    (both-second (at-tok c.in_ok-expect.ensures.took)
    (both-second (c.in_ok-found.ensures regions) (at-tok c.in_err-expect-2.ensures.took)))

pub returns : goal.returns
returns g c = λ regions.
    (both-ok (at-tok c.in_ok-expect.ensures.took)
    (both-ok (c.in_ok-found.ensures regions) (at-tok c.in_ok-expect-2.ensures.took)))
