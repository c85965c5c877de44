use Rattle.grammar.proofs.Runs.{exit, at-tok, both-ok, both-first, both-second, placed-ok, placed-err}
use Rattle.generic_syntax.proofs.module.names.read_operand.Goals as goal

pub returns-in_err-name : goal.returns-in_err-name
returns-in_err-name g c = λ regions. exit c.from_residual.ensures
    (placed-err (both-first (at-tok c.in_err-name.ensures)))

pub returns-in_err-number : goal.returns-in_err-number
returns-in_err-number g c = λ regions. exit c.from_residual-in_err-number.ensures
    (placed-err (both-second (at-tok c.in_ok-name.ensures) (c.in_err-number.ensures regions)))

pub returns : goal.returns
returns g c = λ regions. rw c.place-place.ensures
    (placed-ok (both-ok (at-tok c.in_ok-name.ensures) (c.in_ok-number.ensures regions)))
