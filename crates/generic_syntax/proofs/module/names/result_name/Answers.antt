use Rattle.grammar.proofs.Runs.{exit, at-tok, both-ok, both-first, both-second, placed-ok, placed-err}
use Rattle.generic_syntax.proofs.module.names.result_name.Goals as goal

pub returns-in_err-name : goal.returns-in_err-name
returns-in_err-name g c = λ regions. exit c.from_residual.ensures
    (placed-err (both-first (at-tok c.in_err-name.ensures)))

pub returns-in_err-pack : goal.returns-in_err-pack
returns-in_err-pack g c = λ regions. exit c.from_residual-in_err-pack.ensures
    (placed-err (both-second (at-tok c.in_ok-name.ensures) (c.in_err-pack.ensures regions)))

pub returns : goal.returns
returns g c = λ regions. rw c.place-place.ensures
    (placed-ok (both-ok (at-tok c.in_ok-name.ensures) (c.in_ok-pack.ensures regions)))
