use Rattle.grammar.proofs.Runs.{exit, at-tok, both-ok, both-first, both-second}
use Rattle.irdl_ops.proofs.read.entries.behind_name.Goals as goal

pub returns-in_err-expect : goal.returns-in_err-expect
returns-in_err-expect g c = exit c.from_residual.ensures
    (both-first (both-first (at-tok c.in_err-expect.ensures.took)))

pub returns-in_err-arity : goal.returns-in_err-arity
returns-in_err-arity g c = exit c.from_residual-in_err-arity.ensures
    (both-first (both-second (at-tok c.in_ok-expect.ensures.took) c.in_err-arity.ensures))

pub returns-in_err-var : goal.returns-in_err-var
returns-in_err-var g c = exit c.from_residual-in_err-var.ensures
    (both-second (both-ok (at-tok c.in_ok-expect.ensures.took) c.in_ok-arity.ensures)
    (at-tok c.in_err-var.ensures))

pub returns : goal.returns
returns g c = both-ok (both-ok (at-tok c.in_ok-expect.ensures.took) c.in_ok-arity.ensures)
    (at-tok c.in_ok-var.ensures)
