use Rattle.grammar.proofs.Runs.{exit, at-tok, both-ok, both-first, both-second}
use Rattle.irdl_ops.proofs.read.statements.constraint.Goals as goal

pub returns-in_err-name : goal.returns-in_err-name
returns-in_err-name g c = exit c.from_residual.ensures (both-first (at-tok c.in_err-name.ensures))

pub returns-in_err-expect : goal.returns-in_err-expect
returns-in_err-expect g c = exit c.from_residual-in_err-expect.ensures
    (both-second (at-tok c.in_ok-name.ensures) (both-first (at-tok c.in_err-expect.ensures.took)))

pub returns-in_err-expr : goal.returns-in_err-expr
returns-in_err-expr g c = exit c.from_residual-in_err-expr.ensures
    (both-second (at-tok c.in_ok-name.ensures)
    (both-second (at-tok c.in_ok-expect.ensures.took) c.in_err-expr.ensures))

pub returns : goal.returns
returns g c = both-ok (at-tok c.in_ok-name.ensures)
    (both-ok (at-tok c.in_ok-expect.ensures.took) c.in_ok-expr.ensures)
