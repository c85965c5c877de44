use Rattle.grammar.proofs.Runs.{exit, at-tok, both-ok, both-first, both-second}
use Rattle.irdl_ops.proofs.read.entries.attr_entry.Goals as goal

pub returns-in_err-name : goal.returns-in_err-name
returns-in_err-name g c = exit c.from_residual.ensures (both-first (at-tok c.in_err-name.ensures))

pub returns-in_err-expect : goal.returns-in_err-expect
returns-in_err-expect g c = exit c.from_residual-in_err-expect.ensures
    (both-second (at-tok c.in_ok-name.ensures) (both-first (at-tok c.in_err-expect.ensures.took)))

pub returns-in_err-optional : goal.returns-in_err-optional
returns-in_err-optional g c = exit c.from_residual-in_err-optional.ensures
    (both-second (at-tok c.in_ok-name.ensures)
    (both-second (at-tok c.in_ok-expect.ensures.took) (both-first c.in_err-optional.ensures)))

pub returns-in_err-var : goal.returns-in_err-var
returns-in_err-var g c = exit c.from_residual-in_err-var.ensures
    (both-second (at-tok c.in_ok-name.ensures)
    (both-second (at-tok c.in_ok-expect.ensures.took)
    (both-second c.in_ok-optional.ensures (at-tok c.in_err-var.ensures))))

pub returns : goal.returns
returns g c = both-ok (at-tok c.in_ok-name.ensures)
    (both-ok (at-tok c.in_ok-expect.ensures.took)
    (both-ok c.in_ok-optional.ensures (at-tok c.in_ok-var.ensures)))
