use Rattle.grammar.proofs.Runs.{exit, at-tok, made-ok, made-err}
use Rattle.irdl_ops.proofs.read.entries.bare_entry.Goals as goal

pub returns-in_err-var : goal.returns-in_err-var
returns-in_err-var g c = exit c.from_residual.ensures (made-err (at-tok c.in_err-var.ensures))

pub returns : goal.returns
returns g c = made-ok (at-tok c.in_ok-var.ensures)
