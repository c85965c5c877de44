use Rattle.std.proofs.Common.{refl, sym, ◌∙◌}
use Rattle.grammar.proofs.Repeats.{goes_on, goes-end, goes-err, goes-memory}
use Rattle.grammar.proofs.Runs.{exit}
use Rattle.irdl_ops.proofs.Fits.{defs-fit}
use Rattle.irdl_ops.proofs.read.bodies.op_statements.Goals as goal

pub each-preserved : goal.each-preserved
each-preserved g c = rw c.in_ok-push.ensures.ok
    (goes_on defs-fit refl (sym c.begins_op_statement.ensures ∙ c.each-test.true) c.each.invariant
    c.in_ok-op_statement.ensures)

pub returns-in_err-op_statement : goal.returns-in_err-op_statement
returns-in_err-op_statement g c = exit c.from_residual.ensures
    (goes-err (sym c.begins_op_statement.ensures ∙ c.each-test.true) c.each.invariant
    c.in_err-op_statement.ensures)

pub returns-in_err-push : goal.returns-in_err-push
returns-in_err-push g c = exit c.from_residual-in_err-push.ensures
    (goes-memory defs-fit refl (sym c.begins_op_statement.ensures ∙ c.each-test.true)
    c.each.invariant c.in_ok-op_statement.ensures)

pub returns : goal.returns
returns g c = rw c.trim.ensures
    (goes-end (sym c.begins_op_statement.ensures ∙ c.each-test.false) c.each.invariant)
