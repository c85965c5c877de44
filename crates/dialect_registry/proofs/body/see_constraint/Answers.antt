use Rattle.dialect_registry.proofs.Walks.{on-ok, sees-then}
use Rattle.dialect_registry.proofs.body.see_constraint.Goals as goal

pub returns : goal.returns
returns c = on-ok c.define.result
    (sees-then _ _ c.args.scope.now c.see_expr.new.scope c.define.new.self c.see_expr.ensures)
    (rw (c.bytes.ensures, c.choices_of.ensures) at c.define.ensures)
