use Rattle.dialect_registry.proofs.Walks.{on-ok, sees-then}
use Rattle.dialect_registry.proofs.body.see_region.Goals as goal

pub returns : goal.returns
returns c = on-ok c.define.result
    (sees-then _ _ c.args.scope.now c.see_args.new.scope c.define.new.self c.see_args.ensures)
    (rw c.bytes.ensures at c.define.ensures)
