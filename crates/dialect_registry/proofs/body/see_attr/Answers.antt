use Rattle.dialect_registry.proofs.Walks.{sees-then}
use Rattle.dialect_registry.proofs.body.see_attr.Goals as goal

pub returns : goal.returns
returns c =
    sees-then _ _ c.args.scope.now c.label.new.self c.use_name.new.self
    (rw c.bytes.ensures at c.in_ok-label.ensures) (rw c.bytes-2.ensures at c.use_name.ensures)
