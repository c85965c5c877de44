use Rattle.dialect_registry.proofs.Walks.{sees-then}
use Rattle.dialect_registry.proofs.body.see_entry.Goals as goal

pub returns : goal.returns
returns c =
    sees-then _ _ c.args.scope.now c.see_label.new.scope c.use_name.new.self
    c.in_ok-see_label.ensures (rw c.bytes.ensures at c.use_name.ensures)
