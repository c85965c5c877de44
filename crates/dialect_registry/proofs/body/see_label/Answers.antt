use Rattle.dialect_registry.proofs.Walks.{sees-none}
use Rattle.dialect_registry.proofs.body.see_label.Goals as goal

pub returns-in-Some : goal.returns-in-Some
returns-in-Some c = rw c.in-Some.is (rw c.bytes.ensures at c.label.ensures)

pub returns-in-None : goal.returns-in-None
returns-in-None c = rw c.in-None.is (sees-none c.args.scope.now)
