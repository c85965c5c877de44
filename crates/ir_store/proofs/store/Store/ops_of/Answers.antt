use Rattle.ir_store.proofs.Stored.{stored, stored-ops}
use Rattle.ir_store.proofs.store.Store.ops_of.Goals as goal

pub returns : goal.returns
returns c = stored-ops c.self.inside.tables _ (stored c.self.inside.tables _ c.self.invariant c.self.view_is) _ _ c.ops_of.ensures
