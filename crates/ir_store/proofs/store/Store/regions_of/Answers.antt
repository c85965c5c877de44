use Rattle.ir_store.proofs.Stored.{stored, stored-regions}
use Rattle.ir_store.proofs.store.Store.regions_of.Goals as goal

pub returns : goal.returns
returns c = stored-regions c.self.inside.tables _ (stored c.self.inside.tables _ c.self.invariant c.self.view_is) _ _ c.regions_of.ensures
