use Rattle.ir_store.proofs.Stored.{stored, stored-blocks}
use Rattle.ir_store.proofs.store.Store.blocks_of.Goals as goal

pub returns : goal.returns
returns c = stored-blocks c.self.inside.tables _ (stored c.self.inside.tables _ c.self.invariant c.self.view_is) _ _ c.blocks_of.ensures
