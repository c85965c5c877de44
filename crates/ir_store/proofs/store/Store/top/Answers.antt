use Rattle.ir_store.proofs.Stored.{stored, stored-top}
use Rattle.ir_store.proofs.store.Store.top.Goals as goal

pub returns : goal.returns
returns c = stored-top c.self.inside.tables _ (stored c.self.inside.tables _ c.self.invariant c.self.view_is) _ c.top.ensures
