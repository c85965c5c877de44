use Rattle.ir_store.proofs.Stored.{stored, stored-results, stored-first}
use Rattle.ir_store.proofs.store.Store.first_result.Goals as goal

pub returns-clause-types : goal.returns-clause-types
returns-clause-types c =
    stored-results c.args.self.now c.args.op c.first_result.result
    (stored-first c.self.inside.tables c.args.self.now (stored c.self.inside.tables _ c.self.invariant c.self.view_is) c.args.op _ c.first_result.ensures)
