use Rattle.ir_store.proofs.Stored.{stored, stored-args, stored-args-at}
use Rattle.ir_store.proofs.store.Store.args_of.Goals as goal

pub returns-clause-types : goal.returns-clause-types
returns-clause-types c =
    stored-args c.args.self.now c.args.block c.args_of.result.0
    (stored-args-at c.self.inside.tables c.args.self.now (stored c.self.inside.tables _ c.self.invariant c.self.view_is) c.args.block _ c.args_of.ensures)
