use Rattle.std.proofs.Common.{arith}
use Rattle.stored_module.proofs.Holding.{held-storable}
use Rattle.stored_module.proofs.storable.module_is_storable.Goals as goal

pub returns : goal.returns
returns c = λ defs. held-storable defs c.args.u.now c.args.store.now c.values_have_bytes.ensures
    c.ops_are_held.ensures (omega (arith, c.values-count.ensures, c.values-count.type_inv))
