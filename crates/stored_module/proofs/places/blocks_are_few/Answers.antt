use Rattle.std.proofs.Common.{arith}
use Rattle.ir_store.specs.Numbering.{past_region}
use Rattle.stored_module.proofs.Holding.{count-of}
use Rattle.stored_module.proofs.places.blocks_are_few.Goals as goal

pub returns : goal.returns
returns c = record {
  few = λ x e.
      (let count = count-of c.args.store.now (past_region x.at) c.blocks_of-count.result.now
      x.blocks (c.blocks_of-count.ensures x e) in
      omega (arith, count, c.blocks_of-count.type_inv.0));
}
