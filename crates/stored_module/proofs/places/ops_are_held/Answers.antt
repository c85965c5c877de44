use Rattle.std.proofs.Common.{◌<◌, arith, length}
use Rattle.ir_store.specs.Numbering.{ops_in}
use Rattle.op_verifier.proofs.RegionSteps.{an-element}
use Rattle.op_verifier.proofs.Walks.{all-step}
use Rattle.stored_module.proofs.places.ops_are_held.Goals as goal
use Rattle.stored_module.specs.Held.{IsHeld}

pub loop-i-preserved : goal.loop-i-preserved
loop-i-preserved c =
    let within : c.loop-i.i < length (ops_in c.args.store.now) = omega arith in
    let x = an-element (ops_in c.args.store.now) c.loop-i.i within in
    all-step IsHeld (ops_in c.args.store.now) c.loop-i.i x.0 x.1 (c.op_is_held.ensures x.0 x.1)
    c.loop-i.invariant
