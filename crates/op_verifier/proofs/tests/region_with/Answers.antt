use Rattle.ir_store.proofs.Opening.{opens-child, opens-parent}
use Rattle.op_verifier.proofs.tests.region_with.Goals as goal

pub add_region-requires : goal.add_region-requires
add_region-requires c =
    opens-child c.args.store.now c.add_op.new.self _ _ c.in_ok-op.ensures.opens

pub add_block-requires : goal.add_block-requires
add_block-requires c =
    opens-child c.add_op.new.self c.add_region.new.self _ _ c.in_ok-region.ensures.opens

pub add_block-requires-then-another : goal.add_block-requires-then-another
add_block-requires-then-another c =
    opens-parent c.add_region.new.self c.add_block.new.self _ _ c.in_ok-add_block.ensures.opens
