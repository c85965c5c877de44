use Rattle.std.proofs.Common.{arith}
use Rattle.ir_store.specs.Modules.{then_op, no_ops, region, no_regions, block, no_blocks, joined_ops, joined_regions, joined_blocks}
use Rattle.ir_store.specs.Growth.{to_block, to_op, to_region, one_op, one_region}
use Rattle.ir_store.specs.Store.{head_of}
use Rattle.ir_store.proofs.Opening.{opens-child}
use Rattle.ir_store.proofs.Building.{built-op, built-region, built-block, joined-op, joined-region, joined-block, open-still}
use Rattle.ir_store.proofs.tests.+grow.Goals as goal

-- ---- two operations in a block

pub grow-grow_regions-requires : goal.grow-grow_regions-requires
grow-grow_regions-requires t c = (omega arith, opens-child c.args.store.now c.add_op.new.self _ _ c.in_ok-op.ensures.opens)

pub grow-add_op-requires-2-clause-open : goal.grow-add_op-requires-2-clause-open
grow-add_op-requires-2-clause-open t c =
    let inside = c.in_ok-grow_regions.ensures in
    let built = built-op c.args.store.now c.add_op.new.self c.grow_regions.new.store c.args.block (head_of c.in_ok-row.field-0) inside.0 c.in_ok-op.op c.requires
    c.in_ok-op.ensures.ok c.in_ok-op.ensures.id c.in_ok-op.ensures.opens inside.1 in
    open-still c.args.store.now c.grow_regions.new.store (to_block c.args.block (then_op (head_of c.in_ok-row.field-0) inside.0 no_ops)) c.requires built

pub grow-returns : goal.grow-returns
grow-returns t c =
    let inside = c.in_ok-grow_regions.ensures in
    let built = built-op c.args.store.now c.add_op.new.self c.grow_regions.new.store c.args.block (head_of c.in_ok-row.field-0) inside.0 c.in_ok-op.op c.requires
    c.in_ok-op.ensures.ok c.in_ok-op.ensures.id c.in_ok-op.ensures.opens inside.1 in (
      joined_ops (then_op (head_of c.in_ok-row.field-0) inside.0 no_ops) (one_op (head_of c.in_ok-row-2.field-0)),
      joined-op c.args.store.now c.grow_regions.new.store c.add_op-2.new.self c.args.block _ _ c.requires built c.in_ok-add_op.ensures.ok,
    )

-- ---- a block

pub grow_block-grow-requires : goal.grow_block-grow-requires
grow_block-grow-requires t c = (omega arith, opens-child c.args.store.now c.add_block.new.self _ _ c.in_ok-block.ensures.opens)

pub grow_block-returns-in_ok-grow : goal.grow_block-returns-in_ok-grow
grow_block-returns-in_ok-grow t c =
    let inside = c.in_ok-grow.ensures in (
      block c.args.args.now inside.0 no_blocks,
      built-block c.args.store.now c.add_block.new.self c.grow.new.store c.args.region c.args.args.now inside.0 c.in_ok-block.block c.requires
          c.in_ok-block.ensures.ok c.in_ok-block.ensures.id c.in_ok-block.ensures.opens inside.1,
    )

-- ---- two regions in an operation

pub grow_regions-grow_block-requires : goal.grow_regions-grow_block-requires
grow_regions-grow_block-requires t c = (omega arith, opens-child c.args.store.now c.add_region.new.self _ _ c.in_ok-region.ensures.opens)

pub grow_regions-grow_block-requires-2 : goal.grow_regions-grow_block-requires-2
grow_regions-grow_block-requires-2 t c =
    let first = c.in_ok-grow_block.ensures in (
      omega arith,
      open-still c.add_region.new.self c.grow_block.new.store (to_region c.in_ok-region.region first.0)
          (opens-child c.args.store.now c.add_region.new.self _ _ c.in_ok-region.ensures.opens) first.1,
    )

pub grow_regions-add_region-requires-2 : goal.grow_regions-add_region-requires-2
grow_regions-add_region-requires-2 t c =
    let first = c.in_ok-grow_block.ensures in
    let second = c.in_ok-grow_block-2.ensures in
    let both = joined-block c.add_region.new.self c.grow_block.new.store c.grow_block-2.new.store c.in_ok-region.region first.0 second.0
    (opens-child c.args.store.now c.add_region.new.self _ _ c.in_ok-region.ensures.opens) first.1 second.1 in
    let built = built-region c.args.store.now c.add_region.new.self c.grow_block-2.new.store c.args.op (joined_blocks first.0 second.0) c.in_ok-region.region c.requires
    c.in_ok-region.ensures.ok c.in_ok-region.ensures.id c.in_ok-region.ensures.opens both in
    open-still c.args.store.now c.grow_block-2.new.store (to_op c.args.op (region (joined_blocks first.0 second.0) no_regions)) c.requires built

pub grow_regions-returns : goal.grow_regions-returns
grow_regions-returns t c =
    let first = c.in_ok-grow_block.ensures in
    let second = c.in_ok-grow_block-2.ensures in
    let both = joined-block c.add_region.new.self c.grow_block.new.store c.grow_block-2.new.store c.in_ok-region.region first.0 second.0
    (opens-child c.args.store.now c.add_region.new.self _ _ c.in_ok-region.ensures.opens) first.1 second.1 in
    let built = built-region c.args.store.now c.add_region.new.self c.grow_block-2.new.store c.args.op (joined_blocks first.0 second.0) c.in_ok-region.region c.requires
    c.in_ok-region.ensures.ok c.in_ok-region.ensures.id c.in_ok-region.ensures.opens both in (
      joined_regions (region (joined_blocks first.0 second.0) no_regions) one_region,
      joined-region c.args.store.now c.grow_block-2.new.store c.add_region-2.new.self c.args.op _ _ c.requires built c.in_ok-add_region.ensures.ok,
    )
