use Rattle.std.proofs.Common.{arith}
use Rattle.ir_store.proofs.Sites.{op-within, region-within, block-within, ops-now, regions-now, blocks-now, ops-next, regions-next, blocks-next}
use Rattle.ir_store.proofs.tests.+show.Goals as goal

pub show_blocks-args_of-first-requires : goal.show_blocks-args_of-first-requires
show_blocks-args_of-first-requires t c =
    block-within c.args.store.now _ _ (blocks-now c.args.store.now c.args.ids.now c.loop-id.id-index (record { 0 = 0 }) c.loop-id-test.true c.loop-id.invariant).here

pub show_blocks-ops_of-requires : goal.show_blocks-ops_of-requires
show_blocks-ops_of-requires t c =
    block-within c.args.store.now _ _ (blocks-now c.args.store.now c.args.ids.now c.loop-id.id-index (record { 0 = 0 }) c.loop-id-test.true c.loop-id.invariant).here

pub show_ops-first_result-first-requires : goal.show_ops-first_result-first-requires
show_ops-first_result-first-requires t c =
    op-within c.args.store.now _ _ (ops-now c.args.store.now c.args.ids.now c.loop-id.id-index (record { 0 = 0 }) c.loop-id-test.true c.loop-id.invariant).here

pub show_ops-op-requires : goal.show_ops-op-requires
show_ops-op-requires t c =
    op-within c.args.store.now _ _ (ops-now c.args.store.now c.args.ids.now c.loop-id.id-index (record { 0 = 0 }) c.loop-id-test.true c.loop-id.invariant).here

pub show_ops-regions_of-requires : goal.show_ops-regions_of-requires
show_ops-regions_of-requires t c =
    op-within c.args.store.now _ _ (ops-now c.args.store.now c.args.ids.now c.loop-id.id-index (record { 0 = 0 }) c.loop-id-test.true c.loop-id.invariant).here

pub show_regions-blocks_of-requires : goal.show_regions-blocks_of-requires
show_regions-blocks_of-requires t c =
    region-within c.args.store.now _ _ (regions-now c.args.store.now c.args.ids.now c.loop-id.id-index (record { 0 = 0 }) c.loop-id-test.true c.loop-id.invariant).here

pub show_blocks-show_ops-requires : goal.show_blocks-show_ops-requires
show_blocks-show_ops-requires t c =
    let first = blocks-now c.args.store.now c.args.ids.now c.loop-id.id-index (record { 0 = 0 }) c.loop-id-test.true c.loop-id.invariant in
    (omega arith, (_, _, c.ops_of.ensures _ first.here))

pub show_ops-show_regions-requires : goal.show_ops-show_regions-requires
show_ops-show_regions-requires t c =
    let first = ops-now c.args.store.now c.args.ids.now c.loop-id.id-index (record { 0 = 0 }) c.loop-id-test.true c.loop-id.invariant in
    (omega arith, (_, _, c.regions_of.ensures _ first.here))

pub show_regions-show_blocks-requires : goal.show_regions-show_blocks-requires
show_regions-show_blocks-requires t c =
    let first = regions-now c.args.store.now c.args.ids.now c.loop-id.id-index (record { 0 = 0 }) c.loop-id-test.true c.loop-id.invariant in
    (omega arith, (_, _, c.blocks_of.ensures _ first.here))

pub show_blocks-loop-id-preserved : goal.show_blocks-loop-id-preserved
show_blocks-loop-id-preserved t c = blocks-next c.args.store.now c.args.ids.now c.loop-id.id-index (record { 0 = 0 }) c.loop-id-test.true c.loop-id.invariant

pub show_ops-loop-id-preserved : goal.show_ops-loop-id-preserved
show_ops-loop-id-preserved t c = ops-next c.args.store.now c.args.ids.now c.loop-id.id-index (record { 0 = 0 }) c.loop-id-test.true c.loop-id.invariant

pub show_regions-loop-id-preserved : goal.show_regions-loop-id-preserved
show_regions-loop-id-preserved t c = regions-next c.args.store.now c.args.ids.now c.loop-id.id-index (record { 0 = 0 }) c.loop-id-test.true c.loop-id.invariant
