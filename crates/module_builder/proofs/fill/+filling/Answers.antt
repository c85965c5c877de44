use Rattle.std.proofs.Common.{rules, ◌+◌, ◌≤◌, [], ◌∷◌, sym, subst, Some}
use Rattle.std.specs.Slice.Iter.{iter_rest}
use Rattle.std.specs.Vec.Iter.{into_iter_items}
use Rattle.generic_syntax.specs.declared.module_cst.FormCst.{out-FormCst}
use Rattle.ir_store.specs.Growth.{IsOpen, in_block, in_op, in_region, to_block, to_op, to_region}
use Rattle.ir_store.proofs.Building.{open-still}
use Rattle.ir_store.proofs.Opening.{opens-child}
use Rattle.module_builder.specs.Filled.{Await, AwaitArgs, OpsFilled, RegionsFilled, BlocksFilled}
use Rattle.module_builder.specs.Fit.{blocks_under}
use Rattle.module_faults.specs.Standings.{ops_standings, regions_standings, blocks_standings}
use Rattle.module_faults.specs.Standings.{regions_in_form, generic_regions}
use Rattle.module_builder.proofs.Filling.{ops-none, ops-more, op-filled, op-next, op-row}
use Rattle.module_builder.proofs.Filling.{op-awaits, row-there, all-awaited, custom-regions}
use Rattle.module_builder.proofs.Filling.{regions-none, regions-more, region-filled}
use Rattle.module_builder.proofs.Filling.{region-awaits, region-awaits-args}
use Rattle.module_builder.proofs.Filling.{blocks-none, blocks-more, block-filled, block-awaits}
use Rattle.module_builder.proofs.Filling.{block-next-args, args-there, args-fit, NextOp, NextArgs}
use Rattle.module_builder.proofs.Weight.{ops_weight, regions_weight, blocks_weight}
use Rattle.module_builder.proofs.Weight.{op-lighter, region-lighter, block-lighter}
use Rattle.module_builder.proofs.fill.+filling.Goals as goal

-- ---- operations

pub fill_ops-loop-op-init : goal.fill_ops-loop-op-init
fill_ops-loop-op-init t c = ops-none c.args.store.now c.args.block _ c.requires.open

pub fill_ops-next_row-row-requires : goal.fill_ops-next_row-row-requires
fill_ops-next_row-row-requires t c =
    row-there c.op-item.result _ (op-next c.args.store.now c.loop-op.store c.args.block
    c.args.ops.now _ c.op-item.result _ _ c.loop-op-test.true c.op-item.is c.requires.rows
    c.loop-op.invariant)

pub fill_ops-add_op-requires-clause-open : goal.fill_ops-add_op-requires-clause-open
fill_ops-add_op-requires-clause-open t c =
    open-still c.args.store.now c.loop-op.store (to_block c.args.block c.loop-op.invariant.ops)
    c.requires.open c.loop-op.invariant.is

pub fill_ops-add_op-requires-clause-attrs : goal.fill_ops-add_op-requires-clause-attrs
fill_ops-add_op-requires-clause-attrs t c =
    let next : NextOp c.op-item.result (into_iter_items c.loop-op.rows)
    = op-next c.args.store.now c.loop-op.store c.args.block c.args.ops.now _ c.op-item.result
    _ _ c.loop-op-test.true c.op-item.is c.requires.rows c.loop-op.invariant in
    (op-row c.op-item.result _ _ c.next_row-row.result next c.next_row-row.ensures).attrs

pub fill_ops-fill_form-requires : goal.fill_ops-fill_form-requires
fill_ops-fill_form-requires t c =
    let op = c.op-item.result in
    let next : NextOp op (into_iter_items c.loop-op.rows)
    = op-next c.args.store.now c.loop-op.store c.args.block c.args.ops.now _ op
    _ _ c.loop-op-test.true c.op-item.is c.requires.rows c.loop-op.invariant in
    let here : IsOpen c.add_op.new.self (in_op c.in_ok-id.id)
    = opens-child c.loop-op.store c.add_op.new.self (in_block c.args.block)
    (in_op c.in_ok-id.id) c.in_ok-id.ensures.opens in
    let args : AwaitArgs (blocks_under (regions_in_form (out-FormCst op.form)))
    (iter_rest c.iter.result) = subst (AwaitArgs (blocks_under (generic_regions op)))
    (sym c.iter.ensures.rest) (all-awaited _ _
    (op-row op _ _ c.next_row-row.result next c.next_row-row.ensures).args) in
    let rows : Await (λ n. regions_standings n (regions_in_form (out-FormCst op.form)))
    (into_iter_items c.next_row-row.new.rows)
    = op-awaits op _ _ c.next_row-row.result next c.next_row-row.ensures in
    let lighter : regions_weight (regions_in_form (out-FormCst op.form)) + 2
    ≤ ops_weight c.args.ops.now
    = op-lighter c.args.ops.now _ op c.loop-op-test.true c.op-item.is in
    search rules

pub fill_ops-loop-op-preserved : goal.fill_ops-loop-op-preserved
fill_ops-loop-op-preserved t c =
    let op = c.op-item.result in
    let row = c.next_row-row.result in
    let next : NextOp op (into_iter_items c.loop-op.rows)
    = op-next c.args.store.now c.loop-op.store c.args.block c.args.ops.now _ op
    _ _ c.loop-op-test.true c.op-item.is c.requires.rows c.loop-op.invariant in
    let here : IsOpen c.loop-op.store (in_block c.args.block) = open-still c.args.store.now
    c.loop-op.store (to_block c.args.block c.loop-op.invariant.ops) c.requires.open
    c.loop-op.invariant.is in
    let inside : RegionsFilled c.add_op.new.self c.fill_form.new.store c.in_ok-id.id
    (generic_regions op) row.args (iter_rest c.fill_form.new.args)
    (into_iter_items c.next_row-row.new.rows) (into_iter_items c.fill_form.new.rows)
    = rw c.iter.ensures.rest at c.in_ok-fill_form.ensures in
    let one : OpsFilled c.loop-op.store c.fill_form.new.store c.args.block (op ∷ [])
    (into_iter_items c.loop-op.rows) (into_iter_items c.fill_form.new.rows)
    = subst (λ l. OpsFilled c.loop-op.store c.fill_form.new.store c.args.block (op ∷ []) l
    (into_iter_items c.fill_form.new.rows)) (sym c.next_row-row.ensures)
    (op-filled c.loop-op.store c.add_op.new.self c.fill_form.new.store c.args.block op row
    (iter_rest c.fill_form.new.args) (into_iter_items c.next_row-row.new.rows)
    (into_iter_items c.fill_form.new.rows) c.in_ok-id.id here
    (op-row op _ _ row next c.next_row-row.ensures) c.in_ok-id.ensures.ok c.in_ok-id.ensures.id
    c.in_ok-id.ensures.opens inside) in
    ops-more c.args.store.now c.loop-op.store c.fill_form.new.store c.args.block c.args.ops.now _ op
    _ _ _ c.loop-op-test.true c.op-item.is c.requires.open c.loop-op.invariant one

-- ---- regions

pub fill_form-returns-in-Custom : goal.fill_form-returns-in-Custom
fill_form-returns-in-Custom t c =
    subst (λ l. RegionsFilled c.args.store.now c.args.store.now c.args.op l
    (iter_rest c.args.args.now) (iter_rest c.args.args.now) (into_iter_items c.args.rows.now)
    (into_iter_items c.args.rows.now))
    (custom-regions c.args.form.now c.in-Custom.field-0 c.in-Custom.is)
    (regions-none c.args.store.now c.args.op _ _ c.requires.open)

pub fill_regions-loop-region-init : goal.fill_regions-loop-region-init
fill_regions-loop-region-init t c = regions-none c.args.store.now c.args.op _ _ c.requires.open

pub fill_regions-add_region-requires : goal.fill_regions-add_region-requires
fill_regions-add_region-requires t c =
    open-still c.args.store.now c.loop-region.store
    (to_op c.args.op c.loop-region.invariant.regions) c.requires.open c.loop-region.invariant.is

pub fill_regions-fill_blocks-requires : goal.fill_regions-fill_blocks-requires
fill_regions-fill_blocks-requires t c =
    let region = c.region-item.result in
    let here : IsOpen c.add_region.new.self (in_region c.in_ok-id.id)
    = opens-child c.loop-region.store c.add_region.new.self (in_op c.args.op)
    (in_region c.in_ok-id.id) c.in_ok-id.ensures.opens in
    let args : AwaitArgs c.as_slice.result.now (iter_rest c.loop-region.args)
    = subst (λ l. AwaitArgs l (iter_rest c.loop-region.args)) (sym c.as_slice.ensures)
    (region-awaits-args c.args.store.now c.loop-region.store c.args.op c.args.regions.now _
    region _ _ _ _ c.loop-region-test.true c.region-item.is c.requires.args
    c.loop-region.invariant) in
    let rows : Await (λ n. blocks_standings n c.as_slice.result.now)
    (into_iter_items c.loop-region.rows)
    = subst (λ l. Await (λ n. blocks_standings n l) (into_iter_items c.loop-region.rows))
    (sym c.as_slice.ensures)
    (region-awaits c.args.store.now c.loop-region.store c.args.op c.args.regions.now _
    region _ _ _ _ c.loop-region-test.true c.region-item.is c.requires.rows
    c.loop-region.invariant) in
    let lighter : blocks_weight c.as_slice.result.now + 2 ≤ regions_weight c.args.regions.now
    = subst (λ l. blocks_weight l + 2 ≤ regions_weight c.args.regions.now)
    (sym c.as_slice.ensures)
    (region-lighter c.args.regions.now _ region c.loop-region-test.true c.region-item.is) in
    search rules

pub fill_regions-loop-region-preserved : goal.fill_regions-loop-region-preserved
fill_regions-loop-region-preserved t c =
    let region = c.region-item.result in
    let here : IsOpen c.loop-region.store (in_op c.args.op) = open-still c.args.store.now
    c.loop-region.store (to_op c.args.op c.loop-region.invariant.regions) c.requires.open
    c.loop-region.invariant.is in
    regions-more c.args.store.now c.loop-region.store c.fill_blocks.new.store c.args.op
    c.args.regions.now _ region _ _ _ _ _ _ c.loop-region-test.true c.region-item.is
    c.requires.open c.loop-region.invariant
    (region-filled c.loop-region.store c.add_region.new.self c.fill_blocks.new.store c.args.op
    region _ _ _ _ c.in_ok-id.id here c.in_ok-id.ensures.ok c.in_ok-id.ensures.id
    c.in_ok-id.ensures.opens (rw c.as_slice.ensures at c.in_ok-fill_blocks.ensures))

-- ---- blocks

pub fill_blocks-loop-block-init : goal.fill_blocks-loop-block-init
fill_blocks-loop-block-init t c = blocks-none c.args.store.now c.args.region _ _ c.requires.open

pub fill_blocks-next_args-types-requires : goal.fill_blocks-next_args-types-requires
fill_blocks-next_args-types-requires t c =
    args-there c.block-item.result _ (block-next-args c.args.store.now c.loop-block.store
    c.args.region c.args.blocks.now _ c.block-item.result _ _ _ _ c.loop-block-test.true
    c.block-item.is c.requires.args c.loop-block.invariant)

pub fill_blocks-add_block-requires : goal.fill_blocks-add_block-requires
fill_blocks-add_block-requires t c =
    open-still c.args.store.now c.loop-block.store
    (to_region c.args.region c.loop-block.invariant.blocks) c.requires.open
    c.loop-block.invariant.is

pub fill_blocks-fill_ops-requires : goal.fill_blocks-fill_ops-requires
fill_blocks-fill_ops-requires t c =
    let block = c.block-item.result in
    let here : IsOpen c.add_block.new.self (in_block (Some c.in_ok-id.id))
    = opens-child c.loop-block.store c.add_block.new.self (in_region c.args.region)
    (in_block (Some c.in_ok-id.id)) c.in_ok-id.ensures.opens in
    let rows : Await (λ n. ops_standings n c.as_slice-in-loop-block.result.now)
    (into_iter_items c.loop-block.rows)
    = subst (λ l. Await (λ n. ops_standings n l) (into_iter_items c.loop-block.rows))
    (sym c.as_slice-in-loop-block.ensures)
    (block-awaits c.args.store.now c.loop-block.store c.args.region c.args.blocks.now _
    block _ _ _ _ c.loop-block-test.true c.block-item.is c.requires.rows
    c.loop-block.invariant) in
    let lighter : ops_weight c.as_slice-in-loop-block.result.now + 2
    ≤ blocks_weight c.args.blocks.now
    = subst (λ l. ops_weight l + 2 ≤ blocks_weight c.args.blocks.now)
    (sym c.as_slice-in-loop-block.ensures)
    (block-lighter c.args.blocks.now _ block c.loop-block-test.true c.block-item.is) in
    search rules

pub fill_blocks-loop-block-preserved : goal.fill_blocks-loop-block-preserved
fill_blocks-loop-block-preserved t c =
    let block = c.block-item.result in
    let types = c.next_args-types.result.now in
    let next : NextArgs block (iter_rest c.loop-block.args)
    = block-next-args c.args.store.now c.loop-block.store c.args.region c.args.blocks.now _
    block _ _ _ _ c.loop-block-test.true c.block-item.is c.requires.args
    c.loop-block.invariant in
    let here : IsOpen c.loop-block.store (in_region c.args.region) = open-still c.args.store.now
    c.loop-block.store (to_region c.args.region c.loop-block.invariant.blocks) c.requires.open
    c.loop-block.invariant.is in
    let one : BlocksFilled c.loop-block.store c.fill_ops.new.store c.args.region (block ∷ [])
    (iter_rest c.loop-block.args) (iter_rest c.next_args-types.new.args)
    (into_iter_items c.loop-block.rows) (into_iter_items c.fill_ops.new.rows)
    = subst (λ l. BlocksFilled c.loop-block.store c.fill_ops.new.store c.args.region
    (block ∷ []) l (iter_rest c.next_args-types.new.args) (into_iter_items c.loop-block.rows)
    (into_iter_items c.fill_ops.new.rows)) (sym c.next_args-types.ensures)
    (block-filled c.loop-block.store c.add_block.new.self c.fill_ops.new.store c.args.region
    block types _ _ _ c.in_ok-id.id here
    (args-fit block _ _ types next c.next_args-types.ensures)
    (rw c.as_slice.ensures at c.in_ok-id.ensures.ok) c.in_ok-id.ensures.id
    c.in_ok-id.ensures.opens
    (rw c.as_slice-in-loop-block.ensures at c.in_ok-fill_ops.ensures)) in
    blocks-more c.args.store.now c.loop-block.store c.fill_ops.new.store c.args.region
    c.args.blocks.now _ block _ _ _ _ _ _ c.loop-block-test.true c.block-item.is
    c.requires.open c.loop-block.invariant one
