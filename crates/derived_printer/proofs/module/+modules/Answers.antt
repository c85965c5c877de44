use Rattle.std.proofs.Common.{◌≤◌, ◌+◌, ◌∷◌, [], arith, rules, refl}
use Rattle.ir_lexer.specs.declared.class.Class.TheVariants as class
use Rattle.ir_store.specs.Named.{AreOps, AreRegions, AreBlocks}
use Rattle.ir_store.specs.Numbering.{past_op, past_region, past_block}
use Rattle.text_layout.specs.Lines.{break_line}
use Rattle.derived_printer.specs.ModuleParts.{OpIsThere, RegionIsThere, BlockIsThere}
use Rattle.derived_printer.specs.ModuleParts.{op_here, region_here, block_here, region_marks_at, view_at}
use Rattle.derived_printer.proofs.Printing.{exit, step, stop, named}
use Rattle.derived_printer.proofs.Loops.{went-start, went-end, turn, turn-first, turn-second, next-at}
use Rattle.derived_printer.proofs.ModuleTurns.{some-regions}
use Rattle.derived_printer.proofs.ModuleStored.{all-at}
use Rattle.derived_printer.proofs.ModuleTurns.{turn-one, next-op, end-ops, next-block, end-blocks, region-parts, block-parts, op-parts, generic-whole, generic-parts, form-generic}
use Rattle.derived_printer.proofs.ModuleWalk.{op-is, region-is, block-is, ops-there, regions-there, blocks-there}
use Rattle.derived_printer.proofs.Parts.{not-empty}
use Rattle.derived_printer.proofs.module.+modules.Goals as goal

-- ---- several operations, regions and blocks

pub operations-returns-in_err-operation : goal.operations-returns-in_err-operation
operations-returns-in_err-operation g t c =
    let m = c.args.m.now in
    exit c.from_residual.ensures
    (turn-first _ _ c.loop-id.invariant c.in_err-operation.ensures
    (next-op m.form m.defs.now m.u.now m.store.now c.args.indent c.args.ids.now c.loop-id.id-index _
    _ (record { 0 = 0 }) c.loop-id-test.true refl refl))

pub operations-loop-id-preserved : goal.operations-loop-id-preserved
operations-loop-id-preserved g t c =
    let m = c.args.m.now in
    turn-one _ _ c.loop-id.invariant c.in_ok-operation.ensures
    (next-op m.form m.defs.now m.u.now m.store.now c.args.indent c.args.ids.now c.loop-id.id-index _
    _ (record { 0 = 0 }) c.loop-id-test.true refl refl)

pub operations-loop-id-init : goal.operations-loop-id-init
operations-loop-id-init g t c = went-start

pub operations-returns : goal.operations-returns
operations-returns g t c =
    let m = c.args.m.now in
    went-end c.loop-id.invariant
    (end-ops m.form m.defs.now m.u.now m.store.now c.args.indent c.args.ids.now c.loop-id.id-index
    (omega arith))

pub operations-operation-requires : goal.operations-operation-requires
operations-operation-requires g t c =
    let there =
    all-at (OpIsThere c.args.m.now.store.now c.args.indent) c.args.ids.now c.loop-id.id-index
    (record { 0 = 0 }) c.loop-id-test.true c.requires.there in
    search rules

pub region_list-returns-in_err-separate : goal.region_list-returns-in_err-separate
region_list-returns-in_err-separate g t c =
    let m = c.args.m.now in
    exit c.from_residual.ensures
    (turn-first _ _ c.loop-i.invariant c.in_err-separate.ensures
    (next-at class.Comma (region_marks_at m.form m.defs.now m.u.now m.store.now c.args.indent)
    c.args.ids.now c.loop-i.i _ _ (record { 0 = 0 }) c.loop-i-test.true refl refl))

pub region_list-returns-in_err-region : goal.region_list-returns-in_err-region
region_list-returns-in_err-region g t c =
    let m = c.args.m.now in
    exit c.from_residual-in_err-region.ensures
    (turn-second _ _ _ c.loop-i.invariant c.in_ok-separate.ensures c.in_err-region.ensures
    (next-at class.Comma (region_marks_at m.form m.defs.now m.u.now m.store.now c.args.indent)
    c.args.ids.now c.loop-i.i _ _ (record { 0 = 0 }) c.loop-i-test.true refl refl))

pub region_list-loop-i-preserved : goal.region_list-loop-i-preserved
region_list-loop-i-preserved g t c =
    let m = c.args.m.now in
    turn _ _ _ c.loop-i.invariant c.in_ok-separate.ensures c.in_ok-region.ensures
    (next-at class.Comma (region_marks_at m.form m.defs.now m.u.now m.store.now c.args.indent)
    c.args.ids.now c.loop-i.i _ _ (record { 0 = 0 }) c.loop-i-test.true refl refl)

pub region_list-region-requires : goal.region_list-region-requires
region_list-region-requires g t c =
    let there =
    all-at (RegionIsThere c.args.m.now.store.now c.args.indent) c.args.ids.now c.loop-i.i
    (record { 0 = 0 }) c.loop-i-test.true c.requires.there in
    search rules

pub blocks-returns-in_err-block : goal.blocks-returns-in_err-block
blocks-returns-in_err-block g t c =
    let m = c.args.m.now in
    exit c.from_residual.ensures
    (turn-first _ _ c.loop-i.invariant c.in_err-block.ensures
    (next-block m.form m.defs.now m.u.now m.store.now c.args.indent c.args.ids.now c.loop-i.i _ _
    (record { 0 = 0 }) c.loop-i-test.true refl refl))

pub blocks-loop-i-preserved : goal.blocks-loop-i-preserved
blocks-loop-i-preserved g t c =
    let m = c.args.m.now in
    turn-one _ _ c.loop-i.invariant c.in_ok-block.ensures
    (next-block m.form m.defs.now m.u.now m.store.now c.args.indent c.args.ids.now c.loop-i.i _ _
    (record { 0 = 0 }) c.loop-i-test.true refl refl)

pub blocks-loop-i-init : goal.blocks-loop-i-init
blocks-loop-i-init g t c = went-start

pub blocks-returns : goal.blocks-returns
blocks-returns g t c =
    let m = c.args.m.now in
    went-end c.loop-i.invariant
    (end-blocks m.form m.defs.now m.u.now m.store.now c.args.indent c.args.ids.now c.loop-i.i
    (omega arith))

pub blocks-block-requires : goal.blocks-block-requires
blocks-block-requires g t c =
    let there =
    all-at (BlockIsThere c.args.m.now.store.now c.args.indent) c.args.ids.now c.loop-i.i
    (record { 0 = 0 }) c.loop-i-test.true c.requires.there in
    search rules

-- ---- one operation

pub operation-returns-in_err-new_line : goal.operation-returns-in_err-new_line
operation-returns-in_err-new_line g t c =
    let m = c.args.m.now in
    named (op-parts m.form m.defs.now m.u.now m.store.now c.args.indent c.args.id)
    (exit c.from_residual.ensures (stop _ _ c.in_err-new_line.ensures))

pub operation-returns-in_err-operation_results : goal.operation-returns-in_err-operation_results
operation-returns-in_err-operation_results g t c =
    let m = c.args.m.now in
    named (op-parts m.form m.defs.now m.u.now m.store.now c.args.indent c.args.id)
    (exit c.from_residual-in_err-operation_results.ensures
    (step _ _ c.in_ok-new_line.ensures (stop _ _ c.in_err-operation_results.ensures)))

pub operation-returns : goal.operation-returns
operation-returns g t c =
    let m = c.args.m.now in
    named (op-parts m.form m.defs.now m.u.now m.store.now c.args.indent c.args.id)
    (step _ _ c.in_ok-new_line.ensures
    (step _ _ c.in_ok-operation_results.ensures
    (named
    (form-generic m.form m.defs.now
    (view_at m.form m.defs.now m.u.now m.store.now c.args.indent c.args.id)) c.generic.ensures)))

-- ---- the generic form

pub generic-returns-in_err-generic_front : goal.generic-returns-in_err-generic_front
generic-returns-in_err-generic_front g t c =
    let m = c.args.m.now in
    named (generic-whole m.form m.defs.now m.u.now m.store.now c.args.indent c.args.id)
    (exit c.from_residual.ensures (stop _ _ c.in_err-generic_front.ensures))

pub generic-returns-in_err-regions : goal.generic-returns-in_err-regions
generic-returns-in_err-regions g t c =
    let m = c.args.m.now in
    named
    (generic-parts m.form m.defs.now m.u.now m.store.now c.args.indent c.args.id _
    (c.regions_of.ensures (op_here m.store.now c.args.id)
    (op-is m.store.now c.args.id c.requires.there.known)))
    (exit c.from_residual-in_err-regions.ensures
    (step _ _ c.in_ok-generic_front.ensures (stop _ _ c.in_err-regions.ensures)))

pub generic-returns : goal.generic-returns
generic-returns g t c =
    let m = c.args.m.now in
    named
    (generic-parts m.form m.defs.now m.u.now m.store.now c.args.indent c.args.id _
    (c.regions_of.ensures (op_here m.store.now c.args.id)
    (op-is m.store.now c.args.id c.requires.there.known)))
    (step _ _ c.in_ok-generic_front.ensures
    (step _ _ c.in_ok-regions.ensures c.generic_back.ensures))

pub generic-regions-requires : goal.generic-regions-requires
generic-regions-requires g t c =
    let m = c.args.m.now in
    let x = op_here m.store.now c.args.id in
    let are : AreRegions m.store.now (past_op x.at x.head) c.regions_of.result.now x.regions =
    c.regions_of.ensures x (op-is m.store.now c.args.id c.requires.there.known) in
    let there =
    regions-there m.store.now _ x.regions (past_op x.at x.head) c.args.indent are
    c.requires.there.room in
    search rules

pub regions-returns-in_err-sign : goal.regions-returns-in_err-sign
regions-returns-in_err-sign g t c =
    let m = c.args.m.now in
    named
    (some-regions m.form m.defs.now m.u.now m.store.now c.args.indent c.args.ids.now
    (not-empty _ _ c.is_empty.ensures c.if-is_empty.false))
    (exit c.from_residual.ensures (stop _ _ c.in_err-sign.ensures))

pub regions-returns-in_err-region_list : goal.regions-returns-in_err-region_list
regions-returns-in_err-region_list g t c =
    let m = c.args.m.now in
    named
    (some-regions m.form m.defs.now m.u.now m.store.now c.args.indent c.args.ids.now
    (not-empty _ _ c.is_empty.ensures c.if-is_empty.false))
    (exit c.from_residual-in_err-region_list.ensures
    (step _ _ c.in_ok-sign.ensures (stop _ _ c.in_err-region_list.ensures)))

pub regions-returns : goal.regions-returns
regions-returns g t c =
    let m = c.args.m.now in
    named
    (some-regions m.form m.defs.now m.u.now m.store.now c.args.indent c.args.ids.now
    (not-empty _ _ c.is_empty.ensures c.if-is_empty.false))
    (step _ _ c.in_ok-sign.ensures (step _ _ c.in_ok-region_list.ensures c.sign-2.ensures))

-- ---- one region

pub region-returns-in_err-sign : goal.region-returns-in_err-sign
region-returns-in_err-sign g t c = exit c.from_residual.ensures (stop _ _ c.in_err-sign.ensures)

pub region-returns-in_err-blocks : goal.region-returns-in_err-blocks
region-returns-in_err-blocks g t c =
    let m = c.args.m.now in
    named
    (region-parts m.form m.defs.now m.u.now m.store.now c.args.indent c.args.id _
    (c.blocks_of.ensures (region_here m.store.now c.args.id)
    (region-is m.store.now c.args.id c.requires.there.known)))
    (exit c.from_residual-in_err-blocks.ensures
    (step _ _ c.in_ok-sign.ensures (stop _ _ c.in_err-blocks.ensures)))

pub region-returns-in_err-new_line : goal.region-returns-in_err-new_line
region-returns-in_err-new_line g t c =
    let m = c.args.m.now in
    named
    (region-parts m.form m.defs.now m.u.now m.store.now c.args.indent c.args.id _
    (c.blocks_of.ensures (region_here m.store.now c.args.id)
    (region-is m.store.now c.args.id c.requires.there.known)))
    (exit c.from_residual-in_err-new_line.ensures
    (step _ _ c.in_ok-sign.ensures
    (step _ _ c.in_ok-blocks.ensures (stop (break_line c.args.indent ∷ []) _ c.in_err-new_line.ensures))))

pub region-returns : goal.region-returns
region-returns g t c =
    let m = c.args.m.now in
    named
    (region-parts m.form m.defs.now m.u.now m.store.now c.args.indent c.args.id _
    (c.blocks_of.ensures (region_here m.store.now c.args.id)
    (region-is m.store.now c.args.id c.requires.there.known)))
    (step _ _ c.in_ok-sign.ensures
    (step _ _ c.in_ok-blocks.ensures (step (break_line c.args.indent ∷ []) _ c.in_ok-new_line.ensures c.sign-2.ensures)))

pub region-blocks-requires : goal.region-blocks-requires
region-blocks-requires g t c =
    let m = c.args.m.now in
    let x = region_here m.store.now c.args.id in
    let are : AreBlocks m.store.now (past_region x.at) c.blocks_of.result.now x.blocks =
    c.blocks_of.ensures x (region-is m.store.now c.args.id c.requires.there.known) in
    let there =
    blocks-there m.store.now _ x.blocks (past_region x.at) c.args.indent are c.requires.there.room
    in
    search rules

-- ---- one block

pub block-returns-in_err-label : goal.block-returns-in_err-label
block-returns-in_err-label g t c = exit c.from_residual.ensures (stop _ _ c.in_err-label.ensures)

pub block-returns : goal.block-returns
block-returns g t c =
    let m = c.args.m.now in
    named
    (block-parts m.form m.defs.now m.u.now m.store.now c.args.indent c.args.place c.args.id _
    (c.ops_of.ensures (block_here m.store.now c.args.id)
    (block-is m.store.now c.args.id c.requires.there.known)))
    (step _ _ c.in_ok-label.ensures c.operations.ensures)

pub block-operations-requires : goal.block-operations-requires
block-operations-requires g t c =
    let m = c.args.m.now in
    let x = block_here m.store.now c.args.id in
    let are : AreOps m.store.now (past_block x.at x.args) c.ops_of.result.now x.ops =
    c.ops_of.ensures x (block-is m.store.now c.args.id c.requires.there.known) in
    let there =
    ops-there m.store.now _ x.ops (past_block x.at x.args) (c.args.indent + 2) are
    c.requires.there.room in
    let room : c.args.indent + 2 ≤ 128 = omega (arith, c.requires.there.room) in
    search rules
