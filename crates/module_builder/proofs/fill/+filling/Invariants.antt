use Rattle.std.proofs.Common.{take, ◌+◌}
use Rattle.std.specs.Slice.Iter.{iter_rest}
use Rattle.std.specs.Vec.Iter.{into_iter_items}
use Rattle.generic_syntax.specs.declared.module_cst.FormCst.{out-FormCst}
use Rattle.module_builder.specs.Filled.{OpsFilled, RegionsFilled, BlocksFilled}
use Rattle.module_builder.proofs.Weight.{ops_weight, regions_weight, blocks_weight}
use Rattle.module_faults.specs.Standings.{regions_in_form}
use Rattle.module_builder.proofs.fill.+filling.Given as goal

-- Trees rank by what stands among them.

abbrev pub decreases-fill_ops : goal.decreases-fill_ops
decreases-fill_ops l = ops_weight l.ops.now

abbrev pub decreases-fill_form : goal.decreases-fill_form
decreases-fill_form l = regions_weight (regions_in_form (out-FormCst l.form.now)) + 1

abbrev pub decreases-fill_regions : goal.decreases-fill_regions
decreases-fill_regions l = regions_weight l.regions.now

abbrev pub decreases-fill_blocks : goal.decreases-fill_blocks
decreases-fill_blocks l = blocks_weight l.blocks.now

abbrev pub invariant-fill_blocks-loop-block : goal.invariant-fill_blocks-loop-block
invariant-fill_blocks-loop-block l = BlocksFilled l.initial.store l.store l.region
    (take l.block-index l.blocks) (iter_rest l.initial.args) (iter_rest l.args)
    (into_iter_items l.initial.rows) (into_iter_items l.rows)

abbrev pub invariant-fill_ops-loop-op : goal.invariant-fill_ops-loop-op
invariant-fill_ops-loop-op l = OpsFilled l.initial.store l.store l.block
    (take l.op-index l.ops) (into_iter_items l.initial.rows) (into_iter_items l.rows)

abbrev pub invariant-fill_regions-loop-region : goal.invariant-fill_regions-loop-region
invariant-fill_regions-loop-region l = RegionsFilled l.initial.store l.store l.op
    (take l.region-index l.regions) (iter_rest l.initial.args) (iter_rest l.args)
    (into_iter_items l.initial.rows) (into_iter_items l.rows)
