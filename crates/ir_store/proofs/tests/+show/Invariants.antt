use Rattle.std.proofs.Common.{◌+◌, ◌*◌}
use Rattle.ir_store.proofs.Sites.{OpsLeft, RegionsLeft, BlocksLeft}
use Rattle.ir_store.proofs.tests.+show.Given as goal

abbrev pub decreases-show_ops : goal.decreases-show_ops
decreases-show_ops l = 3 * l.left

abbrev pub decreases-show_regions : goal.decreases-show_regions
decreases-show_regions l = 3 * l.left + 2

abbrev pub decreases-show_blocks : goal.decreases-show_blocks
decreases-show_blocks l = 3 * l.left + 1

abbrev pub invariant-show_ops-loop-id : goal.invariant-show_ops-loop-id
invariant-show_ops-loop-id l = OpsLeft l.store l.ids l.id-index

abbrev pub invariant-show_regions-loop-id : goal.invariant-show_regions-loop-id
invariant-show_regions-loop-id l = RegionsLeft l.store l.ids l.id-index

abbrev pub invariant-show_blocks-loop-id : goal.invariant-show_blocks-loop-id
invariant-show_blocks-loop-id l = BlocksLeft l.store l.ids l.id-index
