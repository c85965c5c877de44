use Rattle.std.proofs.Common.{map}
use Rattle.module_faults.specs.Listed.{seen}
use Rattle.module_faults.proofs.Listing.{ListedOps, ListedRegions, ListedBlocks}
use Rattle.module_faults.proofs.standing.+listing.Given as goal

abbrev pub invariant-list_blocks-loop-block : goal.invariant-list_blocks-loop-block
invariant-list_blocks-loop-block l = ListedBlocks (map seen l.initial.list.items)
    (map seen l.list.items) l.around l.blocks l.block-index

abbrev pub invariant-list_ops-loop-i : goal.invariant-list_ops-loop-i
invariant-list_ops-loop-i l = ListedOps (map seen l.initial.list.items)
    (map seen l.list.items) l.around l.ops l.i

abbrev pub invariant-list_regions-loop-region : goal.invariant-list_regions-loop-region
invariant-list_regions-loop-region l = ListedRegions (map seen l.initial.list.items)
    (map seen l.list.items) l.around l.regions l.region-index
