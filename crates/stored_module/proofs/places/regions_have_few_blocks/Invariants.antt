use Rattle.std.proofs.Common.{◌↔◌, drop}
use Rattle.std.specs.List.{AllByRecursion}
use Rattle.stored_module.proofs.places.regions_have_few_blocks.Given as goal
use Rattle.stored_module.specs.Held.{HasFewBlocks}

-- it holds of all if it does of what is left
abbrev pub invariant-loop-region : goal.invariant-loop-region
invariant-loop-region l =
    AllByRecursion (HasFewBlocks l.store) l.regions
    ↔ AllByRecursion (HasFewBlocks l.store) (drop l.region-index l.regions)
