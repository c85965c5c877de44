use Rattle.std.proofs.Common.{map, take}
use Rattle.elaborate.specs.Regions.{IsDeepRegion}
use Rattle.first_fault.specs.Firsts.{IsFirst}
use Rattle.module_faults.specs.Listed.{seen}
use Rattle.elaborate.proofs.regions.first_deep_region.Given as goal

-- the first among those that were passed
abbrev pub invariant-loop-standing : goal.invariant-loop-standing
invariant-loop-standing l = record {
  first_is : IsFirst (IsDeepRegion (map seen (take l.standing-index l.standings))) l.first;
}
