-- Regions that nest too deep, among what stands in a tree.
--
--   IsDeepRegion ss f     f is the fault of a region of a list that stands at nesting 65
--
-- Inside: no public clause rests on this.
use Rattle.std.specs.Prelude.{◌≡◌, ◌<◌, ℕ, List, Contains}
use Rattle.attr_value.specs.declared.head.TheConstants.{DEPTH_LIMIT}
use Rattle.first_fault.specs.declared.fault.Fault.{Fault}
use Rattle.generic_syntax.specs.declared.module_cst.RegionCst.{RegionCst, out-RegionCst}
use Rattle.module_faults.specs.Standings.{Standing, a_region}
use Rattle.value_meaning.specs.declared.code.TheConstants.{NESTING}

-- a region of the list stands at nesting 65
pub record IsDeepRegion (ss : List Standing) (f : Fault) : Type 0 where
  pub nesting : ℕ
  pub region : RegionCst
  pub stands : Contains ss (a_region nesting region)
  pub deep : DEPTH_LIMIT < nesting
  pub place : f.place ≡ (out-RegionCst region).place
  pub code : f.code ≡ NESTING
