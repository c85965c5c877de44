-- What a list of standings says: each names a part of the tree that it borrows from.
--
--   seen listed          what stands there
--   form_standings n f   what stands in the regions of a form, with n regions round them
use Rattle.std.specs.Prelude.{ℕ, List}
use Rattle.generic_syntax.specs.declared.module_cst.FormCst.{FormCst, out-FormCst}
use Rattle.module_faults.specs.declared.standing.Standing.{Standing as Listed}
use Rattle.module_faults.specs.declared.standing.Standing.TheVariants.{Op, Region, Block}
use Rattle.module_faults.specs.Standings.{Standing, an_op, a_region, a_block}
use Rattle.module_faults.specs.Standings.{regions_in_form, regions_standings}

-- what stands there
abbrev pub seen : Listed → Standing
seen (Op op is_last) = an_op op.now is_last
seen (Region region nesting) = a_region nesting region.now
seen (Block block) = a_block block.now

-- what stands in the regions of a form
abbrev pub form_standings : ℕ → FormCst → List Standing
form_standings n f = regions_standings n (regions_in_form (out-FormCst f))
