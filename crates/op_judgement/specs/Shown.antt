-- What the tree of an operation shows of its regions and successors, in generic form.
--
--   block_trees rs        the trees of the arguments' types, for each block of regions
--   block_counts rs       how many blocks each region has
--   successors_in form    the successors
use Rattle.std.specs.Prelude.{ℕ, List, [], ◌∷◌, ◌++◌, length, map}
use Rattle.generic_syntax.specs.declared.cst.NameCst.{NameCst}
use Rattle.generic_syntax.specs.declared.cst.ValueCst.{ValueCst}
use Rattle.generic_syntax.specs.declared.module_cst.FormCst.TheOpen.{FormCst-F}
use Rattle.generic_syntax.specs.declared.module_cst.GenericCst.{out-GenericCst}
use Rattle.generic_syntax.specs.declared.module_cst.RegionCst.{RegionCst, out-RegionCst}
use Rattle.module_faults.specs.OpFaults.{block_types}
use Rattle.module_meaning.specs.Facts.{FormSeen}

-- the trees of the types of arguments, for each block of regions in the order of the text
abbrev pub block_trees : List RegionCst → List (List ValueCst)
block_trees [] = []
block_trees (r ∷ rs) = map block_types (out-RegionCst r).blocks ++ block_trees rs

-- how many blocks each region has
abbrev pub block_counts : List RegionCst → List ℕ
block_counts rs = map (λ r. length (out-RegionCst r).blocks) rs

-- the successors of the generic form; a custom one shows none
abbrev pub successors_in : FormSeen → List NameCst
successors_in (FormCst-F.Generic g) = (out-GenericCst g).successors
successors_in (FormCst-F.Custom k) = []
