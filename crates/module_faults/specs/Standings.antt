-- What stands in the tree of a module, as a flat list: operations, regions and blocks, each before
-- what stands in it. It is the order in which the names of a module are noted, and in which a store
-- numbers its parts.
--
-- The regions of the generic form stand in the order of the text. In a custom form nothing stands.
--
--   Standing               an operation, and whether it is the last of its list; a region, at its
--                          nesting; a block
--   generic_regions c      the regions that the generic form of an operation has
--   ops_standings n cs     what stands in operations, and they themselves, with n regions round
--                          them
--   op_inside n c          what stands in the regions of one operation
--   region_standings, block_standings   the same of a region and of a block, with n regions round
--   regions_standings, blocks_standings      the same of regions and of blocks, one after the other
--   standings tree         what stands in a module
--   deeper n               the nesting of a region in n regions
--   ops_of, blocks_of      the operations of a list, its blocks
use Rattle.std.specs.Prelude.{ℕ, suc, min, Bool, true, false, List, [], ◌∷◌, ◌++◌}
use Rattle.attr_value.specs.declared.head.TheConstants.{DEPTH_LIMIT}
use Rattle.generic_syntax.specs.declared.module_cst.BlockCst.{BlockCst, BlockCst-F, out-BlockCst}
use Rattle.generic_syntax.specs.declared.module_cst.BlockCst.{fold-BlockCst}
use Rattle.generic_syntax.specs.declared.module_cst.CustomCst.{CustomCst-F}
use Rattle.generic_syntax.specs.declared.module_cst.FormCst.{out-FormCst}
use Rattle.generic_syntax.specs.declared.module_cst.FormCst.TheOpen.{FormCst-F, PartCst-F}
use Rattle.generic_syntax.specs.declared.module_cst.GenericCst.{GenericCst-F}
use Rattle.generic_syntax.specs.declared.module_cst.GenericCst.{out-GenericCst}
use Rattle.generic_syntax.specs.declared.module_cst.ModuleCst.{ModuleCst}
use Rattle.generic_syntax.specs.declared.module_cst.OpCst.{OpCst, OpCst-F, out-OpCst, fold-OpCst}
use Rattle.generic_syntax.specs.declared.module_cst.RegionCst.{RegionCst, RegionCst-F}
use Rattle.generic_syntax.specs.declared.module_cst.RegionCst.{out-RegionCst, fold-RegionCst}
use Rattle.module_meaning.specs.Facts.{FormSeen}

-- an operation, and whether it is the last of its list; a region with its nesting, which is 1 where
-- no other is round it and is counted no further than 65; a block
pub data Standing : Type 0 where
  an_op : OpCst → Bool → Standing
  a_region : ℕ → RegionCst → Standing
  a_block : BlockCst → Standing

-- the nesting of a region with so many regions round it, counted no further than where it is too
-- deep
abbrev pub deeper : ℕ → ℕ
deeper n = min (suc n) (suc DEPTH_LIMIT)

-- no other is behind
abbrev pub is_last_before : {A : Type 0} → List A → Bool
is_last_before [] = true
is_last_before (x ∷ xs) = false

-- the regions of the generic form; none of a custom one
abbrev pub regions_in_form : FormSeen → List RegionCst
regions_in_form (FormCst-F.Generic g) = (out-GenericCst g).regions
regions_in_form (FormCst-F.Custom k) = []

abbrev pub generic_regions : OpCst → List RegionCst
generic_regions c = regions_in_form (out-FormCst (out-OpCst c).form)

-- ---- one level of a tree: what stands in it, by the tree itself, what is said of the trees below,
-- and the number of regions round it

-- what is said of a tree by itself and the number of regions round it
abbrev pub Told : Type 0 → Type 0
Told A = A → ℕ → List Standing

-- what is said of each of these
abbrev pub told_each : {A : Type 0} → List (Told A) → List A → ℕ → List Standing
told_each [] _ n = []
told_each (f ∷ fs) [] n = []
told_each (f ∷ fs) (x ∷ xs) n = f x n ++ told_each fs xs n

-- operations, each before what stands in it
abbrev pub told_ops : List (Told OpCst) → List OpCst → ℕ → List Standing
told_ops [] _ n = []
told_ops (f ∷ fs) [] n = []
told_ops (f ∷ fs) (c ∷ cs) n = an_op c (is_last_before cs) ∷ (f c n ++ told_ops fs cs n)

-- a custom form, where nothing stands
abbrev pub Nothing : Type 0
Nothing = List Standing

abbrev pub Told-F : (Type 0 → Type 0 → Type 0 → Type 0 → Type 0 → Type 0 → Type 0 → Type 0)
    → Type 0
Told-F F = F (Told (List RegionCst)) Nothing (Told BlockCst) Nothing (Told (List RegionCst))
    (Told OpCst) (Told RegionCst)

-- the regions of a form
abbrev pub form_layer : Told-F FormCst-F → Told (List RegionCst)
form_layer (FormCst-F.Generic g) = g
form_layer (FormCst-F.Custom k) = λ rs n. []

abbrev pub part_layer : Told-F PartCst-F → Nothing
part_layer p = []

abbrev pub custom_layer : Told-F CustomCst-F → Nothing
custom_layer k = []

abbrev pub block_layer : Told-F BlockCst-F → Told BlockCst
block_layer b = λ block n. a_block block ∷ told_ops b.ops (out-BlockCst block).ops n

abbrev pub generic_layer : Told-F GenericCst-F → Told (List RegionCst)
generic_layer g = λ rs n. told_each g.regions rs n

abbrev pub op_layer : Told-F OpCst-F → Told OpCst
op_layer o = λ c n. o.form (generic_regions c) n

abbrev pub region_layer : Told-F RegionCst-F → Told RegionCst
region_layer r = λ region n.
    a_region (deeper n) region ∷ told_each r.blocks (out-RegionCst region).blocks (deeper n)

-- ---- trees

unfoldable pub told_op : OpCst → Told OpCst
told_op = fold-OpCst (Told (List RegionCst)) Nothing (Told BlockCst) Nothing
    (Told (List RegionCst)) (Told OpCst) (Told RegionCst)
    form_layer part_layer block_layer custom_layer generic_layer op_layer region_layer

unfoldable pub told_region : RegionCst → Told RegionCst
told_region = fold-RegionCst (Told (List RegionCst)) Nothing (Told BlockCst) Nothing
    (Told (List RegionCst)) (Told OpCst) (Told RegionCst)
    form_layer part_layer block_layer custom_layer generic_layer op_layer region_layer

unfoldable pub told_block : BlockCst → Told BlockCst
told_block = fold-BlockCst (Told (List RegionCst)) Nothing (Told BlockCst) Nothing
    (Told (List RegionCst)) (Told OpCst) (Told RegionCst)
    form_layer part_layer block_layer custom_layer generic_layer op_layer region_layer

-- what stands in the regions of an operation
abbrev pub op_inside : ℕ → OpCst → List Standing
op_inside n c = told_op c c n

-- a region, and what stands in it
abbrev pub region_standings : ℕ → RegionCst → List Standing
region_standings n r = told_region r r n

-- a block, and what stands in it
abbrev pub block_standings : ℕ → BlockCst → List Standing
block_standings n b = told_block b b n

-- operations, each before what stands in it
abbrev pub ops_standings : ℕ → List OpCst → List Standing
ops_standings n [] = []
ops_standings n (c ∷ cs) = an_op c (is_last_before cs) ∷ (op_inside n c ++ ops_standings n cs)

-- regions, each before what stands in it
abbrev pub regions_standings : ℕ → List RegionCst → List Standing
regions_standings n [] = []
regions_standings n (r ∷ rs) = region_standings n r ++ regions_standings n rs

-- blocks, each before what stands in it
abbrev pub blocks_standings : ℕ → List BlockCst → List Standing
blocks_standings n [] = []
blocks_standings n (b ∷ bs) = block_standings n b ++ blocks_standings n bs

-- what stands in a module
abbrev pub standings : ModuleCst → List Standing
standings tree = ops_standings 0 tree.ops

-- ---- those of one kind

-- the operations
abbrev pub ops_of : List Standing → List OpCst
ops_of [] = []
ops_of (an_op c last ∷ ss) = c ∷ ops_of ss
ops_of (a_region n r ∷ ss) = ops_of ss
ops_of (a_block b ∷ ss) = ops_of ss

-- the blocks
abbrev pub blocks_of : List Standing → List BlockCst
blocks_of [] = []
blocks_of (an_op c last ∷ ss) = blocks_of ss
blocks_of (a_region n r ∷ ss) = blocks_of ss
blocks_of (a_block b ∷ ss) = b ∷ blocks_of ss
