-- What stands in a tree, by what stands in its parts: one lemma for each kind of tree.
--
--   op-opens       in an operation there stand the regions of its generic form
--   region-opens   a region, and then its blocks
--   block-opens    a block, and then its operations
use Rattle.std.proofs.Common.{◌≡◌, ℕ, List, [], ◌∷◌, ◌++◌, map, refl, ap, ◌∙◌}
use Rattle.generic_syntax.specs.declared.module_cst.BlockCst.{BlockCst, out-BlockCst}
use Rattle.generic_syntax.specs.declared.module_cst.BlockCst.{fold_out-BlockCst}
use Rattle.generic_syntax.specs.declared.module_cst.FormCst.{FormCst, out-FormCst, fold-FormCst}
use Rattle.generic_syntax.specs.declared.module_cst.FormCst.{fold_out-FormCst, map-FormCst}
use Rattle.generic_syntax.specs.declared.module_cst.FormCst.TheOpen.{FormCst-F}
use Rattle.generic_syntax.specs.declared.module_cst.GenericCst.{GenericCst, out-GenericCst}
use Rattle.generic_syntax.specs.declared.module_cst.GenericCst.{fold-GenericCst}
use Rattle.generic_syntax.specs.declared.module_cst.GenericCst.{fold_out-GenericCst}
use Rattle.generic_syntax.specs.declared.module_cst.CustomCst.{CustomCst, fold-CustomCst}
use Rattle.generic_syntax.specs.declared.module_cst.OpCst.{OpCst, out-OpCst, fold_out-OpCst}
use Rattle.generic_syntax.specs.declared.module_cst.PartCst.{PartCst, fold-PartCst}
use Rattle.generic_syntax.specs.declared.module_cst.RegionCst.{RegionCst, out-RegionCst}
use Rattle.generic_syntax.specs.declared.module_cst.RegionCst.{fold_out-RegionCst}
use Rattle.module_meaning.specs.Facts.{FormSeen}
use Rattle.module_faults.specs.Standings.{an_op, a_region, a_block, deeper, Told, Nothing}
use Rattle.module_faults.specs.Standings.{told_each, told_ops, told_op, told_region, told_block}
use Rattle.module_faults.specs.Standings.{form_layer, part_layer, block_layer, custom_layer}
use Rattle.module_faults.specs.Standings.{generic_layer, op_layer, region_layer}
use Rattle.module_faults.specs.Standings.{is_last_before, regions_in_form, generic_regions}
use Rattle.module_faults.specs.Standings.{op_inside}
use Rattle.module_faults.specs.Standings.{region_standings, block_standings, ops_standings}
use Rattle.module_faults.specs.Standings.{regions_standings, blocks_standings}

-- ---- lists of trees

told-regions : (rs : List RegionCst) (n : ℕ)
    → told_each (map told_region rs) rs n ≡ regions_standings n rs
told-regions [] n = refl
told-regions (r ∷ rs) n = ap (λ l. region_standings n r ++ l) (told-regions rs n)

told-blocks : (bs : List BlockCst) (n : ℕ)
    → told_each (map told_block bs) bs n ≡ blocks_standings n bs
told-blocks [] n = refl
told-blocks (b ∷ bs) n = ap (λ l. block_standings n b ++ l) (told-blocks bs n)

told-operations : (cs : List OpCst) (n : ℕ) → told_ops (map told_op cs) cs n ≡ ops_standings n cs
told-operations [] n = refl
told-operations (c ∷ cs) n =
    ap (λ l. an_op c (is_last_before cs) ∷ (op_inside n c ++ l)) (told-operations cs n)

-- ---- forms, of which the specification has no name of its own

unfoldable told_form : FormCst → Told (List RegionCst)
told_form = fold-FormCst (Told (List RegionCst)) Nothing (Told BlockCst) Nothing
    (Told (List RegionCst)) (Told OpCst) (Told RegionCst)
    form_layer part_layer block_layer custom_layer generic_layer op_layer region_layer

unfoldable told_part : PartCst → Nothing
told_part = fold-PartCst (Told (List RegionCst)) Nothing (Told BlockCst) Nothing
    (Told (List RegionCst)) (Told OpCst) (Told RegionCst)
    form_layer part_layer block_layer custom_layer generic_layer op_layer region_layer

unfoldable told_custom : CustomCst → Nothing
told_custom = fold-CustomCst (Told (List RegionCst)) Nothing (Told BlockCst) Nothing
    (Told (List RegionCst)) (Told OpCst) (Told RegionCst)
    form_layer part_layer block_layer custom_layer generic_layer op_layer region_layer

unfoldable told_generic : GenericCst → Told (List RegionCst)
told_generic = fold-GenericCst (Told (List RegionCst)) Nothing (Told BlockCst) Nothing
    (Told (List RegionCst)) (Told OpCst) (Told RegionCst)
    form_layer part_layer block_layer custom_layer generic_layer op_layer region_layer

generic-opens : (g : GenericCst) (rs : List RegionCst) (n : ℕ)
    → told_generic g rs n ≡ told_each (map told_region (out-GenericCst g).regions) rs n
unfolding told_generic told_region
generic-opens g rs n = ap (λ f. f rs n) (fold_out-GenericCst _ _ _ _ _ _ _ form_layer part_layer
    block_layer custom_layer generic_layer op_layer region_layer g)

-- what a form tells of its regions, by one level of it
abbrev form_tells : FormSeen → Told (List RegionCst)
form_tells (FormCst-F.Generic g) = told_generic g
form_tells (FormCst-F.Custom k) = λ rs n. []

form-opens : (f : FormCst) (rs : List RegionCst) (n : ℕ)
    → told_form f rs n ≡ form_tells (out-FormCst f) rs n
unfolding told_form told_part told_block told_custom told_generic told_op told_region
form-opens f rs n =
    ap (λ h. h rs n) (fold_out-FormCst _ _ _ _ _ _ _ form_layer part_layer block_layer
    custom_layer generic_layer op_layer region_layer f)
    ∙ by (out-FormCst f)
  where
    by : (v : FormSeen) → form_layer (map-FormCst FormCst PartCst BlockCst CustomCst GenericCst
        OpCst RegionCst (Told (List RegionCst)) Nothing (Told BlockCst) Nothing
        (Told (List RegionCst)) (Told OpCst) (Told RegionCst) told_form told_part told_block
        told_custom told_generic told_op told_region v) rs n ≡ form_tells v rs n
    by (FormCst-F.Generic g) = refl
    by (FormCst-F.Custom k) = refl

form-regions : (v : FormSeen) (n : ℕ)
    → form_tells v (regions_in_form v) n ≡ regions_standings n (regions_in_form v)
form-regions (FormCst-F.Generic g) n =
    generic-opens g (out-GenericCst g).regions n ∙ told-regions (out-GenericCst g).regions n
form-regions (FormCst-F.Custom k) n = refl

-- ---- trees

-- the regions of an operation
pub op-opens : (n : ℕ) (c : OpCst) → op_inside n c ≡ regions_standings n (generic_regions c)
unfolding told_op told_form
op-opens n c =
    ap (λ f. f c n) (fold_out-OpCst _ _ _ _ _ _ _ form_layer part_layer block_layer custom_layer
    generic_layer op_layer region_layer c)
    ∙ form-opens (out-OpCst c).form (generic_regions c) n
    ∙ form-regions (out-FormCst (out-OpCst c).form) n

-- a region, and then its blocks
pub region-opens : (n : ℕ) (r : RegionCst) → region_standings n r
    ≡ a_region (deeper n) r ∷ blocks_standings (deeper n) (out-RegionCst r).blocks
unfolding told_region told_block
region-opens n r =
    ap (λ f. f r n) (fold_out-RegionCst _ _ _ _ _ _ _ form_layer part_layer block_layer
    custom_layer generic_layer op_layer region_layer r)
    ∙ ap (λ l. a_region (deeper n) r ∷ l) (told-blocks (out-RegionCst r).blocks (deeper n))

-- a block, and then its operations
pub block-opens : (n : ℕ) (b : BlockCst)
    → block_standings n b ≡ a_block b ∷ ops_standings n (out-BlockCst b).ops
unfolding told_block told_op
block-opens n b =
    ap (λ f. f b n) (fold_out-BlockCst _ _ _ _ _ _ _ form_layer part_layer block_layer
    custom_layer generic_layer op_layer region_layer b)
    ∙ ap (λ l. a_block b ∷ l) (told-operations (out-BlockCst b).ops n)
