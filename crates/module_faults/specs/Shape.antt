-- When a module has the shape of trees: as many operations, each with as many results, regions,
-- blocks and arguments as its tree shows in generic form. No operation is in custom form.
--
--   HasShape cs m           operations
--   RegionsHaveShape, BlocksHaveShape     regions, blocks
--   definitions_in n cs m   the number of the first value that each definition of a name defines,
--                           in the order of the names' notes; values have numbers from n on
use Rattle.std.specs.Prelude.{◌≡◌, ◌≢◌, ℕ, ◌+◌, List, [], ◌∷◌, ◌++◌, length, map, sum}
use Rattle.std.specs.List.{range_with_len}
use Rattle.generic_syntax.specs.declared.module_cst.BlockCst.{BlockCst, out-BlockCst}
use Rattle.generic_syntax.specs.declared.module_cst.FormCst.{out-FormCst}
use Rattle.generic_syntax.specs.declared.module_cst.FormCst.TheOpen.{FormCst-F}
use Rattle.generic_syntax.specs.declared.module_cst.GenericCst.{out-GenericCst}
use Rattle.generic_syntax.specs.declared.module_cst.OpCst.{OpCst, out-OpCst}
use Rattle.generic_syntax.specs.declared.module_cst.RegionCst.{RegionCst, out-RegionCst}
use Rattle.generic_syntax.specs.declared.module_cst.ResultCst.{ResultCst}
use Rattle.ir_store.specs.Modules.{OpHead, Ops, Regions, Blocks, no_ops, then_op, no_regions}
use Rattle.ir_store.specs.Modules.{region, no_blocks, block, types_in, types_in_regions}
use Rattle.ir_store.specs.Modules.{types_in_blocks}
use Rattle.module_faults.specs.Standings.{generic_regions}
use Rattle.module_meaning.specs.Facts.{FormSeen}
use Rattle.module_meaning.specs.Names.{pack_size}

-- The form is generic, with as many uses, successors and result types as the operation has.
abbrev pub FormFits : {N V : Type 0} → FormSeen → OpHead N V → Type 0
FormFits (FormCst-F.Generic g) head =
    (length (out-GenericCst g).operands ≡ length head.operands)
    × (length (out-GenericCst g).successors ≡ length head.successors)
    × (length (out-GenericCst g).outputs ≡ length head.results)
FormFits (FormCst-F.Custom k) head = ⊥

-- the names of results, if there are any, stand for as many values as there are
abbrev pub NamesFit : {N V : Type 0} → List ResultCst → OpHead N V → Type 0
NamesFit results head =
    results ≢ [] → sum (map (λ (r : ResultCst). pack_size r.pack) results) ≡ length head.results

module _ {N V : Type 0} where
  abbrev mutual
    -- operations have the shape of their trees
    pub HasShape : List OpCst → Ops N V → Type 0
    HasShape [] no_ops = Unit {0}
    HasShape (c ∷ cs) (then_op head regions os) =
        FormFits (out-FormCst (out-OpCst c).form) head
        × NamesFit (out-OpCst c).results head
        × RegionsHaveShape (generic_regions c) regions
        × HasShape cs os
    HasShape [] (then_op _ _ _) = ⊥
    HasShape (c ∷ cs) no_ops = ⊥

    -- so do regions
    pub RegionsHaveShape : List RegionCst → Regions N V → Type 0
    RegionsHaveShape [] no_regions = Unit {0}
    RegionsHaveShape (r ∷ rs) (region bs regions) =
        BlocksHaveShape (out-RegionCst r).blocks bs × RegionsHaveShape rs regions
    RegionsHaveShape [] (region _ _) = ⊥
    RegionsHaveShape (r ∷ rs) no_regions = ⊥

    -- and blocks, with as many arguments
    pub BlocksHaveShape : List BlockCst → Blocks N V → Type 0
    BlocksHaveShape [] no_blocks = Unit {0}
    BlocksHaveShape (b ∷ bs) (block args os rest) =
        (length (out-BlockCst b).args ≡ length args)
        × HasShape (out-BlockCst b).ops os
        × BlocksHaveShape bs rest
    BlocksHaveShape [] (block _ _ _) = ⊥
    BlocksHaveShape (b ∷ bs) no_blocks = ⊥

-- the numbers of the first values that names of results stand for
abbrev pub result_firsts : ℕ → List ResultCst → List ℕ
result_firsts n [] = []
result_firsts n (r ∷ rs) = n ∷ result_firsts (n + pack_size r.pack) rs

module _ {N V : Type 0} where
  abbrev mutual
    -- of the names of operations and of what stands in them
    pub definitions_in : ℕ → List OpCst → Ops N V → List ℕ
    definitions_in n [] _ = []
    definitions_in n (c ∷ cs) no_ops = []
    definitions_in n (c ∷ cs) (then_op head regions os) =
        result_firsts n (out-OpCst c).results
        ++ (definitions_in_regions (n + length head.results) (generic_regions c) regions
        ++ definitions_in (n + length head.results + length (types_in_regions regions)) cs os)

    -- of regions
    pub definitions_in_regions : ℕ → List RegionCst → Regions N V → List ℕ
    definitions_in_regions n [] _ = []
    definitions_in_regions n (r ∷ rs) no_regions = []
    definitions_in_regions n (r ∷ rs) (region bs regions) =
        definitions_in_blocks n (out-RegionCst r).blocks bs
        ++ definitions_in_regions (n + length (types_in_blocks bs)) rs regions

    -- of blocks, whose arguments come before their operations
    pub definitions_in_blocks : ℕ → List BlockCst → Blocks N V → List ℕ
    definitions_in_blocks n [] _ = []
    definitions_in_blocks n (b ∷ bs) no_blocks = []
    definitions_in_blocks n (b ∷ bs) (block args os rest) =
        range_with_len n (length args)
        ++ (definitions_in (n + length args) (out-BlockCst b).ops os
        ++ definitions_in_blocks (n + length args + length (types_in os)) bs rest)
