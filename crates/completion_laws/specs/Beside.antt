-- A module beside its trees: what holds of each operation and its tree. The regions of a tree are
-- those of its generic form.
--
--   OpsBeside P cs os       P holds of each operation of os with its tree, and of whether it is the
--                           last of its list; there are as many operations, regions and blocks as
--                           trees
--   RegionsBeside, BlocksBeside     the same of regions and of blocks
--   Completing .. c head regions    the operation completes its tree
--   IsRightOp .. c site     it does, its definition has its name, and its values are good
use Rattle.std.specs.Prelude.{◌≡◌, ℕ, Bool, List, [], ◌∷◌}
use Rattle.std.specs.List.{AllByRecursion}
use Rattle.attr_value.specs.Values.{Value}
use Rattle.generic_syntax.specs.declared.module_cst.BlockCst.{BlockCst, out-BlockCst}
use Rattle.generic_syntax.specs.declared.module_cst.OpCst.{OpCst}
use Rattle.generic_syntax.specs.declared.module_cst.RegionCst.{RegionCst, out-RegionCst}
use Rattle.ir_lexer.specs.Spelling.{Text}
use Rattle.ir_store.specs.Modules.{Regions, Blocks, no_ops, then_op, no_regions, region}
use Rattle.ir_store.specs.Modules.{no_blocks, block}
use Rattle.ir_store.specs.Named.{AttrsAreRight}
use Rattle.ir_store.specs.Numbering.{OpSite}
use Rattle.module_faults.specs.Standings.{generic_regions}
use Rattle.module_meaning.specs.Completes.{OpCompletes}
use Rattle.module_meaning.specs.Facts.{no_forms}
use Rattle.module_meaning.specs.WholeModules.{WholeHead, WholeModule, Loaded, IsGood}
use Rattle.module_meaning.specs.WholeModules.{operation_with, is_end}
use Rattle.value_meaning.specs.Meaning.{Aliases}

module _ (P : OpCst → WholeHead → Regions Text Value → Bool → Type 0) where
  abbrev mutual
    -- P holds of each operation with its tree
    pub OpsBeside : List OpCst → WholeModule → Type 0
    OpsBeside [] no_ops = Unit {0}
    OpsBeside (c ∷ cs) (then_op head regions os) =
        P c head regions (is_end os)
        × RegionsBeside (generic_regions c) regions
        × OpsBeside cs os
    OpsBeside [] (then_op _ _ _) = ⊥
    OpsBeside (c ∷ cs) no_ops = ⊥

    -- and of each in regions
    pub RegionsBeside : List RegionCst → Regions Text Value → Type 0
    RegionsBeside [] no_regions = Unit {0}
    RegionsBeside (r ∷ rs) (region bs regions) =
        BlocksBeside (out-RegionCst r).blocks bs × RegionsBeside rs regions
    RegionsBeside [] (region _ _) = ⊥
    RegionsBeside (r ∷ rs) no_regions = ⊥

    -- and of each in blocks
    pub BlocksBeside : List BlockCst → Blocks Text Value → Type 0
    BlocksBeside [] no_blocks = Unit {0}
    BlocksBeside (b ∷ bs) (block args os rest) =
        OpsBeside (out-BlockCst b).ops os × BlocksBeside bs rest
    BlocksBeside [] (block _ _ _) = ⊥
    BlocksBeside (b ∷ bs) no_blocks = ⊥

-- G holds of each value in lists of lists
abbrev pub InEach : (Value → Type 0) → List (List (List Value)) → Type 0
InEach G regions = AllByRecursion (AllByRecursion (AllByRecursion G)) regions

module _ (loaded : Loaded) (aliases : Aliases) where
  -- The operation completes its tree, with operands of some types, of which Typed holds; its
  -- definition has its name.
  pub record Completing (Typed : List Value → List ℕ → Type 0) (c : OpCst) (head : WholeHead)
      (regions : Regions Text Value) : Type 0 where
    pub types : List Value
    pub typed : Typed types head.operands
    pub completes : OpCompletes loaded no_forms aliases c (operation_with types head regions)
    pub named : completes.def.name ≡ head.name

  -- The operation completes its tree with operands of some types, and its definition has its name.
  -- Its attributes have good values by strictly ascending keys.
  pub record IsRightOp (c : OpCst) (head : WholeHead) (regions : Regions Text Value) : Type 0
    where
      pub types : List Value
      pub completes : OpCompletes loaded no_forms aliases c (operation_with types head regions)
      pub named : completes.def.name ≡ head.name
      pub attrs : AttrsAreRight head
      pub values : AllByRecursion (IsGood loaded) head.values

  -- so is one where it stands
  abbrev pub IsRightSite : OpCst → OpSite Text Value → Type 0
  IsRightSite c site = IsRightOp c site.head site.regions
