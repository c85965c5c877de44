-- When the names in a module's tree mean the values and blocks of the module, whatever else the
-- tree shows: the part of `module_meaning`'s `OpsSay` that speaks of names, for generic forms.
--
-- By recursion over the module, with the trees beside it, of which one level is looked at a time.
--
--   FormNamed env form head     uses and successors mean the operands and successors of a head
--   OpNamed env c head          so do those of an operation's tree, and its own names are right
--   OpsNamed env n cs os        so it is of operations, and of those in their regions
--   RegionsNamed, BlocksNamed   the same of regions, and of blocks
use Rattle.std.specs.Prelude.{◌≡◌, ◌<◌, ℕ, ◌+◌, List, [], ◌∷◌, length, map, bytes_eq}
use Rattle.std.specs.List.{AllByRecursion, IsDistinct}
use Rattle.std.specs.declared.option.Option.TheVariants.{Some}
use Rattle.attr_value.specs.Values.{Value}
use Rattle.generic_syntax.specs.declared.module_cst.BlockCst.{BlockCst, out-BlockCst}
use Rattle.generic_syntax.specs.declared.module_cst.FormCst.{out-FormCst}
use Rattle.generic_syntax.specs.declared.module_cst.FormCst.TheOpen.{FormCst-F}
use Rattle.generic_syntax.specs.declared.module_cst.GenericCst.{out-GenericCst}
use Rattle.generic_syntax.specs.declared.module_cst.OpCst.{OpCst, out-OpCst}
use Rattle.generic_syntax.specs.declared.module_cst.RegionCst.{RegionCst, out-RegionCst}
use Rattle.ir_lexer.specs.Spelling.{Text}
use Rattle.ir_store.specs.Modules.{Regions, Blocks, no_ops, then_op, no_regions, region}
use Rattle.ir_store.specs.Modules.{no_blocks, block, types_in, types_in_regions, types_in_blocks}
use Rattle.module_faults.specs.Standings.{generic_regions}
use Rattle.module_meaning.specs.Completes.{IsPack, block_scope}
use Rattle.module_meaning.specs.Facts.{FormSeen}
use Rattle.module_meaning.specs.Names.{Env, AreNew, inside, behind, used, target, label_scope}
use Rattle.module_meaning.specs.Names.{names_in, result_names, argument_names, op_names}
use Rattle.module_meaning.specs.WholeModules.{WholeHead, WholeModule}

-- ---- names

-- uses mean the operands and successors lead to the blocks, one by one; no form is custom
abbrev pub FormNamed : Env → FormSeen → WholeHead → Type 0
FormNamed env (FormCst-F.Generic g) head =
    (map (used env) (out-GenericCst g).operands ≡ map Some head.operands)
    × (map (target env) (out-GenericCst g).successors ≡ map Some head.successors)
FormNamed env (FormCst-F.Custom k) head = ⊥

-- The names of results are new and stand for right numbers of values, uses and successors mean
-- those of the operation, and no successor leads to the first block of its region.
pub record OpNamed (env : Env) (c : OpCst) (head : WholeHead) : Type 0 where
  pub new : AreNew env.before (result_names (out-OpCst c).results)
  pub packs : AllByRecursion IsPack (out-OpCst c).results
  pub form : FormNamed env (out-FormCst (out-OpCst c).form) head
  pub targets : AllByRecursion (λ b. 0 < b) head.successors

abbrev mutual
  -- the names of operations are right one by one, where the first value has the number n
  pub OpsNamed : Env → ℕ → List OpCst → WholeModule → Type 0
  OpsNamed env n [] no_ops = Unit {0}
  OpsNamed env n (c ∷ cs) (then_op head regions os) =
      OpNamed env c head
      × RegionsNamed (behind env (result_names (out-OpCst c).results)) (n + length head.results)
      (generic_regions c) regions
      × OpsNamed (behind env (result_names (out-OpCst c).results))
      (n + length head.results + length (types_in_regions regions)) cs os
  OpsNamed env n [] (then_op _ _ _) = ⊥
  OpsNamed env n (c ∷ cs) no_ops = ⊥

  -- In a region names mean what it defines itself, then what is round it; its labels are its own
  -- alone, and differ.
  pub RegionsNamed : Env → ℕ → List RegionCst → Regions Text Value → Type 0
  RegionsNamed env n [] no_regions = Unit {0}
  RegionsNamed env n (r ∷ rs) (region blocks regions) =
      IsDistinct bytes_eq (names_in (label_scope 0 (out-RegionCst r).blocks))
      × BlocksNamed (inside env (block_scope n (out-RegionCst r).blocks blocks)
      (label_scope 0 (out-RegionCst r).blocks)) n (out-RegionCst r).blocks blocks
      × RegionsNamed env (n + length (types_in_blocks blocks)) rs regions
  RegionsNamed env n [] (region _ _) = ⊥
  RegionsNamed env n (r ∷ rs) no_regions = ⊥

  -- The names of each block's arguments are new, and its operations and arguments are defined
  -- before those of the next.
  pub BlocksNamed : Env → ℕ → List BlockCst → Blocks Text Value → Type 0
  BlocksNamed env n [] no_blocks = Unit {0}
  BlocksNamed env n (b ∷ bs) (block args os rest) =
      AreNew env.before (argument_names (out-BlockCst b).args)
      × OpsNamed (behind env (argument_names (out-BlockCst b).args)) (n + length args)
      (out-BlockCst b).ops os
      × BlocksNamed (behind (behind env (argument_names (out-BlockCst b).args))
      (op_names (out-BlockCst b).ops)) (n + length args + length (types_in os)) bs rest
  BlocksNamed env n [] (block _ _ _) = ⊥
  BlocksNamed env n (b ∷ bs) no_blocks = ⊥
