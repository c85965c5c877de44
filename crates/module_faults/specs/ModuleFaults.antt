-- The faults of the tree of a module, stage by stage, and its refusal.
--
-- The stages are names, values, operations, and the types of uses. A stage has a say where the
-- earlier ones have no fault anywhere in the module. In a stage the fault with the least place
-- counts, and at one place that with the lowest number; at one operation the rules go in their own
-- order. An alias is judged where those before it have good values, and the values of operations
-- where all aliases have; in a text aliases stand before all operations, so the first of all faults
-- is the same.
--
--   IsNamesFault tree f        a name, a label, an alias or the size of a pack is at fault
--   IsValuesFault .. tree f    a value of an alias or of an operation is, or a region nests too deep
--   IsOperationsFault .. tree f     an operation is; the number is the rank of its rule
--   shown_uses cs              all uses with the trees of their types, operation by operation
--   operands_in m              the numbers of all operands of a module, operation by operation
--   IsUseFault .. tree m f     a use has another type than its value in the module m
--   IsUsesFault .. tree f      so it is in a module that completes the tree but for types of uses
--   IsRefusal .. tree f        the module is refused for f
--   IsFaultless .. tree        no stage has a fault
use Rattle.std.specs.Prelude.{◌≡◌, ◌≢◌, ◌<◌, ◌⊎◌, ℕ, Bool, List, [], ◌∷◌, ◌++◌, zip, slice_get}
use Rattle.std.specs.Prelude.{Contains}
use Rattle.std.specs.declared.option.Option.TheVariants.{Some}
use Rattle.attr_value.specs.declared.head.TheConstants.{DEPTH_LIMIT}
use Rattle.attr_value.specs.Values.{Value}
use Rattle.first_fault.specs.declared.fault.Fault.{Fault}
use Rattle.first_fault.specs.Firsts.{IsFirst}
use Rattle.generic_syntax.specs.declared.cst.ValueCst.{ValueCst}
use Rattle.generic_syntax.specs.declared.module_cst.AliasCst.{AliasCst}
use Rattle.generic_syntax.specs.declared.module_cst.FormCst.{out-FormCst}
use Rattle.generic_syntax.specs.declared.module_cst.FormCst.TheOpen.{FormCst-F}
use Rattle.generic_syntax.specs.declared.module_cst.GenericCst.{out-GenericCst}
use Rattle.generic_syntax.specs.declared.module_cst.ModuleCst.{ModuleCst}
use Rattle.generic_syntax.specs.declared.module_cst.OpCst.{OpCst, out-OpCst}
use Rattle.generic_syntax.specs.declared.module_cst.RegionCst.{RegionCst, out-RegionCst}
use Rattle.generic_syntax.specs.declared.module_cst.UseCst.{UseCst}
use Rattle.ir_store.specs.Modules.{types_in}
use Rattle.ir_store.specs.Numbering.{OpSite, ops_in}
use Rattle.module_faults.specs.declared.rule.TheConstants.{USE_TYPE}
use Rattle.module_faults.specs.declared.rule.OpRule.{OpRule}
use Rattle.module_faults.specs.OpFaults.{IsValueFault, IsOpFault, code_of, rank}
use Rattle.module_faults.specs.Standings.{an_op, a_region, standings, ops_of}
use Rattle.module_meaning.specs.AliasValues.{HaveValues, no_aliases, values_under}
use Rattle.module_meaning.specs.Completes.{NearlyCompletes, aliases_of}
use Rattle.module_meaning.specs.Facts.{CustomForms, FormSeen}
use Rattle.module_meaning.specs.WholeModules.{Loaded, WholeModule}
use Rattle.module_names.specs.ModuleNotes.{module_notes}
use Rattle.symbol_scopes.specs.Regions.{IsWrong}
use Rattle.value_meaning.specs.declared.code.TheConstants.{NESTING}
use Rattle.value_meaning.specs.Faults.{IsFault}
use Rattle.value_meaning.specs.Meaning.{value_of}

-- ---- names

-- a rule on names is broken
abbrev pub IsNamesFault : ModuleCst → Fault → Type 0
IsNamesFault tree = IsWrong (module_notes tree)

-- ---- values

-- a region stands at nesting 65 or more
pub record IsRegionFault (tree : ModuleCst) (f : Fault) : Type 0 where
  pub nesting : ℕ
  pub region : RegionCst
  pub stands : Contains (standings tree) (a_region nesting region)
  pub deep : DEPTH_LIMIT < nesting
  pub place : f.place ≡ (out-RegionCst region).place
  pub code : f.code ≡ NESTING

module _ (loaded : Loaded) (forms : CustomForms) (tree : ModuleCst) where
  -- The value of an alias has a fault, under the aliases before it, which have good values.
  pub record IsAliasFault (f : Fault) : Type 0 where
    pub before : List AliasCst
    pub alias : AliasCst
    pub after : List AliasCst
    pub cut : tree.aliases ≡ before ++ alias ∷ after
    pub valued : HaveValues loaded.values loaded.tests loaded.types no_aliases before
    pub fault : IsFault loaded.values loaded.tests loaded.types (values_under no_aliases before) 1
        alias.value f

  -- A value of an operation has a fault, under all aliases, which have good values.
  pub record IsOpValueFault (f : Fault) : Type 0 where
    pub valued : HaveValues loaded.values loaded.tests loaded.types no_aliases tree.aliases
    pub op : OpCst
    pub is_last : Bool
    pub stands : Contains (standings tree) (an_op op is_last)
    pub fault : IsValueFault loaded forms (aliases_of tree) op f

  -- a value of an alias or of an operation is at fault, or a region nests too deep
  abbrev pub IsValuesFault : Fault → Type 0
  IsValuesFault f = IsAliasFault f ⊎ (IsOpValueFault f ⊎ IsRegionFault tree f)

  -- ---- operations

  -- an operation is at fault; the number is the rank of its rule
  pub record IsOperationsFault (f : Fault) : Type 0 where
    pub op : OpCst
    pub is_last : Bool
    pub stands : Contains (standings tree) (an_op op is_last)
    pub fault : IsOpFault loaded forms (aliases_of tree) op is_last f

-- ---- the types of uses

-- the uses of the generic form, each with the tree of its type
abbrev pub uses_shown : FormSeen → List (UseCst × ValueCst)
uses_shown (FormCst-F.Generic g) = zip (out-GenericCst g).operands (out-GenericCst g).inputs
uses_shown (FormCst-F.Custom k) = []

-- those of all operations, one after the other
abbrev pub shown_uses : List OpCst → List (UseCst × ValueCst)
shown_uses [] = []
shown_uses (c ∷ cs) = uses_shown (out-FormCst (out-OpCst c).form) ++ shown_uses cs

-- the numbers of the operands of operations where they stand
abbrev pub operands_at : {N V : Type 0} → List (OpSite N V) → List ℕ
operands_at [] = []
operands_at (site ∷ sites) = site.head.operands ++ operands_at sites

-- those of a module
abbrev pub operands_in : WholeModule → List ℕ
operands_in m = operands_at (ops_in m)

-- a use means a value that hasn't the type that stands with the use
pub record IsUseFault (tree : ModuleCst) (types : List Value) (m : WholeModule) (f : Fault) : Type 0
  where
    pub at : ℕ
    pub shown : UseCst × ValueCst
    pub type : Value
    pub number : ℕ
    pub stands : slice_get (shown_uses (ops_of (standings tree))) at ≡ Some shown
    pub means : slice_get (operands_in m) at ≡ Some number
    pub spelled : value_of (aliases_of tree) shown.1 ≡ Some type
    pub differs : slice_get types number ≢ Some type
    pub place : f.place ≡ shown.0.place
    pub code : f.code ≡ USE_TYPE

module _ (loaded : Loaded) (forms : CustomForms) (tree : ModuleCst) where
  -- so it is in a module that completes the tree but for the types of uses
  pub record IsUsesFault (f : Fault) : Type 0 where
    pub module_is : WholeModule
    pub completes : NearlyCompletes loaded forms tree module_is
    pub fault : IsUseFault tree (types_in module_is) module_is f

  -- ---- the refusal

  -- no earlier stage has a fault
  abbrev pub NoNamesFault : Type 0
  NoNamesFault = (f : Fault) → IsNamesFault tree f → ⊥

  abbrev pub NoValuesFault : Type 0
  NoValuesFault = (f : Fault) → IsValuesFault loaded forms tree f → ⊥

  abbrev pub NoOperationsFault : Type 0
  NoOperationsFault = (f : Fault) → IsOperationsFault loaded forms tree f → ⊥

  abbrev pub NoUsesFault : Type 0
  NoUsesFault = (f : Fault) → IsUsesFault f → ⊥

  -- the fault, with the number that a refusal shows, for which the module is refused
  pub data IsRefusal (f : Fault) : Type 0 where
    by_names : IsFirst (IsNamesFault tree) (Some f) → IsRefusal f
    by_values : NoNamesFault → IsFirst (IsValuesFault loaded forms tree) (Some f) → IsRefusal f
    by_operations : NoNamesFault → NoValuesFault → (rule : OpRule)
        → IsFirst (IsOperationsFault loaded forms tree)
        (Some (record { place = f.place; code = rank rule }))
        → f.code ≡ code_of rule → IsRefusal f
    by_uses : NoNamesFault → NoValuesFault → NoOperationsFault
        → IsFirst IsUsesFault (Some f) → IsRefusal f

  -- no stage has a fault
  pub record IsFaultless : Type 0 where
    pub names : NoNamesFault
    pub values : NoValuesFault
    pub operations : NoOperationsFault
    pub uses : NoUsesFault
