-- What the stages of values and of operations say of a tree.
--
--   AreJudged loaded tree now ids    no value and no operation is at fault, and these are the ids
--                              of what the operations say, over the table now
--   IsStageRefusal loaded tree f     the first fault of values, or where there is none, of
--                              operations
--   RefusesJudged loaded tree stop   such a refusal, or want of memory
--
-- Inside: no public clause rests on this.
use Rattle.std.specs.Prelude.{◌≡◌, List}
use Rattle.std.specs.List.{AllZip}
use Rattle.std.specs.declared.option.Option.TheVariants.{Some}
use Rattle.attr_value.specs.Values.{Value}
use Rattle.elaborate.specs.declared.stop.ModStop.{ModStop}
use Rattle.elaborate.specs.declared.stop.ModStop.TheVariants.{Refused, OutOfMemory}
use Rattle.elaborate.specs.Operations.{IsOpFaultAmong, IsValueFaultAmong}
use Rattle.elaborate.specs.Regions.{IsDeepRegion}
use Rattle.first_fault.specs.declared.fault.Fault.{Fault}
use Rattle.first_fault.specs.Firsts.{IsFirst}
use Rattle.generic_syntax.specs.declared.module_cst.ModuleCst.{ModuleCst}
use Rattle.module_faults.specs.declared.ids.OpIds.{OpIds}
use Rattle.module_faults.specs.declared.rule.OpRule.{OpRule}
use Rattle.module_faults.specs.ModuleFaults.{IsOperationsFault, IsValuesFault, NoValuesFault}
use Rattle.module_faults.specs.OpFaults.{code_of, rank}
use Rattle.module_faults.specs.Standings.{ops_of, standings}
use Rattle.module_meaning.specs.AliasValues.{HaveValues, no_aliases}
use Rattle.module_meaning.specs.Completes.{aliases_of}
use Rattle.module_meaning.specs.Facts.{no_forms}
use Rattle.module_meaning.specs.WholeModules.{Loaded}
use Rattle.op_judgement.specs.Judged.{AreIdsOf}

module _ (loaded : Loaded) (tree : ModuleCst) where
  -- Aliases have good values, no region nests too deep, and no value of an operation and no
  -- operation is at fault; the ids are those of what the operations say.
  pub record AreJudged (now : List Value) (ids : List OpIds) : Type 0 where
    pub valued : HaveValues loaded.values loaded.tests loaded.types no_aliases tree.aliases
    pub shallow : (f : Fault) → IsDeepRegion (standings tree) f → ⊥
    pub values : (f : Fault) → IsValueFaultAmong loaded (aliases_of tree) (standings tree) f → ⊥
    pub operations : (f : Fault) → IsOpFaultAmong loaded (aliases_of tree) (standings tree) f → ⊥
    pub each : AllZip (λ c x. AreIdsOf loaded (aliases_of tree) c now x) (ops_of (standings tree))
        ids

  -- the first fault of values, or where there is none, of operations, with the number that is shown
  pub data IsStageRefusal (f : Fault) : Type 0 where
    of_values : IsFirst (IsValuesFault loaded no_forms tree) (Some f) → IsStageRefusal f
    of_operations : NoValuesFault loaded no_forms tree → (rule : OpRule)
        → IsFirst (IsOperationsFault loaded no_forms tree)
        (Some (record { place = f.place; code = rank rule }))
        → f.code ≡ code_of rule → IsStageRefusal f

  -- such a refusal, or want of memory
  abbrev pub RefusesJudged : ModStop → Type 0
  RefusesJudged (Refused fault) = IsStageRefusal fault
  RefusesJudged OutOfMemory = Unit {0}
