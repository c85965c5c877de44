-- The refusal of a stage is that of the module, where no earlier stage has a fault.
--
--   of-names, of-judged, of-uses     the stage's refusal is the module's
--   refused-unmeant                  and no module completes the tree
use Rattle.std.proofs.Common.{List, Some}
use Rattle.attr_value.specs.Values.{Value}
use Rattle.completion_laws.proofs.Faultless.{refused-none, those-are-uses, uses-are-those}
use Rattle.elaborate.proofs.ComposingFaults.{distinct-ops, no-operations-fault, no-values-fault}
use Rattle.elaborate.specs.declared.stop.ModStop.{ModStop}
use Rattle.elaborate.specs.declared.stop.ModStop.TheVariants.{Refused, OutOfMemory}
use Rattle.dialect_registry.specs.Registered.{AreApart}
use Rattle.elaborate.specs.Elaborated.{MeansNothing, RefusesModule}
use Rattle.elaborate.specs.Judged.{AreJudged, RefusesJudged, of_operations, of_values}
use Rattle.elaborate.specs.Names.{HasNoNamesFault, RefusesNamesOf}
use Rattle.first_fault.specs.declared.fault.Fault.{Fault}
use Rattle.first_fault.specs.Firsts.{IsFirst}
use Rattle.first_fault.proofs.Firsts.{first-same}
use Rattle.generic_syntax.specs.declared.module_cst.ModuleCst.{ModuleCst}
use Rattle.ir_store.specs.Modules.{types_in}
use Rattle.module_faults.specs.declared.ids.OpIds.{OpIds}
use Rattle.module_faults.specs.ModuleFaults.{IsUseFault, IsUsesFault}
use Rattle.module_faults.specs.ModuleFaults.{by_names, by_operations, by_uses, by_values}
use Rattle.module_meaning.specs.Completes.{NearlyCompletes}
use Rattle.module_meaning.specs.Facts.{no_forms}
use Rattle.module_meaning.specs.WholeModules.{Loaded, WholeModule}

module _ (loaded : Loaded) (tree : ModuleCst) where
  -- a refusal for names is one of the module
  pub of-names : (stop : ModStop) → RefusesNamesOf tree stop → RefusesModule loaded tree stop
  of-names (Refused f) first = by_names first
  of-names OutOfMemory x = tt

  -- so is one for values or operations, where no name is at fault
  pub of-judged : HasNoNamesFault tree → (stop : ModStop) → RefusesJudged loaded tree stop
      → RefusesModule loaded tree stop
  of-judged none (Refused f) (of_values first) = by_values none first
  of-judged none (Refused f) (of_operations values rule first code) =
      by_operations none values rule first code
  of-judged none OutOfMemory x = tt

  module _ (apart : AreApart loaded.ops) where
    -- no module completes a tree that is refused
    pub refused-unmeant : (stop : ModStop) → RefusesModule loaded tree stop
        → MeansNothing loaded tree stop
    refused-unmeant (Refused f) x =
        λ m completes. refused-none loaded (distinct-ops loaded.ops apart) tree m completes f x
    refused-unmeant OutOfMemory x = tt

    -- a refusal for uses, where no value and no operation is at fault either
    pub of-uses : (now : List Value) (ids : List OpIds) → AreJudged loaded tree now ids
        → HasNoNamesFault tree → (m : WholeModule) → NearlyCompletes loaded no_forms tree m
        → (f : Fault) → IsFirst (IsUseFault tree (types_in m) m) (Some f)
        → RefusesModule loaded tree (Refused f)
    of-uses now ids judged none m nearly f first =
        by_uses none (no-values-fault loaded tree now ids judged)
        (no-operations-fault loaded tree now ids judged)
        (first-same (IsUseFault tree (types_in m) m) (IsUsesFault loaded no_forms tree) (Some f)
        (λ g x. those-are-uses loaded (distinct-ops loaded.ops apart) tree m nearly g x)
        (λ g x. uses-are-those loaded (distinct-ops loaded.ops apart) tree m nearly g x) first)
