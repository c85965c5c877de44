-- What `elaborate` answers of a store that was built, by its first wrong use.
--
--   ended-completes     where there is none the module of the store completes the tree
--   ended-refused       otherwise the tree is refused for it
--   handed              what is said of an error that a `?` hands on
use Rattle.std.proofs.Common.{◌≡◌, ◌≢◌, List, [], Some, subst, sym}
use Rattle.std.proofs.lemmas.Result.{err_from_is_err_and}
use Rattle.std.specs.Result.{IfErr, IsErr, IsErrAnd}
use Rattle.std.specs.declared.option.Option.{Option}
use Rattle.std.specs.declared.option.Option.TheVariants.{None}
use Rattle.std.specs.declared.result.Result.{Result}
use Rattle.attr_value.specs.declared.head.ValueId.{ValueId}
use Rattle.attr_value.specs.Ids.{AreDistinct}
use Rattle.attr_value.specs.Values.{Value}
use Rattle.dialect_registry.specs.Registered.{AreApart}
use Rattle.elaborate.proofs.Composing.{stored-completes, stored-known, stored-nearly}
use Rattle.elaborate.proofs.Refusing.{of-uses}
use Rattle.elaborate.proofs.UseTypes.{shown_ids, uses-first}
use Rattle.elaborate.specs.declared.stop.ModStop.{ModStop}
use Rattle.elaborate.specs.declared.stop.ModStop.TheVariants.{Refused}
use Rattle.elaborate.specs.Composed.{IsStored}
use Rattle.elaborate.specs.Elaborated.{RefusesModule}
use Rattle.elaborate.specs.Judged.{AreJudged}
use Rattle.elaborate.specs.Names.{HasNoNamesFault, IsMeant}
use Rattle.elaborate.specs.Uses.{IsWrongUse}
use Rattle.first_fault.specs.declared.fault.Fault.{Fault}
use Rattle.first_fault.specs.Firsts.{IsFirst}
use Rattle.generic_syntax.specs.declared.module_cst.ModuleCst.{ModuleCst}
use Rattle.ir_store.specs.Modules.{types_in}
use Rattle.ir_store.specs.Numbering.{ops_in}
use Rattle.ir_store.specs.Store.{Module}
use Rattle.module_builder.specs.Fit.{uses_of}
use Rattle.module_faults.specs.declared.ids.OpIds.{OpIds}
use Rattle.module_faults.specs.ModuleFaults.{IsUseFault, operands_at}
use Rattle.module_faults.specs.Standings.{Standing, ops_of, standings}
use Rattle.module_meaning.specs.Completes.{Completes}
use Rattle.module_meaning.specs.Facts.{no_forms}
use Rattle.module_meaning.specs.SeenModules.{seen_module}
use Rattle.module_meaning.specs.WholeModules.{Loaded, WholeModule}
use Rattle.symbol_scopes.specs.Uses.{UseMeanings}

-- what is said of an error that a `?` hands on
pub handed : {A : Type 0} (P : ModStop → Type 0) (r : Result A ModStop) (x : ModStop)
    → IsErr r × IsErrAnd r (λ e. e ≡ x) → P x → IfErr r P
handed P r x h p =
    let is = err_from_is_err_and r h.1 in
    subst (λ z. IfErr z P) (sym is.1) (subst P (sym is.2) p)

module _ (loaded : Loaded) (tree : ModuleCst) (now : List Value) (ids : List OpIds)
    (judged : AreJudged loaded tree now ids) (uses : UseMeanings) (store : Module)
    (stored : IsStored tree ids uses store) (none : HasNoNamesFault tree)
    (meant : IsMeant tree uses) (ss : List Standing) (shown : List ValueId)
    (stands : ss ≡ standings tree) (listed : shown ≡ shown_ids ids)
    (distinct : shown ≢ [] → AreDistinct now) where
  abbrev m : WholeModule
  m = seen_module loaded.ops now store

  abbrev Wrong : Fault → Type 0
  Wrong = IsWrongUse (types_in store) (uses_of (ops_of ss)) shown (operands_at (ops_in store))

  -- the first wrong use is the first fault of uses
  first-fault : (first : Option Fault) → IsFirst Wrong first
      → IsFirst (IsUseFault tree (types_in m) m) first
  first-fault first x =
      uses-first loaded tree now ids judged.each ss shown stands listed loaded.ops store distinct
      (stored-known loaded tree now ids judged uses store stored).types first x

  -- where no use is wrong the module completes the tree
  pub ended-completes : IsFirst Wrong None → Completes loaded no_forms tree m
  ended-completes x =
      stored-completes loaded tree now ids judged uses store stored none meant
      (first-fault None x)

  -- where one is, the tree is refused for it
  pub ended-refused : AreApart loaded.ops → (f : Fault) → IsFirst Wrong (Some f)
      → RefusesModule loaded tree (Refused f)
  ended-refused apart f x =
      of-uses loaded tree apart now ids judged none m
      (stored-nearly loaded tree now ids judged uses store stored none meant) f
      (first-fault (Some f) x)
