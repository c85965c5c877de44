-- What it is to elaborate the tree of a module: the store of the one module that completes it, or
-- the refusal.
--
--   loaded_of values tests r     what definition files define, over a table of values
--   AreNamed ops tree m          each operation of the stored module has the place of its tree, and
--                                names a definition with its name
--   RefusesModule .. stop        the stop is the refusal of the module, or want of memory
--   MeansNothing .. stop         where it is a refusal, no module completes the tree
use Rattle.std.specs.Prelude.{◌≡◌, ℕ, List, slice_get}
use Rattle.std.specs.List.{AllZip}
use Rattle.std.specs.declared.option.Option.TheVariants.{Some}
use Rattle.attr_value.specs.declared.head.ValueId.{ValueId}
use Rattle.attr_value.specs.Values.{Value}
use Rattle.dialect_defs.specs.declared.definition.OpDef.{OpDef}
use Rattle.dialect_defs.specs.Assignments.{Tests}
use Rattle.dialect_registry.specs.Registered.{Registered}
use Rattle.elaborate.specs.declared.stop.ModStop.{ModStop}
use Rattle.elaborate.specs.declared.stop.ModStop.TheVariants.{Refused, OutOfMemory}
use Rattle.generic_syntax.specs.declared.module_cst.ModuleCst.{ModuleCst}
use Rattle.generic_syntax.specs.declared.module_cst.OpCst.{OpCst, out-OpCst}
use Rattle.ir_store.specs.Numbering.{OpSite, ops_in}
use Rattle.ir_store.specs.Store.{OpName, Module}
use Rattle.module_faults.specs.ModuleFaults.{IsRefusal}
use Rattle.module_faults.specs.Standings.{standings, ops_of}
use Rattle.module_meaning.specs.Completes.{Completes}
use Rattle.module_meaning.specs.Facts.{no_forms, form_name}
use Rattle.module_meaning.specs.WholeModules.{Loaded, WholeModule}

-- what definition files define, where constants are ids of this table and predicates say this
abbrev pub loaded_of : List Value → Tests → Registered → Loaded
loaded_of values tests r =
    record { values = values; tests = tests; types = r.types; ops = r.ops }

-- the operation has the place of the tree's name, and names a definition with its name
pub record IsNamedAs (ops : List OpDef) (c : OpCst) (site : OpSite OpName ValueId) : Type 0 where
  pub place : site.head.name.place ≡ (out-OpCst c).place
  pub definition : OpDef
  pub defined : slice_get ops site.head.name.def ≡ Some definition
  pub named : form_name c ≡ definition.name

-- so it is of each operation in the order of the text
abbrev pub AreNamed : List OpDef → ModuleCst → Module → Type 0
AreNamed ops tree m = AllZip (IsNamedAs ops) (ops_of (standings tree)) (ops_in m)

-- the refusal of the tree, or want of memory
abbrev pub RefusesModule : Loaded → ModuleCst → ModStop → Type 0
RefusesModule loaded tree (Refused fault) = IsRefusal loaded no_forms tree fault
RefusesModule loaded tree OutOfMemory = Unit {0}

-- no module completes the tree, unless memory ran out
abbrev pub MeansNothing : Loaded → ModuleCst → ModStop → Type 0
MeansNothing loaded tree (Refused fault) =
    (m : WholeModule) → Completes loaded no_forms tree m → ⊥
MeansNothing loaded tree OutOfMemory = Unit {0}
