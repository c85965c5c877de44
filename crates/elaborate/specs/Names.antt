-- What is found of the names of a module.
--
--   HasNoNamesFault tree     no name is at fault
--   IsMeant tree uses        what the uses and successors of the tree mean, as its notes say it
--   RefusesNamesOf tree stop the first fault of the names, or want of memory
--
-- Inside: no public clause rests on this.
use Rattle.std.specs.Prelude.{◌≡◌, map}
use Rattle.std.specs.declared.option.Option.TheVariants.{Some}
use Rattle.elaborate.specs.declared.stop.ModStop.{ModStop}
use Rattle.elaborate.specs.declared.stop.ModStop.TheVariants.{Refused, OutOfMemory}
use Rattle.first_fault.specs.declared.fault.Fault.{Fault}
use Rattle.first_fault.specs.Firsts.{IsFirst}
use Rattle.generic_syntax.specs.declared.module_cst.ModuleCst.{ModuleCst}
use Rattle.module_faults.specs.ModuleFaults.{IsNamesFault}
use Rattle.module_names.specs.ModuleNotes.{module_notes}
use Rattle.symbol_scopes.specs.declared.call.NameKind.TheVariants.{Values, Labels}
use Rattle.symbol_scopes.specs.Regions.{block_meant, told_in, value_meant}
use Rattle.symbol_scopes.specs.Uses.{UseMeanings}

-- no name is at fault
abbrev pub HasNoNamesFault : ModuleCst → Type 0
HasNoNamesFault tree = (f : Fault) → IsNamesFault tree f → ⊥

-- what uses and successors mean, region by region
pub record IsMeant (tree : ModuleCst) (uses : UseMeanings) : Type 0 where
  pub values : told_in Values value_meant (module_notes tree) ≡ map Some uses.values
  pub blocks : told_in Labels block_meant (module_notes tree) ≡ map Some uses.blocks

-- the first fault of the names, or want of memory
abbrev pub RefusesNamesOf : ModuleCst → ModStop → Type 0
RefusesNamesOf tree (Refused fault) = IsFirst (IsNamesFault tree) (Some fault)
RefusesNamesOf tree OutOfMemory = Unit {0}
