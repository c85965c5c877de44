-- The store that is built of a tree whose names, values and operations are right.
--
--   IsStored tree ids uses store   what the store has, as it is built
--
-- Inside: no public clause rests on this.
use Rattle.std.specs.Prelude.{◌≡◌, ℕ, List, map}
use Rattle.std.specs.List.{AllZip}
use Rattle.std.specs.declared.option.Option.TheVariants.{Some}
use Rattle.attr_value.specs.Values.{Value}
use Rattle.completion_laws.specs.Named.{OpsNamed}
use Rattle.dialect_defs.specs.declared.definition.TypeDef.{TypeDef}
use Rattle.dialect_defs.specs.Assignments.{Tests}
use Rattle.first_fault.specs.declared.fault.Fault.{Fault}
use Rattle.generic_syntax.specs.declared.module_cst.ModuleCst.{ModuleCst}
use Rattle.ir_store.specs.Numbering.{ops_in}
use Rattle.ir_store.specs.Store.{Module}
use Rattle.module_builder.specs.Built.{HasParts, HasPlace, successors_at, value_number}
use Rattle.module_faults.specs.declared.ids.OpIds.{OpIds}
use Rattle.module_faults.specs.ModuleFaults.{operands_at, operands_in}
use Rattle.module_faults.specs.Shape.{HasShape, definitions_in}
use Rattle.module_faults.specs.Standings.{ops_of, standings}
use Rattle.module_meaning.specs.AliasValues.{AreAliases, HaveValues, no_aliases}
use Rattle.module_meaning.specs.Completes.{top_level}
use Rattle.module_meaning.specs.WholeModules.{WholeModule}
use Rattle.module_names.specs.ModuleNotes.{module_notes}
use Rattle.symbol_scopes.specs.declared.call.NameKind.TheVariants.{Values, Labels}
use Rattle.symbol_scopes.specs.Regions.{IsWrong, block_meant, told_in, value_meant}
use Rattle.symbol_scopes.specs.Uses.{UseMeanings}

-- The store has the shape of the tree, its operations have these parts and the places of their
-- trees, operands are the numbers of the values that uses mean, and successors the blocks.
pub record IsStored (tree : ModuleCst) (ids : List OpIds) (uses : UseMeanings) (store : Module)
    : Type 0 where
  pub shape : HasShape tree.ops store
  pub parts : AllZip HasParts (ops_in store) ids
  pub places : AllZip HasPlace (ops_in store) (ops_of (standings tree))
  pub operands : operands_at (ops_in store)
      ≡ map (value_number (definitions_in 0 tree.ops store)) uses.values
  pub successors : successors_at (ops_in store) ≡ uses.blocks
