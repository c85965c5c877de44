-- What a desk keeps to between two texts, where no predicates are handed in.
--
--   IsSound types desk     the definitions are sound over the values that are kept, and have full
--                          names, and the aliases that are known are good
--   IsPrintable desk id    the value of the id is kept and can be spelled
--
-- Inside: no public clause rests on this.
use Rattle.std.specs.Prelude.{◌<◌, List, [], length}
use Rattle.attr_value.specs.declared.head.ValueId.{ValueId}
use Rattle.attr_value.specs.Ids.{at}
use Rattle.constraint_solver.specs.Definitions.{AreSoundDefs}
use Rattle.derived_printer.specs.Spellable.{HaveFullNames, Spellable}
use Rattle.dialect_defs.specs.declared.definition.TypeDef.{TypeDef}
use Rattle.value_meaning.specs.AliasTable.{AreGoodAliases}
use Rattle.value_rows.specs.declared.desk.Desk.{Desk}

-- definitions, values and aliases that texts may be judged by
pub record IsSound (types : List TypeDef) (desk : Desk) : Type 0 where
  pub defs : AreSoundDefs (length desk.values) 0 types
  pub names : HaveFullNames types
  pub aliases : AreGoodAliases desk.values [] types desk.aliases

-- a value that can be printed
pub record IsPrintable (desk : Desk) (id : ValueId) : Type 0 where
  pub known : id.0 < length desk.values
  pub spellable : Spellable (at desk.values id.0)
