-- A stored module with whole names and values: the names of its operations' definitions, and its
-- types and values themselves.
--
--   name_in defs name         the name that an operation of a stored module has by its definition
--   seen_module defs values m a stored module, with the names of its operations, and with its types
--                             and values themselves
use Rattle.std.specs.Prelude.{List, [], slice_get}
use Rattle.std.specs.declared.option.Option.TheVariants.{Some, None}
use Rattle.attr_value.specs.declared.head.ValueId.{ValueId}
use Rattle.attr_value.specs.Ids.{at}
use Rattle.attr_value.specs.Values.{Value}
use Rattle.dialect_defs.specs.declared.definition.OpDef.{OpDef}
use Rattle.ir_lexer.specs.Spelling.{Text}
use Rattle.ir_store.specs.Modules.{mapped}
use Rattle.ir_store.specs.Store.{OpName, Module}
use Rattle.module_meaning.specs.WholeModules.{WholeModule}

-- the name that an operation of a stored module has by its definition
abbrev pub name_in : List OpDef → OpName → Text
name_in defs name = elim (slice_get defs name.def) [ None ↦ [] | Some d ↦ d.name ]

-- a stored module, with names in the place of definitions' numbers and values in that of ids
abbrev pub seen_module : List OpDef → List Value → Module → WholeModule
seen_module defs values m = mapped (name_in defs) (λ (id : ValueId). at values id.0) m
