-- The aliases that are known, by their kinds and names.
--
--   AliasIds                     the id of each alias's value, by its kind and name
--   id_of aliases                those of a table of aliases
--   with_alias ids ..            with one alias more, in the place of one of its kind and name
--   alias_values table aliases   the values of the aliases, by their ids
--   AreGoodAliases table ..      each id is that of a good value
use Rattle.std.specs.Prelude.{◌≡◌, ◌<◌, Bool, true, false, if◌then◌else◌, bytes_eq, cond, List}
use Rattle.std.specs.Prelude.{length, option_map}
use Rattle.std.specs.HashMap.{get}
use Rattle.std.specs.declared.option.Option.{Option}
use Rattle.std.specs.declared.option.Option.TheVariants.{Some}
use Rattle.attr_value.specs.declared.head.ValueId.{ValueId}
use Rattle.attr_value.specs.Ids.{at}
use Rattle.attr_value.specs.Values.{Value}
use Rattle.dialect_defs.specs.declared.definition.TypeDef.{TypeDef}
use Rattle.dialect_defs.specs.Assignments.{Tests}
use Rattle.dialect_defs.specs.Goodness.{Good}
use Rattle.ir_lexer.specs.Spelling.{Text}
use Rattle.value_meaning.specs.declared.env.Aliases.{Aliases}
use Rattle.value_meaning.specs.Meaning as meaning

-- the ids of values, by kinds and names of aliases
abbrev pub AliasIds : Type 0
AliasIds = Bool → Text → Option ValueId

-- those of a table of aliases
abbrev pub id_of : Aliases → AliasIds
id_of aliases is_type name =
    get bytes_eq (if is_type then aliases.types else aliases.attributes) name

-- with one alias more, in the place of one of its kind and name
abbrev pub with_alias : AliasIds → Bool → Text → ValueId → AliasIds
with_alias ids true name id true other = cond (bytes_eq name other) (Some id) (ids true other)
with_alias ids true name id false other = ids false other
with_alias ids false name id true other = ids true other
with_alias ids false name id false other = cond (bytes_eq name other) (Some id) (ids false other)

-- the values of the aliases
abbrev pub alias_values : List Value → Aliases → meaning.Aliases
alias_values table aliases is_type name =
    option_map (λ id. at table id.0) (id_of aliases is_type name)

-- each alias's id is that of a good value
pub record AreGoodAliases (table : List Value) (tests : Tests) (types : List TypeDef)
    (aliases : Aliases) : Type 0 where
  pub known : (is_type : Bool) (name : Text) (id : ValueId) → id_of aliases is_type name ≡ Some id
      → id.0 < length table
  pub good : (is_type : Bool) (name : Text) (id : ValueId) → id_of aliases is_type name ≡ Some id
      → Good table tests types (at table id.0)
