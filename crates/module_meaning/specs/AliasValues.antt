-- The values of a module's aliases.
--
-- Aliases stand before all operations. The definition of one may mention those before it, and it is
-- the only one of its kind and name.
--
--   no_aliases               no alias is there
--   with_value aliases x     with the alias x more, by its value under those before it
--   values_under aliases xs  with all of these, in order
--   HaveValues .. aliases xs each of these has a good value
--   AreAliases .. aliases xs each of these is new and has a good value
use Rattle.std.specs.Prelude.{◌≡◌, ◌&&◌, cond, List, [], ◌∷◌, bytes_eq}
use Rattle.std.specs.declared.option.Option.TheVariants.{None}
use Rattle.attr_value.specs.Values.{Value}
use Rattle.dialect_defs.specs.declared.definition.TypeDef.{TypeDef}
use Rattle.dialect_defs.specs.Assignments.{Tests}
use Rattle.generic_syntax.specs.declared.module_cst.AliasCst.{AliasCst}
use Rattle.symbol_scopes.specs.Faults.{same_kind}
use Rattle.value_meaning.specs.Faults.{Means}
use Rattle.value_meaning.specs.Meaning.{Aliases, value_of}

-- no alias is there
abbrev pub no_aliases : Aliases
no_aliases = λ is_type name. None

-- with one alias more, which has the value that its tree spells under those before it
abbrev pub with_value : Aliases → AliasCst → Aliases
with_value aliases x = λ is_type name.
    cond (same_kind x.is_type is_type && bytes_eq x.name name) (value_of aliases x.value)
    (aliases is_type name)

-- with these, in the order of the text
abbrev pub values_under : Aliases → List AliasCst → Aliases
values_under aliases [] = aliases
values_under aliases (x ∷ xs) = values_under (with_value aliases x) xs

-- the tree of each means a good value under those before it
abbrev pub HaveValues : List Value → Tests → List TypeDef → Aliases → List AliasCst → Type 0
HaveValues values tests types aliases [] = Unit {0}
HaveValues values tests types aliases (x ∷ xs) =
    ((v : Value) × Means values tests types aliases x.value v)
    × HaveValues values tests types (with_value aliases x) xs

-- each is the first of its kind and name, and its tree means a good value under those before it
abbrev pub AreAliases : List Value → Tests → List TypeDef → Aliases → List AliasCst → Type 0
AreAliases values tests types aliases [] = Unit {0}
AreAliases values tests types aliases (x ∷ xs) =
    (aliases x.is_type x.name ≡ None)
    × ((v : Value) × Means values tests types aliases x.value v)
    × AreAliases values tests types (with_value aliases x) xs
