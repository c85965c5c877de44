-- What is found of the aliases of a module.
--
--   HasNone aliases           no alias is known
--   AreKnownSo old tests types xs now aliases   these aliases are known, with their good values
--   IsFaultyAlias old tests types xs f          f is the first fault of the first of these aliases
--                             whose value has one
--   AreDefined .. first       all are known, or the first that has a fault is found
--
-- Inside: no public clause rests on this.
use Rattle.std.specs.Prelude.{◌≡◌, Bool, List, ◌∷◌, ◌++◌}
use Rattle.std.specs.declared.option.Option.{Option}
use Rattle.std.specs.declared.option.Option.TheVariants.{Some, None}
use Rattle.attr_value.specs.Values.{Value}
use Rattle.dialect_defs.specs.declared.definition.TypeDef.{TypeDef}
use Rattle.dialect_defs.specs.Assignments.{Tests}
use Rattle.first_fault.specs.declared.fault.Fault.{Fault}
use Rattle.first_fault.specs.Firsts.{IsFirst}
use Rattle.generic_syntax.specs.declared.module_cst.AliasCst.{AliasCst}
use Rattle.ir_lexer.specs.Spelling.{Text}
use Rattle.module_meaning.specs.AliasValues.{HaveValues, no_aliases, values_under}
use Rattle.value_meaning.specs.declared.env.Aliases.{Aliases}
use Rattle.value_meaning.specs.AliasTable.{alias_values, id_of}
use Rattle.value_meaning.specs.Faults.{IsFault}

-- no alias is known
abbrev pub HasNone : Aliases → Type 0
HasNone aliases = (is_type : Bool) (name : Text) → id_of aliases is_type name ≡ None

module _ (old : List Value) (tests : Tests) (types : List TypeDef) where
  -- these aliases have good values by what was loaded over the table old, and are known with them
  -- over the table now
  pub record AreKnownSo (xs : List AliasCst) (now : List Value) (aliases : Aliases) : Type 0 where
    pub valued : HaveValues old tests types no_aliases xs
    pub same : values_under no_aliases xs ≡ alias_values now aliases

  -- the first of these aliases whose value has a fault, and the first fault of it
  pub record IsFaultyAlias (xs : List AliasCst) (f : Fault) : Type 0 where
    pub before : List AliasCst
    pub alias : AliasCst
    pub after : List AliasCst
    pub cut : xs ≡ before ++ alias ∷ after
    pub valued : HaveValues old tests types no_aliases before
    pub first : IsFirst (IsFault old tests types (values_under no_aliases before) 1 alias.value)
        (Some f)

  -- all are known, or the first that has a fault is found
  abbrev pub AreDefined : List AliasCst → List Value → Aliases → Option Fault → Type 0
  AreDefined xs now aliases None = AreKnownSo xs now aliases
  AreDefined xs now aliases (Some f) = IsFaultyAlias xs f
