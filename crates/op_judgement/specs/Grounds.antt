-- What the tree of an operation is judged by.
--
-- The table of values grows while trees are judged, and definitions name values of the table that
-- was there when they were loaded. So what is said of a tree is said over each earlier table, with
-- the values that aliases have in the present one.
--
--   Basis                  predicates and how many there are, definitions, and aliases
--   loaded_by b old        what is defined, with a table of values in which constants are looked up
--   IsReady b now          definitions are sound and aliases good over the table
--   IsGround b old al now  the definitions are sound over an earlier table too, and al are the
--                          values of the aliases
use Rattle.std.specs.Prelude.{◌≡◌, ℕ, Bool, List, length}
use Rattle.attr_value.specs.Values.{Value}
use Rattle.constraint_solver.specs.Grown.{Extends}
use Rattle.dialect_defs.specs.Assignments.{Tests}
use Rattle.dialect_registry.specs.Registered.{Registered, IsSound}
use Rattle.ir_lexer.specs.Spelling.{Text}
use Rattle.module_meaning.specs.WholeModules.{Loaded}
use Rattle.value_meaning.specs.declared.env.Aliases.{Aliases}
use Rattle.value_meaning.specs.AliasTable.{AreGoodAliases, alias_values}
use Rattle.value_meaning.specs.Meaning as meaning

-- predicates and how many there are, definitions, and aliases
pub record Basis : Type 0 where
  pub tests : Tests
  pub count : ℕ
  pub registry : Registered
  pub aliases : Aliases

-- of these
abbrev pub basis : Tests → ℕ → Registered → Aliases → Basis
basis tests count registry aliases =
    record { tests = tests; count = count; registry = registry; aliases = aliases }

-- what is defined, where constants are ids of a table of values
abbrev pub loaded_by : Basis → List Value → Loaded
loaded_by b old = record {
  values = old;
  tests = b.tests;
  types = b.registry.types;
  ops = b.registry.ops;
}

-- definitions are sound over the table, and aliases have good values of it
pub record IsReady (b : Basis) (now : List Value) : Type 0 where
  pub sound : IsSound (length now) b.count b.registry
  pub good : AreGoodAliases now b.tests b.registry.types b.aliases

-- The definitions are sound over the table `old`, which the present one extends; al are the values
-- that the aliases have in the present one.
pub record IsGround (b : Basis) (old : List Value) (al : meaning.Aliases) (now : List Value)
    : Type 0 where
  pub grown : Extends old now
  pub sound : IsSound (length old) b.count b.registry
  pub agree : (is_type : Bool) (name : Text)
      → al is_type name ≡ alias_values now b.aliases is_type name
