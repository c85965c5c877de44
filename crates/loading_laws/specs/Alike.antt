-- When two loadings define the same, whatever the tables are that hold their constants.
--
-- Definitions are loaded over some table of values, and a constant is an id of the table. Where the
-- same files are loaded twice, the tables may differ, and so may the ids: the definitions aren't
-- equal. They are alike, since both say the same of values and of operations.
--
--   IsLoaded files natives tests loaded     files keep all rules, and define this
--   IsOpAlike one two d e      two definitions of an operation are the same but for the ids of
--                              constants: what meets one of them meets the other
--   AreAlike one two           two loadings define the same
use Rattle.std.specs.Prelude.{◌≡◌, ◌↔◌, Bool, List}
use Rattle.attr_value.specs.Values.{Value}
use Rattle.dialect_defs.specs.declared.definition.OpDef.{OpDef}
use Rattle.dialect_defs.specs.Assignments.{Assignment, MeetsBody, Tests}
use Rattle.dialect_defs.specs.Goodness.{IsInstance}
use Rattle.dialect_registry.specs.Loaded.{AreLoaded}
use Rattle.dialect_registry.specs.Resolved.{AreEach}
use Rattle.ir_lexer.specs.Spelling.{Text}
use Rattle.irdl_ops.specs.declared.raw.RawDefs.{RawDefs}
use Rattle.module_meaning.specs.WholeModules.{Loaded, IsGood}
use Rattle.value_meaning.specs.Faults.{IsNamed}

-- The files keep all rules, and define this by predicates of these names and tests, over some table
-- of values.
pub record IsLoaded (files : List RawDefs) (natives : List Text) (tests : Tests) (loaded : Loaded)
    : Type 0 where
  pub tests_are : loaded.tests ≡ tests
  pub are_loaded : AreLoaded files natives tests loaded.values loaded.types loaded.ops

-- Two definitions of an operation have the same name, entries, attributes, regions and successors,
-- and the same assignments meet their bodies.
pub record IsOpAlike (one two : Loaded) (d e : OpDef) : Type 0 where
  pub name : d.name ≡ e.name
  pub body : (a : Assignment)
      → (MeetsBody one.values one.tests d.body a ↔ MeetsBody two.values two.tests e.body a)
  pub operands : d.operands ≡ e.operands
  pub results : d.results ≡ e.results
  pub attrs : d.attrs ≡ e.attrs
  pub regions : d.regions ≡ e.regions
  pub successors : d.successors ≡ e.successors
  pub terminator : d.terminator ≡ e.terminator

-- The same values are good, the same types and attributes are named and have the same instances,
-- and operations are alike one by one.
pub record AreAlike (one two : Loaded) : Type 0 where
  pub good : (v : Value) → (IsGood one v ↔ IsGood two v)
  pub named : (is_type : Bool) (name : Text)
      → (IsNamed one.types is_type name ↔ IsNamed two.types is_type name)
  pub instances : (is_type : Bool) (name : Text) (kids : List Value)
      → (IsInstance one.values one.tests one.types is_type name kids
      ↔ IsInstance two.values two.tests two.types is_type name kids)
  pub ops : AreEach (IsOpAlike one two) one.ops two.ops
