-- What it is to load definition files, and to refuse them.
--
-- Files are judged in stages, each over all files, and a stage counts only where no earlier one has
-- a fault: names, references and limits; whether constants have a value; whether that value is
-- good; formats.
--
--   AreTypes .. types         the types and attributes of files are these
--   AreOps .. ops             the operations of files are these, behind `builtin.module`
--   HasNoFault P              no file has a fault P
--   HasNoValue, IsNotGood     the faults of the stages on constants
--   HaveTypes .. types        files keep the rules of the first two stages, and define these
--   AreLoaded .. types ops    files keep all rules, and define these
--   IsRefusedBy .. r          r is the first fault of the first stage that has one
use Rattle.std.specs.Prelude.{◌≡◌, ℕ, false, true, List, [], ◌∷◌, codes}
use Rattle.std.specs.declared.option.Option.TheVariants.{Some, None}
use Rattle.attr_value.specs.declared.base.BaseKind.TheVariants.{StrAttr}
use Rattle.attr_value.specs.Values.{Value}
use Rattle.dialect_defs.specs.declared.body.BaseRef.TheVariants.{Builtin}
use Rattle.dialect_defs.specs.declared.body.Constraint.TheVariants.{Base}
use Rattle.dialect_defs.specs.declared.definition.OpDef.{OpDef}
use Rattle.dialect_defs.specs.declared.definition.TypeDef.{TypeDef}
use Rattle.dialect_defs.specs.declared.format.ElementKind.TheVariants as kind
use Rattle.dialect_defs.specs.declared.format.Format.{Format}
use Rattle.dialect_defs.specs.Assignments.{Tests}
use Rattle.first_fault.specs.declared.fault.Fault.{Fault}
use Rattle.ir_lexer.specs.Spelling.{Text}
use Rattle.irdl_ops.specs.declared.raw.RawDefs.{RawDefs}
use Rattle.format_checker.specs.Named.{element_at}
use Rattle.dialect_registry.specs.declared.refusal.DefRefusal.{DefRefusal}
use Rattle.dialect_registry.specs.ConstantFaults.{IsConstantFault, IsFaultIn, shapes_of}
use Rattle.dialect_registry.specs.DefFaults.{IsFault, IsFirstIn, dialects_of, world_of}
use Rattle.dialect_registry.specs.FormatFaults.{HasFormat, IsFirstRefused, ops_in}
use Rattle.dialect_registry.specs.Refusals.{fault_of, IsPlain}
use Rattle.dialect_registry.specs.Resolved.{AreEach, IsOp, IsType, located_in, types_among}

-- how it is written: ``(symbol($sym_name)^)? attr-dict-with-keyword $body``
abbrev pub module_format : Format
module_format = record {
  elements =
      element_at 0 (kind.Group (element_at 1 (kind.SymbolName 0) ∷ []) [] 0)
      ∷ element_at 22 kind.DictKeyword ∷ element_at 45 (kind.Region 0) ∷ [];
}

-- the operation that is always there
abbrev pub module_op : OpDef
module_op = record {
  name = codes "builtin.module";
  body = record { vars = Base (Builtin StrAttr) ∷ [] };
  operands = [];
  results = [];
  attrs = record {
    name = codes "sym_name";
    optional = true;
    unit = false;
    var = record { 0 = 0 };
  } ∷ [];
  regions = record { name = Some (codes "body"); args = None; size = None } ∷ [];
  successors = [];
  terminator = false;
  format = Some module_format;
}

-- no file has such a fault
abbrev pub HasNoFault : (ℕ → Fault → Type 0) → Type 0
HasNoFault P = (n : ℕ) (f : Fault) → P n f → ⊥

-- a constant of a file has no value, as far as names and numbers of parameters go
abbrev pub HasNoValue : List RawDefs → Tests → ℕ → Fault → Type 0
HasNoValue files tests = IsFaultIn (IsConstantFault [] tests (shapes_of files)) files

-- a constant of a file has no value that is good with these types and attributes
abbrev pub IsNotGood : List RawDefs → Tests → List Value → List TypeDef → ℕ → Fault → Type 0
IsNotGood files tests values types = IsFaultIn (IsConstantFault values tests types) files

module _ (files : List RawDefs) (natives : List Text) (tests : Tests) where
  -- the types and attributes of the files are these, in order, over a table of values
  abbrev pub AreTypes : List Value → List TypeDef → Type 0
  AreTypes values types =
      AreEach (IsType (world_of files natives) tests (shapes_of files) values)
      (types_among (located_in (dialects_of files))) types

  -- the operations of the files are these, in order, but for their formats
  abbrev pub AreOwnOps : List Value → List OpDef → Type 0
  AreOwnOps values own =
      AreEach (IsOp (world_of files natives) tests (shapes_of files) values)
      (ops_in (dialects_of files)) own

  -- the operations are these, behind the one that is always there
  pub record AreOps (values : List Value) (ops : List OpDef) : Type 0 where
    pub own : List OpDef
    pub first : ops ≡ module_op ∷ own
    pub each : AreOwnOps values own

  -- the files keep the rules on names, references and limits, their constants have values, and
  -- these are their types and attributes
  pub record HaveTypes (values : List Value) (types : List TypeDef) : Type 0 where
    pub rules : HasNoFault (IsFault files natives)
    pub valued : HasNoFault (HasNoValue files tests)
    pub types_are : AreTypes values types

  -- the files keep all rules, and define these over a table of values
  pub record AreLoaded (values : List Value) (types : List TypeDef) (ops : List OpDef)
      : Type 0 where
    pub have : HaveTypes values types
    pub ops_are : AreOps values ops
    pub good : HasNoFault (IsNotGood files tests values types)
    pub formats : AreEach (λ d op. HasFormat d op.format) (ops_in (dialects_of files)) ops_are.own

  -- the first fault of the first stage that has one
  pub data IsRefusedBy : DefRefusal → Type 0 where
    -- names, references and limits
    in_rules : {r : DefRefusal} → IsFirstIn (IsFault files natives) (Some (fault_of r))
        → IsPlain r → IsRefusedBy r
    -- constants that have no value
    in_values : {r : DefRefusal} → HasNoFault (IsFault files natives)
        → IsFirstIn (HasNoValue files tests) (Some (fault_of r)) → IsPlain r → IsRefusedBy r
    -- constants that have no good one
    in_goodness : {r : DefRefusal} (values : List Value) (types : List TypeDef)
        → HaveTypes values types → IsFirstIn (IsNotGood files tests values types) (Some (fault_of r))
        → IsPlain r → IsRefusedBy r
    -- formats
    in_formats : {r : DefRefusal} (values : List Value) (types : List TypeDef)
        → HaveTypes values types → HasNoFault (IsNotGood files tests values types)
        → IsFirstRefused files r → IsRefusedBy r
