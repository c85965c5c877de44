-- What the judgement of formats knows while it goes on.
--
--   def_ops own def, dialect_ops dialect
--                        the operations of a definition, and of a dialect
--   Adds ds old new      the formats of these operations are put behind those that were there
--   InFile n P r         the refusal is in the file with this number, and P holds of it
--   IsTold n place stop told
--                        what is told of a format that isn't accepted
--   IsValueless files tests r
--                        the first constant of the files that has no value
--   formatted op format  the operation with this format
--   formatted_each ops formats
--                        each with the format at its place
--
-- Inside: no public clause rests on this.
use Rattle.std.specs.Prelude.{◌≡◌, ℕ, List, [], ◌∷◌, ◌++◌}
use Rattle.std.specs.List.{flat_map}
use Rattle.std.specs.declared.option.Option.{Option}
use Rattle.std.specs.declared.option.Option.TheVariants.{Some}
use Rattle.dialect_defs.specs.declared.definition.OpDef.{OpDef}
use Rattle.dialect_defs.specs.declared.format.Format.{Format}
use Rattle.dialect_defs.specs.Assignments.{Tests}
use Rattle.ir_lexer.specs.Spelling.{Text}
use Rattle.irdl_ops.specs.declared.raw.RawDef.{RawDef}
use Rattle.irdl_ops.specs.declared.raw.RawDefs.{RawDefs}
use Rattle.irdl_ops.specs.declared.raw.RawDialect.{RawDialect}
use Rattle.dialect_registry.specs.declared.refusal.DefRefusal.{DefRefusal}
use Rattle.dialect_registry.specs.DefFaults.{IsFirstIn}
use Rattle.format_checker.specs.declared.stop.FormatStop.{FormatStop}
use Rattle.format_checker.specs.declared.stop.FormatStop.TheVariants as format
use Rattle.dialect_registry.specs.declared.loading.DefStop.{DefStop}
use Rattle.dialect_registry.specs.declared.loading.DefStop.TheVariants.{Refused, OutOfMemory}
use Rattle.dialect_registry.specs.Codes.{code_number}
use Rattle.dialect_registry.specs.FormatFaults.{HasFormat, rule_of}
use Rattle.dialect_registry.specs.Loaded.{HasNoValue}
use Rattle.dialect_registry.specs.Refusals.{fault_of, IsPlain}
use Rattle.dialect_registry.specs.Resolved.{AreEach, Located, located, op_by}

-- the operation that a definition of the dialect `own` is, if it is one
abbrev pub def_ops : Text → RawDef → List Located
def_ops own def = op_by (located own def) def.kind

-- the operations of a dialect
abbrev pub dialect_ops : RawDialect → List Located
dialect_ops dialect = flat_map (def_ops dialect.name) dialect.defs

-- the formats of these operations are put behind those that were there
pub record Adds (ds : List Located) (old new : List (Option Format)) : Type 0 where
  pub added : List (Option Format)
  pub is : new ≡ old ++ added
  pub each : AreEach HasFormat ds added

-- the refusal is in the file with this number, and this holds of it
pub record InFile (number : ℕ) (P : DefRefusal → Type 0) (r : DefRefusal) : Type 0 where
  pub file : r.file ≡ number
  pub holds : P r

-- what is told of a format that isn't accepted, at this place of the file with this number
abbrev pub IsTold : ℕ → ℕ → FormatStop → DefStop → Type 0
IsTold number place (format.Refused code at look entry) told = told ≡ Refused (record {
  file = number;
  place = place;
  code = code_number (rule_of code);
  at = at;
  look = look;
  entry = entry;
})
IsTold number place format.OutOfMemory told = told ≡ OutOfMemory

-- the operation with this format
abbrev pub formatted : OpDef → Option Format → OpDef
formatted op format = record {
  name = op.name;
  body = op.body;
  operands = op.operands;
  results = op.results;
  attrs = op.attrs;
  regions = op.regions;
  successors = op.successors;
  terminator = op.terminator;
  format = format;
}

-- each with the format at its place
abbrev pub formatted_each : List OpDef → List (Option Format) → List OpDef
formatted_each [] formats = []
formatted_each (op ∷ ops) [] = []
formatted_each (op ∷ ops) (format ∷ formats) = formatted op format ∷ formatted_each ops formats

-- the first constant of the files that has no value, and no more is told
pub record IsValueless (files : List RawDefs) (tests : Tests) (r : DefRefusal) : Type 0 where
  pub first : IsFirstIn (HasNoValue files tests) (Some (fault_of r))
  pub plain : IsPlain r
