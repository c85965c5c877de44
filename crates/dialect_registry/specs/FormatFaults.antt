-- The formats of operations, and the first that is refused.
--
-- A format goes by the lists of its operation: it is judged over the operation's shape, whose body
-- is empty. So constants, which are ids of a table of values, have no part in it.
--
--   op_of d body            an operation with this body and no format
--   op_shape d              an operation as far as its lists go
--   format_in statements    the format string that a body gives first
--   IsFormatOf op text f    the text is a format of the operation, and f is what it says
--   IsTextFault op text r   it isn't one, for the reason that r tells
--   HasFormat d format      what becomes of an operation's format: there is none, or it is accepted
--   IsFormatFault d r       the format of the operation is refused
--   ops_in dialects         the operations of some dialects, in order
--   HaveFormats ds          no format of these operations is refused
--   IsFirstFault ds r       the first of them whose format is refused, in their order
--   IsFirstRefused files r  the same of files
use Rattle.std.specs.Prelude.{◌≡◌, ◌<◌, ℕ, List, [], ◌∷◌, ◌++◌, length, map, slice_get}
use Rattle.std.specs.declared.option.Option.{Option}
use Rattle.std.specs.declared.option.Option.TheVariants.{Some, None}
use Rattle.dialect_defs.specs.declared.body.Body.{Body}
use Rattle.dialect_defs.specs.declared.definition.OpDef.{OpDef}
use Rattle.dialect_defs.specs.declared.format.Format.{Format}
use Rattle.dialect_defs.specs.declared.raw_format.RawElement.{RawElement}
use Rattle.format_checker.specs.declared.stop.FormatCode.{FormatCode}
use Rattle.format_checker.specs.declared.stop.FormatCode.TheVariants as broken
use Rattle.format_checker.specs.Accepted.{IsAccepted, IsAlone, IsRefused}
use Rattle.format_reader.specs.Formats.{IsFormat, IsRefusedAt}
use Rattle.ir_lexer.specs.Spelling.{Text}
use Rattle.irdl_ops.specs.declared.raw.RawDefs.{RawDefs}
use Rattle.irdl_ops.specs.declared.raw.RawDialect.{RawDialect}
use Rattle.irdl_ops.specs.declared.raw.RawStatement.{RawStatement}
use Rattle.irdl_ops.specs.declared.raw.RawText.{RawText}
use Rattle.irdl_ops.specs.declared.raw.StatementKind.{StatementKind}
use Rattle.irdl_ops.specs.declared.raw.StatementKind.TheVariants as says
use Rattle.dialect_registry.specs.declared.code.DefCode.{DefCode}
use Rattle.dialect_registry.specs.declared.code.DefCode.TheVariants.{FormatSyntax, FormatUnknown}
use Rattle.dialect_registry.specs.declared.code.DefCode.TheVariants.{FormatMissing, FormatRepeated}
use Rattle.dialect_registry.specs.declared.code.DefCode.TheVariants.{FormatGroup, FormatAmbiguous}
use Rattle.dialect_registry.specs.declared.code.DefCode.TheVariants.{FormatNoType}
use Rattle.dialect_registry.specs.declared.refusal.DefRefusal.{DefRefusal}
use Rattle.dialect_registry.specs.Codes.{code_number}
use Rattle.dialect_registry.specs.Resolved.{AreEach, Located, located_in, ops_among, full_name}
use Rattle.dialect_registry.specs.Resolved.{constraints_in, entry_of, attr_of, region_of}
use Rattle.dialect_registry.specs.Resolved.{operands_in, results_in, attrs_in, regions_in}
use Rattle.dialect_registry.specs.Resolved.{successors_in, is_terminator}

-- ---- operations

-- an operation with this body and no format
abbrev pub op_of : Located → Body → OpDef
op_of d body = record {
  name = full_name d.dialect d.def.name;
  body = body;
  operands = map (entry_of (constraints_in d.def.statements)) (operands_in d.def.statements);
  results = map (entry_of (constraints_in d.def.statements)) (results_in d.def.statements);
  attrs = map (attr_of (constraints_in d.def.statements)) (attrs_in d.def.statements);
  regions = map (region_of d.def.statements) (regions_in d.def.statements);
  successors = map (λ n. n.name) (successors_in d.def.statements);
  terminator = is_terminator d.def.statements;
  format = None;
}

-- an operation as far as its lists go
abbrev pub op_shape : Located → OpDef
op_shape d = op_of d (record { vars = [] })

-- the format string that a statement gives, or else another one
abbrev pub format_by : StatementKind → Option RawText → Option RawText
format_by (says.Format text) other = Some text
format_by _ other = other

-- the first of a body
abbrev pub format_in : List RawStatement → Option RawText
format_in [] = None
format_in (s ∷ ss) = format_by s.kind (format_in ss)

-- the operations of some dialects
abbrev pub ops_in : List RawDialect → List Located
ops_in dialects = ops_among (located_in dialects)

-- ---- one text

-- The text is spelled by these elements, which are accepted, and the format has their names as
-- places.
pub record IsFormatOf (op : OpDef) (text : Text) (format : Format) : Type 0 where
  pub raw : List RawElement
  pub read : IsFormat text raw
  pub accepted : IsAccepted op raw format.elements

-- a rule of formats among those of definition files
abbrev pub rule_of : FormatCode → DefCode
rule_of broken.Unknown = FormatUnknown
rule_of broken.Missing = FormatMissing
rule_of broken.Repeated = FormatRepeated
rule_of broken.Group = FormatGroup
rule_of broken.Ambiguous = FormatAmbiguous
rule_of broken.NoType = FormatNoType

-- The text is no format of the operation, at this byte.
pub data IsTextFault (op : OpDef) (text : Text) (r : DefRefusal) : Type 0 where
  -- no format has a token there
  unread : r.code ≡ code_number FormatSyntax → IsRefusedAt text r.at → IsAlone r.look r.entry
      → IsTextFault op text r
  -- its elements break a rule
  unfit : (raw : List RawElement) (code : FormatCode) → r.code ≡ code_number (rule_of code)
      → IsFormat text raw → IsRefused op raw (length text) code r.at r.look r.entry
      → IsTextFault op text r

-- ---- operations and their formats

-- what a format string of an operation says, where there is one
abbrev pub IsSaid : OpDef → Option RawText → Option Format → Type 0
IsSaid op None format = format ≡ None
IsSaid op (Some text) None = ⊥
IsSaid op (Some text) (Some format) = IsFormatOf op text.text format

-- a format string of an operation is refused, at the string
abbrev pub IsSaidFault : OpDef → Option RawText → DefRefusal → Type 0
IsSaidFault op None r = ⊥
IsSaidFault op (Some text) r = (r.place ≡ text.place) × IsTextFault op text.text r

-- the format of an operation
pub record HasFormat (d : Located) (format : Option Format) : Type 0 where
  pub said : IsSaid (op_shape d) (format_in d.def.statements) format

-- the format of an operation is refused
pub record IsFormatFault (d : Located) (r : DefRefusal) : Type 0 where
  pub said : IsSaidFault (op_shape d) (format_in d.def.statements) r

-- no format of these operations is refused
abbrev pub HaveFormats : List Located → Type 0
HaveFormats ds = (formats : List (Option Format)) × AreEach HasFormat ds formats

-- of operations in order, the first whose format is refused
pub record IsFirstFault (ds : List Located) (r : DefRefusal) : Type 0 where
  pub before : List Located
  pub op : Located
  pub after : List Located
  pub cut : ds ≡ before ++ op ∷ after
  pub accepted : HaveFormats before
  pub refused : IsFormatFault op r

-- of the operations of files in order, the first whose format is refused
pub record IsFirstRefused (files : List RawDefs) (r : DefRefusal) : Type 0 where
  pub file : RawDefs
  pub there : slice_get files r.file ≡ Some file
  pub accepted : (n : ℕ) (earlier : RawDefs) → n < r.file → slice_get files n ≡ Some earlier
      → HaveFormats (ops_in earlier.dialects)
  pub first : IsFirstFault (ops_in file.dialects) r
