-- Definitions of types, attributes and operations.
--
--   def = (`irdl.type` | `irdl.attribute`) SymbolName (`{` type_statement* `}`)?
--       | `irdl.operation` SymbolName (`{` op_statement* `}`)?
--
-- Statements stand in any order. The place of a definition is that of its name.
use Rattle.std.specs.Prelude.{List, codes}
use Rattle.ir_lexer.specs.Spelling.{Text}
use Rattle.grammar.specs.Grammar.{both, alt}
use Rattle.grammar.specs.Rules.{keyword, ◌>>◌, many}
use Rattle.generic_syntax.specs.declared.cst.NameCst.{NameCst}
use Rattle.irdl_ops.specs.declared.raw.DefKind.{DefKind}
use Rattle.irdl_ops.specs.declared.raw.DefKind.TheVariants.{OfType, OfAttr, OfOp}
use Rattle.irdl_ops.specs.declared.raw.RawDef.{RawDef}
use Rattle.irdl_ops.specs.declared.raw.RawStatement.{RawStatement}
use Rattle.irdl_ops.specs.Entries.{symbol}
use Rattle.irdl_ops.specs.Forms.{OfDefs, or_none, in_braces}
use Rattle.irdl_ops.specs.Statements.{type_statement, op_statement}

-- statements in braces, or none
abbrev pub body : OfDefs RawStatement → OfDefs (List RawStatement)
body statement = or_none (in_braces (many statement))

-- a definition
abbrev pub def_of : DefKind → NameCst → List RawStatement → RawDef
def_of kind name statements =
    record { place = name.place; kind = kind; name = name.name; statements = statements }

-- `irdl.type @t { .. }` or `irdl.attribute @a { .. }`
abbrev pub type_def : Text → DefKind → OfDefs RawDef
type_def w kind = keyword w >> both (def_of kind) symbol (body type_statement)

-- `irdl.operation @o { .. }`
abbrev pub operation : OfDefs RawDef
operation = keyword (codes "irdl.operation") >> both (def_of OfOp) symbol (body op_statement)

-- a definition of any kind
abbrev pub def : OfDefs RawDef
def =
    alt (type_def (codes "irdl.type") OfType)
    (alt (type_def (codes "irdl.attribute") OfAttr) operation)
