-- The grammar of definition files.
--
--   file    = `module` `{` dialect* `}` | dialect*
--   dialect = `irdl.dialect` SymbolName `{` def* `}`
--
-- Definitions stand in `Bodies`, their statements in `Statements`, and of what these are made in
-- `Constraints` and `Entries`. Behind a file stands the end of the text. Each rule is a grammar of
-- its own, whose trees are the raw data of `src/raw.rt`.
--
--   DefText ts d   the tokens ts, up to and with the end, spell the file d
--   IsFile ts d    the same, and nothing nests too deep
--   TooDeepDef p   the last of p begins a value nested too deep
use Rattle.std.specs.Prelude.{◌==◌, List, codes}
use Rattle.grammar.specs.Front.{Shallow}
use Rattle.grammar.specs.Grammar.{Tokens, both, alt, made, Derives, Deep}
use Rattle.grammar.specs.Rules.{keyword, ◌>>◌, many, whole}
use Rattle.generic_syntax.specs.declared.cst.NameCst.{NameCst}
use Rattle.generic_syntax.specs.declared.pieces.TheConstants.{ROOM}
use Rattle.generic_syntax.specs.Pieces.{IsPiece, deep_piece}
use Rattle.irdl_ops.specs.declared.raw.RawDef.{RawDef}
use Rattle.irdl_ops.specs.declared.raw.RawDefs.{RawDefs}
use Rattle.irdl_ops.specs.declared.raw.RawDialect.{RawDialect}
use Rattle.irdl_ops.specs.Bodies.{def}
use Rattle.irdl_ops.specs.Entries.{symbol}
use Rattle.irdl_ops.specs.Forms.{OfDefs, in_braces}

-- a dialect; its place is that of its name
abbrev pub dialect_of : NameCst → List RawDef → RawDialect
dialect_of name defs = record { place = name.place; name = name.name; defs = defs }

-- `irdl.dialect @d { .. }`
abbrev pub dialect : OfDefs RawDialect
dialect = keyword (codes "irdl.dialect") >> both dialect_of symbol (in_braces (many def))

-- dialects, with `module { }` round them or without
abbrev pub all_dialects : OfDefs (List RawDialect)
all_dialects = alt (keyword (codes "module") >> in_braces (many dialect)) (many dialect)

-- a file has any number of dialects
abbrev pub file : OfDefs RawDefs
file = made (λ ds. record { dialects = ds }) all_dialects

-- the tokens, up to and with the end, spell this file
unfoldable pub DefText : Tokens → RawDefs → Type 0
DefText = Derives IsPiece (whole file)

-- the last of the tokens begins a value nested too deep
unfoldable pub TooDeepDef : Tokens → Type 0
TooDeepDef = Deep IsPiece (deep_piece ROOM) (ROOM == 0) (whole file)

-- The tokens, up to and with the end, spell this file, and nothing in them nests too deep.
pub record IsFile (ts : Tokens) (d : RawDefs) : Type 0 where
  pub spelled : DefText ts d
  pub shallow : Shallow TooDeepDef ts
