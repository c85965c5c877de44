-- What the columns say of pieces.
--
-- A column's look is a demand on a token, as one of a grammar is. An element may have an empty
-- piece exactly where its column says so; a piece that isn't empty begins with a token of its
-- starts, and with each of these some piece does; a token that goes on with a whole piece is one of
-- its open looks, or one with which a piece begins that may be left out, or the number behind the
-- name of a value; and one token decides in the piece.
--
--   looks ls          the demands of a column, as those of a grammar
--   can_anchor k      an element that may be an anchor
--   Fits op anchor k  the columns fit the piece of an element that is no group
--   AnchorFits anchor i es
--                     the anchor of a branch may be one, from the element i on
--   FitsGroup op first otherwise anchor
--                     the columns of a group fit its piece: where it may be empty, and its starts
use Rattle.std.specs.Prelude.{◌≡◌, ℕ, ◌+◌, Option, Bool, true, false, List, [], ◌∷◌, ◌++◌, if◌then◌else◌}
use Rattle.ir_lexer.specs.declared.class.Class.TheVariants as c
use Rattle.ir_lexer.specs.Tokens.{Token}
use Rattle.grammar.specs.Grammar.{nullable, starts}
use Rattle.grammar.specs.Looks as grammar
use Rattle.grammar.specs.Looks.{any, any_of, word, int_word, dotted}
use Rattle.grammar.specs.OneToken.{by_looks, more_looks, check}
use Rattle.dialect_defs.specs.declared.definition.OpDef.{OpDef}
use Rattle.dialect_defs.specs.declared.format.Element.{Element}
use Rattle.dialect_defs.specs.declared.format.ElementKind.TheOpen.{ElementKind-F}
use Rattle.format_checker.specs.declared.look.Look.{Look}
use Rattle.format_checker.specs.declared.look.Look.TheVariants as look
use Rattle.format_checker.specs.Columns as columns
use Rattle.format_checker.specs.Columns.{Kind, kind_of, is_anchor, counts_empty, counts_starts, counts_open, may_be_empty}
use Rattle.format_checker.specs.Pieces.{inner_looks, inner_more_looks, piece, shown}

-- one demand of a column
abbrev pub demand : Look → grammar.Look
demand (look.Punct class) = any_of class
demand look.Value = any_of c.ValueName
demand look.Block = any_of c.BlockName
demand look.Symbol = any_of c.SymbolName
demand look.TypeName = any_of c.TypeName
demand look.AttrName = any_of c.AttrName
demand look.Integer = any_of c.Integer
demand look.Str = any_of c.Str
demand look.IntWord = int_word
demand look.Dotted = dotted c.Word
demand look.End = any_of c.End
demand (look.Word w) = word w

-- those of a column
abbrev pub looks : List Look → List grammar.Look
looks [] = []
looks (l ∷ ls) = demand l ∷ looks ls

-- an attribute, operands or types
abbrev pub can_anchor : Kind → Bool
can_anchor (ElementKind-F.Operand i) = true
can_anchor (ElementKind-F.Attr i) = true
can_anchor (ElementKind-F.SymbolName i) = true
can_anchor (ElementKind-F.IntText i k) = true
can_anchor (ElementKind-F.Types a) = true
can_anchor _ = false

-- what may go on with a whole piece
abbrev pub goes_on : OpDef → Bool → Kind → List grammar.Look
goes_on op anchor k =
    any_of c.ResultNumber ∷ (looks (counts_open op anchor k)
    ++ (if counts_empty op anchor k then looks (counts_starts op anchor k) else []))

-- the columns fit the piece of an element
pub record Fits (op : OpDef) (anchor : Bool) (k : Kind) : Type 0 where
  pub empty : nullable (piece op anchor k) ≡ counts_empty op anchor k
  pub begins : (t : Token) → starts (by_looks inner_looks) (piece op anchor k) t
      ≡ any (looks (counts_starts op anchor k)) t
  pub goes : (t : Token)
      → any (more_looks inner_looks inner_more_looks (piece op anchor k)) t ≡ true
      → any (goes_on op anchor k) t ≡ true
  pub decided : check inner_looks inner_more_looks (piece op anchor k) ≡ true

-- the element with the anchor's number may be an anchor
abbrev pub AnchorFits : Option ℕ → ℕ → List Element → Type 0
AnchorFits anchor i [] = Unit {0}
AnchorFits anchor i (e ∷ es) =
    (is_anchor anchor i ≡ true → can_anchor (kind_of e) ≡ true) × AnchorFits anchor (i + 1) es

-- the columns of a group fit its piece
pub record FitsGroup (op : OpDef) (first otherwise : List Element) (anchor : ℕ) : Type 0 where
  pub empty : nullable (shown op (ElementKind-F.Group first otherwise anchor))
      ≡ may_be_empty op (ElementKind-F.Group first otherwise anchor)
  pub begins : (t : Token)
      → starts (by_looks inner_looks) (shown op (ElementKind-F.Group first otherwise anchor)) t
      ≡ any (looks (columns.starts op (ElementKind-F.Group first otherwise anchor))) t
