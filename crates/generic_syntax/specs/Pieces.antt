-- Pieces of the grammar of values that grammars above it take whole.
--
-- Definition files and modules have values in them, and no value has one of them. So what they take
-- of the grammar of values are nonterminals to them, each known by its tree, its tokens, its reader
-- and its tables. All of it is computed from the one grammar of values.
--
--   piece p               the grammar of the piece p
--   IsPiece p ts v        the tokens ts are the piece p, with the tree v
--   deep_piece n p ts     the last of ts begins a value too deep, where values may nest n deep
--   piece_at n p          the reader of a piece in which values may nest n deep
--   piece_looks p, piece_more_looks p
--                         tables: with which tokens a piece begins, and which go on with a whole
--                         one
--   pieces_within n       how pieces are read in which values may nest n deep
use Rattle.std.specs.Prelude.{ℕ, ◌==◌, List}
use Rattle.generic_syntax.specs.declared.cst.EntryCst.{EntryCst}
use Rattle.generic_syntax.specs.declared.cst.ItemCst.{ItemCst}
use Rattle.generic_syntax.specs.declared.cst.ValueCst.{ValueCst}
use Rattle.grammar.specs.Front.{Lists}
use Rattle.grammar.specs.Grammar.{Tokens, Parser, Derives, Deep, reads}
use Rattle.grammar.specs.Looks.{Look}
use Rattle.grammar.specs.OneToken.{first_looks, more_looks, by_looks}
use Rattle.grammar.specs.Ran.{Env}
use Rattle.generic_syntax.specs.Nested.{IsValue, value_looks, value_more_looks, deep, value_at}
use Rattle.generic_syntax.specs.Values.{OfValues, a_type, an_attr, inner, types, outs, entries, item}

-- What grammars above take whole.
pub data Piece : Type 0 where
  -- `i8`
  one_type : Piece
  -- `i8` or `5`
  one_attr : Piece
  -- `(i8, i1)`
  some_types : Piece
  -- `(i8, i1)`, or `i8` where it doesn't begin with a parenthesis
  results : Piece
  -- `{a = 1, b}`
  dictionary : Piece
  -- `-5` or `true`
  an_item : Piece

-- the tree of each
abbrev pub PieceTree : Piece → Type 0
PieceTree one_type = ValueCst
PieceTree one_attr = ValueCst
PieceTree some_types = List ValueCst
PieceTree results = List ValueCst
PieceTree dictionary = List EntryCst
PieceTree an_item = ItemCst

-- the grammar of each
abbrev pub piece : (p : Piece) → OfValues (PieceTree p)
piece one_type = inner a_type
piece one_attr = inner an_attr
piece some_types = types
piece results = outs
piece dictionary = entries
piece an_item = item

-- the tokens are the piece, with this tree
unfoldable pub IsPiece : (p : Piece) → Tokens → PieceTree p → Type 0
IsPiece p = Derives IsValue (piece p)

-- The last of the tokens begins a value too deep in such a piece, where values may nest n deep.
unfoldable pub deep_piece : ℕ → Piece → Lists
deep_piece n p = Deep IsValue (deep n) (n == 0) (piece p)

-- reading a piece in which values may nest n deep
unfoldable pub piece_at : ℕ → (p : Piece) → Parser (PieceTree p)
piece_at n p = reads (by_looks value_looks) (value_at n) (n == 0) (piece p)

-- with which tokens a piece begins
abbrev pub piece_looks : Piece → List Look
piece_looks p = first_looks value_looks (piece p)

-- which tokens go on with a whole piece
abbrev pub piece_more_looks : Piece → List Look
piece_more_looks p = more_looks value_looks value_more_looks (piece p)

-- how pieces are read in which values may nest n deep
abbrev pub pieces_within : ℕ → Env Piece PieceTree
pieces_within n = record { begins = by_looks piece_looks; inside = piece_at n; none = n == 0 }
