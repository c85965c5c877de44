-- The pieces that grammars above take whole: their tables pass the check, their readers answer
-- exactly, and what a call read of the grammar of a piece, it read of the piece.
--
--   pieces-known    what a grammar over pieces asks of them, at each depth
--   piece-ran       what a call read of the grammar of a piece, the reader of the piece did
--   at-piece        so the call read the piece
use Rattle.std.proofs.Common.{◌≡◌, ℕ, ◌==◌, true, false, Result, refl}
use Rattle.grammar.specs.declared.stop.SyntaxStop.{SyntaxStop}
use Rattle.grammar.specs.Grammar.{nullable, kid}
use Rattle.grammar.specs.OneToken.{check}
use Rattle.grammar.specs.Ran.{Ran, Reads, reads_in}
use Rattle.grammar.proofs.Inside.{at-kid}
use Rattle.grammar.proofs.Known.{Known, grammar-known}
use Rattle.grammar.proofs.Respelled.{all_met}
use Rattle.ir_lexer.specs.Classes.{same_class}
use Rattle.ir_lexer.specs.Scan.{step, is_whole, class_at}
use Rattle.ir_lexer.specs.Source.{Source}
use Rattle.generic_syntax.specs.Nested.{value_looks, value_more_looks, values_within}
use Rattle.generic_syntax.specs.Pieces.{Piece, one_type, one_attr, some_types, results, dictionary, an_item, PieceTree, piece, IsPiece, deep_piece, piece_at, piece_looks, piece_more_looks, pieces_within}
use Rattle.generic_syntax.proofs.Knot.{values-known}

-- one token decides at each place of a piece
decided : (p : Piece) → check value_looks value_more_looks (piece p) ≡ true
unfolding same_class
decided one_type = refl
decided one_attr = refl
decided some_types = refl
decided results = refl
decided dictionary = refl
decided an_item = refl

-- no piece is empty
full : (p : Piece) → nullable (piece p) ≡ false
full one_type = refl
full one_attr = refl
full some_types = refl
full results = refl
full dictionary = refl
full an_item = refl

-- bytes can give a token for each look of a piece
met : (p : Piece) → all_met (piece p) ≡ true
unfolding step is_whole class_at same_class
met one_type = refl
met one_attr = refl
met some_types = refl
met results = refl
met dictionary = refl
met an_item = refl

-- What a grammar over pieces asks of them is known, at each depth: what they begin with, that none
-- is empty, that each has a text, that tokens are one with one tree, and that readers are exact.
pub pieces-known : (n : ℕ)
    → Known IsPiece (deep_piece n) piece_looks piece_more_looks (piece_at n)
unfolding IsPiece deep_piece piece_at
pieces-known n = record {
  each = λ p.
      grammar-known (values-known n) (n == 0) (piece p) (decided p) (full p) (met p);
}

-- what a call read of the grammar of a piece, the reader of the piece did
pub piece-ran : (n : ℕ) (p : Piece) {s s' : Source} {r : Result (PieceTree p) SyntaxStop}
    → Reads (values_within n) (piece p) s r s' → Ran 1 (piece_at n p) s r s'
unfolding piece_at reads_in
piece-ran n p h = rw (full p) at h.ran

-- so it read the piece, where pieces are the only nonterminals
pub at-piece : (n : ℕ) (p : Piece) {s s' : Source} {r : Result (PieceTree p) SyntaxStop}
    → Reads (values_within n) (piece p) s r s' → Reads (pieces_within n) (kid p (λ c. c)) s r s'
at-piece n p h = at-kid p (piece-ran n p h)
