-- Small grammars of which that of definition files is made, over the pieces of the grammar of
-- values that it takes whole.
--
--   OfDefs A      such a grammar, whose pieces stand for an A
--   in_defs       how it is read
--   Begins g t    a piece of g begins with the token t
--   or_none g     g, or nothing
--   list1 g       one or more of g, with commas between them
--   in_parens g, in_angles g, in_braces g
--                 g in brackets
use Rattle.std.specs.Prelude.{Bool, List, [], ◌∷◌}
use Rattle.ir_lexer.specs.declared.class.Class.TheVariants.{LParen, RParen, Less, Greater, LBrace, RBrace}
use Rattle.ir_lexer.specs.Tokens.{Token}
use Rattle.grammar.specs.Grammar.{G, ret, both, alt, starts}
use Rattle.grammar.specs.Ran.{Env}
use Rattle.grammar.specs.Rules.{punct, ◌>>◌, ◌<<◌, more_of}
use Rattle.generic_syntax.specs.declared.pieces.TheConstants.{ROOM}
use Rattle.generic_syntax.specs.Pieces.{Piece, PieceTree, pieces_within}

-- a grammar over pieces of the grammar of values, whose pieces stand for an A
abbrev pub OfDefs : Type 0 → Type 1
OfDefs A = G Piece PieceTree A

-- how it is read: a value that stands in a statement may nest as deep as any value may
abbrev pub in_defs : Env Piece PieceTree
in_defs = pieces_within ROOM

-- a piece of the grammar begins with this token
abbrev pub Begins : {A : Type 0} → OfDefs A → Token → Bool
Begins g t = starts in_defs.begins g t

-- what may be left out, and is then empty
abbrev pub or_none : {A : Type 0} → OfDefs (List A) → OfDefs (List A)
or_none g = alt g (ret [])

-- one or more, with commas between them
abbrev pub list1 : {A : Type 0} → OfDefs A → OfDefs (List A)
list1 g = both (λ a l. a ∷ l) g (more_of g)

-- in parentheses
abbrev pub in_parens : {A : Type 0} → OfDefs A → OfDefs A
in_parens g = punct LParen >> g << punct RParen

-- in `<` and `>`
abbrev pub in_angles : {A : Type 0} → OfDefs A → OfDefs A
in_angles g = punct Less >> g << punct Greater

-- in braces
abbrev pub in_braces : {A : Type 0} → OfDefs A → OfDefs A
in_braces g = punct LBrace >> g << punct RBrace
