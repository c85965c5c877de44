-- Small grammars of which that of modules is made. Its nonterminals are the pieces of the grammar
-- of values that it takes whole, and regions, which lead back to themselves.
--
--   OfModules A   such a grammar, whose pieces stand for an A
--   mod_looks x, mod_more_looks x
--                 tables: with which tokens a nonterminal begins, and which go on with a whole one
--   g then h      g and then h, as a pair
--   or_none g     g, or nothing
--   list1 g       one or more of g, with commas between them
--   in_parens g, in_angles g, in_squares g, in_braces g
--                 g in brackets
use Rattle.std.specs.Prelude.{false, List, [], ◌∷◌}
use Rattle.generic_syntax.specs.declared.module_cst.RegionCst.{RegionCst}
use Rattle.generic_syntax.specs.Pieces.{Piece, PieceTree, piece_looks, piece_more_looks}
use Rattle.grammar.specs.Grammar.{G, ret, tok, both, alt, kid}
use Rattle.grammar.specs.Looks.{Look, any_of}
use Rattle.grammar.specs.Rules.{punct, ◌>>◌, ◌<<◌, more_of}
use Rattle.ir_lexer.specs.declared.class.Class.{Class}
use Rattle.ir_lexer.specs.declared.class.Class.TheVariants as c
use Rattle.ir_lexer.specs.Names.{name_bytes}
use Rattle.ir_lexer.specs.Spelling.{Text}

-- What grammars of modules take whole.
pub data ModSort : Type 0 where
  -- a piece of the grammar of values, such as `(i8, i1)` or `{a = 1}`
  of_values : Piece → ModSort
  -- `{ ^a: .. }`
  a_region : ModSort

-- the tree of each
abbrev pub ModTree : ModSort → Type 0
ModTree (of_values p) = PieceTree p
ModTree a_region = RegionCst

-- a grammar of modules, whose pieces stand for an A
abbrev pub OfModules : Type 0 → Type 1
OfModules A = G ModSort ModTree A

-- with which tokens a region begins
abbrev pub region_looks : List Look
region_looks = any_of c.LBrace ∷ []

-- with which tokens each begins
abbrev pub mod_looks : ModSort → List Look
mod_looks (of_values p) = piece_looks p
mod_looks a_region = region_looks

-- Which tokens go on with a whole one. None does with a region, whose bracket ends it.
abbrev pub mod_more_looks : ModSort → List Look
mod_more_looks (of_values p) = piece_more_looks p
mod_more_looks a_region = []

-- ---- small grammars

-- a piece of the grammar of values
abbrev pub piece_of : (p : Piece) → OfModules (PieceTree p)
piece_of p = kid (of_values p) (λ v. v)

-- a region in an operation
abbrev pub inner_region : OfModules RegionCst
inner_region = kid a_region (λ r. r)

-- a piece and then a piece, as a pair
infixr 11 ◌then◌
abbrev pub ◌then◌ : {A B : Type 0} → OfModules A → OfModules B → OfModules (A × B)
g then h = both (λ a b. (a, b)) g h

-- what may be left out, and is then empty
abbrev pub or_none : {A : Type 0} → OfModules (List A) → OfModules (List A)
or_none g = alt g (ret [])

-- one or more, with commas between them
abbrev pub list1 : {A : Type 0} → OfModules A → OfModules (List A)
list1 g = both (λ a l. a ∷ l) g (more_of g)

-- in parentheses
abbrev pub in_parens : {A : Type 0} → OfModules A → OfModules A
in_parens g = punct c.LParen >> g << punct c.RParen

-- in `<` and `>`
abbrev pub in_angles : {A : Type 0} → OfModules A → OfModules A
in_angles g = punct c.Less >> g << punct c.Greater

-- in square brackets
abbrev pub in_squares : {A : Type 0} → OfModules A → OfModules A
in_squares g = punct c.LSquare >> g << punct c.RSquare

-- in braces
abbrev pub in_braces : {A : Type 0} → OfModules A → OfModules A
in_braces g = punct c.LBrace >> g << punct c.RBrace

-- a name of this class, without its sign
abbrev pub sign_name : Class → OfModules Text
sign_name class = tok false (any_of class) (λ t. name_bytes t.text)
