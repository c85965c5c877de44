-- What an element is spelled with in an operation: its piece, as a grammar.
--
--   a word, a sign        that token
--   white space           nothing
--   operands              one use, none or one, or any number with commas between them
--   an attribute          its value; nothing where it may be missing
--   symbol, int           a symbol's name; digits with or without a minus
--   a region, a successor that region; a block's name
--   types                 as operands, with types in place of uses
--   a functional type     types in parentheses, `->`, and the results of a function
--   a dictionary          entries in braces, or nothing; with a keyword, behind `attributes`
--   a group               the pieces of one of its branches
--
-- In the first branch of a group the anchor isn't left out. Of an attribute that is always the unit
-- value nothing is spelled there. Values and regions are taken whole: they are nonterminals, of
-- which it is told with which tokens a piece begins and which go on with a whole one.
--
--   piece op anchor k     the piece of an element that is no group
--   branch op anchor i es the pieces of a branch's elements, from the one with the number i on
--   shown op k            the piece of an element
use Rattle.std.specs.Prelude.{ℕ, ◌+◌, Bool, true, false, not, ◌&&◌, ◌||◌, List, [], ◌∷◌, ◌++◌, Option, Some, None, codes}
use Rattle.ir_lexer.specs.declared.class.Class.TheVariants as c
use Rattle.ir_lexer.specs.Names.{name_bytes}
use Rattle.ir_lexer.specs.Tokens.{Token}
use Rattle.grammar.specs.Grammar.{G, ret, tok, both, alt, made, placed, kid}
use Rattle.grammar.specs.Looks.{Look, any_of}
use Rattle.grammar.specs.Rules.{punct, keyword, ◌>>◌, opt, list, more_of}
use Rattle.generic_syntax.specs.declared.cst.ItemCst.{ItemCst}
use Rattle.generic_syntax.specs.declared.cst.NameCst.{NameCst}
use Rattle.generic_syntax.specs.declared.module_cst.NumberCst.{NumberCst}
use Rattle.generic_syntax.specs.declared.module_cst.PartCst.{PartCst}
use Rattle.generic_syntax.specs.declared.module_cst.PartCst.TheVariants as part
use Rattle.generic_syntax.specs.declared.module_cst.RegionCst.{RegionCst}
use Rattle.generic_syntax.specs.declared.module_cst.UseCst.{UseCst}
use Rattle.generic_syntax.specs.Pieces.{Piece, PieceTree, one_type, one_attr, some_types, results, dictionary, piece_looks, piece_more_looks}
use Rattle.dialect_defs.specs.declared.definition.OpDef.{OpDef}
use Rattle.dialect_defs.specs.declared.entry.Arity.{Arity}
use Rattle.dialect_defs.specs.declared.entry.Arity.TheVariants as arity
use Rattle.dialect_defs.specs.declared.format.Element.{Element}
use Rattle.dialect_defs.specs.declared.format.ElementKind.TheOpen.{ElementKind-F}
use Rattle.dialect_defs.specs.declared.format.TypeArg.{TypeArg}
use Rattle.dialect_defs.specs.declared.format.TypeArg.TheVariants as arg
use Rattle.format_checker.specs.Columns.{Kind, kind_of, arity_at, has_single, is_optional, is_unit, is_anchor}

-- ---- what is taken whole

-- a piece of the grammar of values, or a region
pub data Inner : Type 0 where
  value : Piece → Inner
  a_region : Inner

-- the tree of each
abbrev pub InnerTree : Inner → Type 0
InnerTree (value p) = PieceTree p
InnerTree a_region = RegionCst

-- the looks with which each begins
abbrev pub inner_looks : Inner → List Look
inner_looks (value p) = piece_looks p
inner_looks a_region = any_of c.LBrace ∷ []

-- the looks that go on with a whole one
abbrev pub inner_more_looks : Inner → List Look
inner_more_looks (value p) = piece_more_looks p
inner_more_looks a_region = []

-- a grammar over these, whose pieces stand for an A
abbrev pub Rule : Type 0 → Type 1
Rule A = G Inner InnerTree A

-- ---- tokens

-- a name without its sign
abbrev pub name_at : Token → NameCst
name_at t = record { place = t.place; name = name_bytes t.text }

-- `#1`, without its sign
abbrev pub number_at : Token → NumberCst
number_at t = record { place = t.place; digits = name_bytes t.text }

-- a use of a value
abbrev pub use_of : NameCst → Option NumberCst → UseCst
use_of n number = record { place = n.place; name = n.name; number = number }

-- `%0` or `%0#1`
abbrev pub a_use : Rule UseCst
a_use =
    both use_of (tok false (any_of c.ValueName) name_at)
    (opt (tok false (any_of c.ResultNumber) number_at))

-- whether a minus stands there
abbrev pub minus : Rule Bool
minus = alt (made (λ _. true) (punct c.Minus)) (ret false)

-- digits, with or without a minus
abbrev pub digits : Rule ItemCst
digits =
    placed (λ at n. record { place = at; negative = n.0; spelling = n.1 })
    (both {A = Bool × List ℕ} (λ m d. (m, d)) minus (tok false (any_of c.Integer) (λ t. t.text)))

-- ---- how many

-- one or more, with commas between them
abbrev pub list1 : {A : Type 0} → Rule A → Rule (List A)
list1 g = both (λ a l. a ∷ l) g (more_of g)

-- as many as an arity allows; at least one where it is the anchor
abbrev pub several : {A : Type 0} → Arity → Bool → Rule A → Rule (List A)
several arity.Single anchor g = made (λ a. a ∷ []) g
several arity.Optional true g = made (λ a. a ∷ []) g
several arity.Optional false g = alt (made (λ a. a ∷ []) g) (ret [])
several arity.Variadic true g = list1 g
several arity.Variadic false g = list g

-- as many as all entries allow; at least one where some entry is single
abbrev pub of_all : {A : Type 0} → Bool → Rule A → Rule (List A)
of_all true g = list1 g
of_all false g = list g

-- one, or nothing where it may be missing
abbrev pub maybe : {A : Type 0} → Bool → Rule A → Rule (Option A)
maybe true g = opt g
maybe false g = made (λ a. Some a) g

-- ---- elements

-- an attribute: of a unit anchor, or by whether it may be missing
abbrev pub attribute : Bool → Bool → Rule (List PartCst)
attribute true missing = ret (part.Value None ∷ [])
attribute false missing =
    made (λ v. part.Value v ∷ []) (maybe missing (kid (value one_attr) (λ v. v)))

-- types, by whose they are
abbrev pub types : OpDef → Bool → TypeArg → Rule (List PartCst)
types op anchor (arg.Operand i) =
    made (λ ts. part.Types ts ∷ [])
    (several (arity_at op.operands i) anchor (kid (value one_type) (λ v. v)))
types op anchor (arg.Result i) =
    made (λ ts. part.Types ts ∷ [])
    (several (arity_at op.results i) anchor (kid (value one_type) (λ v. v)))
types op anchor arg.AllOperands =
    made (λ ts. part.Types ts ∷ [])
    (of_all (anchor || has_single op.operands) (kid (value one_type) (λ v. v)))
types op anchor arg.AllResults =
    made (λ ts. part.Types ts ∷ [])
    (of_all (anchor || has_single op.results) (kid (value one_type) (λ v. v)))

-- entries in braces
abbrev pub entries : Rule (List PartCst)
entries = made (λ es. part.Dict es ∷ []) (kid (value dictionary) (λ es. es))

-- or nothing
abbrev pub or_none : Rule (List PartCst) → Rule (List PartCst)
or_none g = alt g (ret (part.Dict [] ∷ []))

-- The piece of an element, where it is the anchor of a taken group or isn't.
abbrev pub piece : OpDef → Bool → Kind → Rule (List PartCst)
piece op anchor (ElementKind-F.Word w) = made (λ _. []) (keyword w)
piece op anchor (ElementKind-F.Punct class) = made (λ _. []) (punct class)
piece op anchor ElementKind-F.Space = ret []
piece op anchor ElementKind-F.Newline = ret []
piece op anchor ElementKind-F.Empty = ret []
piece op anchor (ElementKind-F.Operand i) =
    made (λ us. part.Uses us ∷ []) (several (arity_at op.operands i) anchor a_use)
piece op anchor (ElementKind-F.Attr i) =
    attribute (anchor && is_unit op i) (not anchor && is_optional op i)
piece op anchor (ElementKind-F.Region i) = kid a_region (λ r. part.Region r ∷ [])
piece op anchor (ElementKind-F.Successor i) =
    tok false (any_of c.BlockName) (λ t. part.Successor (name_at t) ∷ [])
piece op anchor (ElementKind-F.SymbolName i) =
    made (λ n. part.SymbolName n ∷ [])
    (maybe (not anchor && is_optional op i) (tok false (any_of c.SymbolName) name_at))
piece op anchor (ElementKind-F.IntText i k) =
    made (λ n. part.IntText n ∷ []) (maybe (not anchor && is_optional op i) digits)
piece op anchor (ElementKind-F.Types a) = types op anchor a
piece op anchor (ElementKind-F.Functional a b) =
    both (λ ins outs. part.Functional ins outs ∷ []) (kid (value some_types) (λ v. v))
    (punct c.Arrow >> kid (value results) (λ v. v))
piece op anchor ElementKind-F.Dict = or_none entries
piece op anchor ElementKind-F.DictKeyword = or_none (keyword (codes "attributes") >> entries)
piece op anchor (ElementKind-F.Group first otherwise a) = ret []

-- the pieces of a branch's elements, one after the other
abbrev pub branch : OpDef → Option ℕ → ℕ → List Element → Rule (List PartCst)
branch op anchor i [] = ret []
branch op anchor i (e ∷ es) =
    both (λ xs ys. xs ++ ys) (piece op (is_anchor anchor i) (kind_of e))
    (branch op anchor (i + 1) es)

-- the piece of an element; of a group that of one of its branches
abbrev pub shown : OpDef → Kind → Rule (List PartCst)
shown op (ElementKind-F.Group first otherwise anchor) =
    alt (made (λ ps. part.Group true ps ∷ []) (branch op (Some anchor) 0 first))
    (made (λ ps. part.Group false ps ∷ []) (branch op None 0 otherwise))
shown op k = piece op false k
