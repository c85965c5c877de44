-- How types and attributes are spelled: the grammar of values, with the tree beside each case.
--
--   type  = integer word | `index` | `none` | a float word
--         | TypeName args?                       (args only where the name has a dot)
--         | `(` list(type) `)` `->` outs
--         | `tuple` `<` list(type) `>` | `complex` `<` type `>`
--         | (`vector` | `tensor` | `memref`) `<` Dims? type `>`
--   outs  = `(` list(type) `)` | type that doesn't begin with `(`
--   attr  = type | `true` | `false` | `unit` | Str | SymbolName (`::` SymbolName)*
--         | `-`? Integer (`:` type)? | `[` list(attr) `]` | dict
--         | AttrName args?                       (args only where the name has a dot)
--         | `array` `<` (`i1` | `i8` | `i16` | `i32` | `i64`) (`:` list1(item))? `>`
--   item  = `-`? Integer | `true` | `false`
--   dict  = `{` list(entry) `}`      entry = (Word | Str) (`=` attr)?
--   args  = `<` list(attr) `>`
--
-- Three nonterminals lead back to themselves: a value that stands in another is one of them, one
-- deeper. All else is written out where it stands. The type behind the `:` of a number stands at
-- the number's own depth, and so is written out there too.
--
--   rule x     the grammar of the nonterminal x
use Rattle.std.specs.Prelude.{ℕ, ◌==◌, Bool, true, false, List, [], ◌∷◌, ◌++◌, Option, codes, drop, if◌then◌else◌}
use Rattle.attr_value.specs.declared.kind.ShapeKind.{ShapeKind}
use Rattle.attr_value.specs.declared.kind.ShapeKind.TheVariants.{Vector, Tensor, Memref}
use Rattle.generic_syntax.specs.declared.cst.EntryCst.{EntryCst, roll-EntryCst}
use Rattle.generic_syntax.specs.declared.cst.ItemCst.{ItemCst}
use Rattle.generic_syntax.specs.declared.cst.ValueCst.{ValueCst, roll-ValueCst}
use Rattle.generic_syntax.specs.declared.cst.ValueNode.{ValueNode}
use Rattle.generic_syntax.specs.declared.cst.ValueNode.TheVariants as node
use Rattle.grammar.specs.Grammar.{G, ret, tok, both, alt, made, placed, kid}
use Rattle.grammar.specs.Looks.{Look, any_of, word, int_word, dotted, undotted, decimal}
use Rattle.grammar.specs.Rules.{punct, keyword, ◌>>◌, ◌<<◌, many, opt, list, more_of}
use Rattle.ir_lexer.specs.declared.class.Class.{Class}
use Rattle.ir_lexer.specs.declared.class.Class.TheVariants as c
use Rattle.ir_lexer.specs.Names.{name_bytes, literal_bytes}
use Rattle.ir_lexer.specs.Spelling.{Text}

-- what leads back to itself
pub data Sort : Type 0 where
  a_type : Sort
  -- a type that doesn't begin with a parenthesis
  plain : Sort
  an_attr : Sort

-- the tree of each is that of a value
abbrev pub Sem : Sort → Type 0
Sem x = ValueCst

-- a grammar over values, whose pieces stand for an A
abbrev pub OfValues : Type 0 → Type 1
OfValues A = G Sort Sem A

-- ---- small grammars

-- a piece and then a piece, as a pair
infixr 11 ◌then◌
abbrev pub ◌then◌ : {A B : Type 0} → OfValues A → OfValues B → OfValues (A × B)
g then h = both (λ a b. (a, b)) g h

-- a value that stands in another
abbrev pub inner : Sort → OfValues ValueCst
inner x = kid x (λ v. v)

-- one or more, with commas between them
abbrev pub list1 : {A : Type 0} → OfValues A → OfValues (List A)
list1 g = both (λ a l. a ∷ l) g (more_of g)

-- what may be left out, and is then empty
abbrev pub or_none : {A : Type 0} → OfValues (List A) → OfValues (List A)
or_none g = alt g (ret [])

-- a token, as its text
abbrev pub as_text : Look → OfValues Text
as_text look = tok false look (λ t. t.text)

-- one of these words
abbrev pub one_of : Text → List Text → OfValues Text
one_of w [] = as_text (word w)
one_of w (v ∷ vs) = alt (as_text (word w)) (one_of v vs)

-- in parentheses
abbrev pub in_parens : {A : Type 0} → OfValues A → OfValues A
in_parens g = punct c.LParen >> g << punct c.RParen

-- in `<` and `>`
abbrev pub in_angles : {A : Type 0} → OfValues A → OfValues A
in_angles g = punct c.Less >> g << punct c.Greater

-- in square brackets
abbrev pub in_squares : {A : Type 0} → OfValues A → OfValues A
in_squares g = punct c.LSquare >> g << punct c.RSquare

-- in braces
abbrev pub in_braces : {A : Type 0} → OfValues A → OfValues A
in_braces g = punct c.LBrace >> g << punct c.RBrace

-- ---- trees

-- a value at the place of its first token
unfoldable pub node_at : ℕ → ValueNode → ValueCst
node_at place n = roll-ValueCst (record { place = place; node = n })

-- The dimensions that a token of them spells, behind digits that were read: each one ends at its
-- `x`, and an unknown one is an empty text.
abbrev pub dims_from : Text → Text → List Text
dims_from before [] = []
dims_from before (b ∷ t) =
    if b == 120 then before ∷ dims_from [] t
    else (if b == 63 then dims_from before t else dims_from (before ++ b ∷ []) t)

-- an entry of a dictionary, at the place of its key
abbrev pub entry_at : ℕ → Text × Option ValueCst → EntryCst
entry_at place e = roll-EntryCst (record { place = place; key = e.0; value = e.1 })

-- an item of a dense array, at the place of its first token
abbrev pub item_at : ℕ → Bool × Text → ItemCst
item_at place n = record { place = place; negative = n.0; spelling = n.1 }

-- ---- words

-- the words that are types, beside `index` and the names of integer types
abbrev pub type_words : List Text
type_words =
    codes "none" ∷ codes "bf16" ∷ codes "f16" ∷ codes "tf32" ∷ codes "f32" ∷ codes "f64"
    ∷ codes "f80" ∷ codes "f128" ∷ []

-- the name of an integer type, or one of the words that are types
abbrev pub type_word : OfValues Text
type_word = alt (as_text int_word) (one_of (codes "index") type_words)

-- `true`, `false`, `unit`
abbrev pub attr_word : OfValues Text
attr_word = one_of (codes "true") (codes "false" ∷ codes "unit" ∷ [])

-- the widths of dense arrays, beside `i1`
abbrev pub dense_widths : List Text
dense_widths = codes "i8" ∷ codes "i16" ∷ codes "i32" ∷ codes "i64" ∷ []

-- the digits behind the `i`
abbrev pub width_in : Text → ℕ
width_in w = decimal 0 (drop 1 w)

-- ---- numbers

-- whether a minus stands there
abbrev pub sign : OfValues Bool
sign = alt (made (λ _. true) (punct c.Minus)) (ret false)

-- digits, with or without a minus
abbrev pub signed : OfValues (Bool × Text)
signed = sign then as_text (any_of c.Integer)

-- a truth value, or digits with or without a minus
abbrev pub item : OfValues ItemCst
item = placed item_at
    (alt (made (λ w. (false, w)) (one_of (codes "true") (codes "false" ∷ []))) signed)

-- ---- types

-- `<..>` behind the name of a dialect's value, or nothing
abbrev pub arguments : OfValues (List ValueCst)
arguments = or_none (in_angles (list (inner an_attr)))

-- the name of a dialect's value
abbrev pub dialect_name : Class → OfValues Text
dialect_name class = tok false (dotted class) (λ t. name_bytes t.text)

-- a value of a dialect, by its name and its arguments
abbrev pub dialect_node : Bool → Text × List ValueCst → ValueNode
dialect_node is_type x = node.Dialect is_type x.0 x.1

-- a name without a dot
abbrev pub alias_name : Class → OfValues Text
alias_name class = tok false (undotted class) (λ t. name_bytes t.text)

-- dimensions, or none
abbrev pub dims : OfValues (List Text)
dims = or_none (tok false (any_of c.Dims) (λ t. dims_from [] t.text))

-- a shaped type, by its dimensions and its element type
abbrev pub shaped_node : ShapeKind → List Text × ValueCst → ValueNode
shaped_node kind x = node.Shaped kind x.0 x.1

-- `vector<4xi8>` and the like
abbrev pub shaped : ShapeKind → Text → OfValues ValueNode
shaped kind name = made (shaped_node kind) (keyword name >> in_angles (dims then inner a_type))

-- `tuple<i8, i1>`
abbrev pub tuple : OfValues ValueNode
tuple = made (λ vs. node.Tuple vs) (keyword (codes "tuple") >> in_angles (list (inner a_type)))

-- `complex<f32>`
abbrev pub complex : OfValues ValueNode
complex = made (λ v. node.Complex v) (keyword (codes "complex") >> in_angles (inner a_type))

-- the forms of a type that doesn't begin with a parenthesis
abbrev pub plain_node : OfValues ValueNode
plain_node =
    alt (made (λ w. node.Word w) type_word)
    (alt (made (λ n. node.TypeAlias n) (alias_name c.TypeName))
    (alt (made (dialect_node true) (dialect_name c.TypeName then arguments))
    (alt tuple (alt complex
    (alt (shaped Vector (codes "vector"))
    (alt (shaped Tensor (codes "tensor")) (shaped Memref (codes "memref"))))))))

-- types in parentheses
abbrev pub types : OfValues (List ValueCst)
types = in_parens (list (inner a_type))

-- the results of a function: in parentheses, or one type that doesn't begin with one
abbrev pub outs : OfValues (List ValueCst)
outs = alt types (made (λ v. v ∷ []) (inner plain))

-- a function type, by its inputs and its results
abbrev pub function_node : List ValueCst × List ValueCst → ValueNode
function_node x = node.Function x.0 x.1

-- `(i8) -> i1`
abbrev pub function : OfValues ValueNode
function = made function_node (types then (punct c.Arrow >> outs))

-- the forms of a type
abbrev pub type_node : OfValues ValueNode
type_node = alt plain_node function

-- a type
abbrev pub type : OfValues ValueCst
type = placed node_at type_node

-- ---- attributes

-- a number, by its minus, its digits and its type
abbrev pub number_node : (Bool × Text) × Option ValueCst → ValueNode
number_node x = node.Number x.0.0 x.0.1 x.1

-- the type of a number, at the number's own depth
abbrev pub type_behind : OfValues (Option ValueCst)
type_behind = opt (punct c.Colon >> type)

-- digits, with or without a minus, and a type or none
abbrev pub number : OfValues ValueNode
number = made number_node (signed then type_behind)

-- one part of a symbol
abbrev pub symbol_name : OfValues Text
symbol_name = tok false (any_of c.SymbolName) (λ t. name_bytes t.text)

-- `@a::@b`
abbrev pub symbol : OfValues ValueNode
symbol = both (λ n ns. node.Symbol (n ∷ ns)) symbol_name (many (punct c.ColonColon >> symbol_name))

-- a string, as its bytes
abbrev pub string_text : OfValues Text
string_text = tok false (any_of c.Str) (λ t. literal_bytes t.text)

-- A key, which also begins the unit value where no `=` follows.
abbrev pub key : OfValues Text
key =
    alt (tok true (any_of c.Word) (λ t. t.text))
    (tok true (any_of c.Str) (λ t. literal_bytes t.text))

-- the value of an entry, or none
abbrev pub value_behind : OfValues (Option ValueCst)
value_behind = opt (punct c.Equal >> inner an_attr)

-- `a = 1`, or a key alone
abbrev pub entry : OfValues EntryCst
entry = placed entry_at (key then value_behind)

-- entries in braces
abbrev pub entries : OfValues (List EntryCst)
entries = in_braces (list entry)

-- a dictionary
abbrev pub dict : OfValues ValueNode
dict = made (λ es. node.Dict es) entries

-- `[1, 2]`
abbrev pub array : OfValues ValueNode
array = made (λ vs. node.Array vs) (in_squares (list (inner an_attr)))

-- a dense array, by its width and its items
abbrev pub dense_node : ℕ × List ItemCst → ValueNode
dense_node x = node.Dense x.0 x.1

-- the width of a dense array
abbrev pub width : OfValues ℕ
width = made width_in (one_of (codes "i1") dense_widths)

-- the items of a dense array, or none
abbrev pub items_behind : OfValues (List ItemCst)
items_behind = or_none (punct c.Colon >> list1 item)

-- `array<i8: 1, 2>`
abbrev pub dense : OfValues ValueNode
dense = made dense_node (keyword (codes "array") >> in_angles (width then items_behind))

-- the forms of an attribute that is no type
abbrev pub attr_node : OfValues ValueNode
attr_node =
    alt (made (λ w. node.Word w) attr_word)
    (alt (made (λ s. node.Str s) string_text)
    (alt symbol
    (alt number
    (alt array (alt dict
    (alt (made (λ n. node.AttrAlias n) (alias_name c.AttrName))
    (alt (made (dialect_node false) (dialect_name c.AttrName then arguments)) dense)))))))

-- the forms of a value
abbrev pub any_node : OfValues ValueNode
any_node = alt type_node attr_node

-- a type or an attribute
abbrev pub attr : OfValues ValueCst
attr = placed node_at any_node

-- ---- the nonterminals

-- the forms of each
abbrev pub forms : Sort → OfValues ValueNode
forms a_type = type_node
forms plain = plain_node
forms an_attr = any_node

-- what each stands for
abbrev pub rule : Sort → OfValues ValueCst
rule x = placed node_at (forms x)
