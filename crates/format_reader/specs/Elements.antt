-- The elements of a format: the grammar of one, and the data that it stands for.
--
--   item      = literal | (`$x` | directive) `^`?
--   directive = `attr-dict` | `attr-dict-with-keyword` | `type` `(` argument `)`
--             | `functional-type` `(` argument `,` argument `)` | `symbol` `(` `$x` `)`
--             | `int` `(` `$x` `,` kind `)` | `qualified` `(` `$x` `)`
--             | `qualified` `(` `type` `(` argument `)` `)`
--   argument  = `$x` | `operands` | `results`
--   kind      = `index`, or an integer type of 1 to 64 bits
--
-- The place of an element is that of its first token. A variable is kept without its sign, and
-- `qualified(type(x))` is read as `type(x)`, since types are always spelled in full.
use Rattle.std.specs.Prelude.{ℕ, Bool, true, false, Option, Some, None, codes, drop}
use Rattle.attr_value.specs.declared.kind.IntKind.{IntKind}
use Rattle.attr_value.specs.declared.kind.IntKind.TheVariants.{Index}
use Rattle.dialect_defs.specs.declared.raw_format.RawArg.{RawArg}
use Rattle.dialect_defs.specs.declared.raw_format.RawArg.TheVariants as arg
use Rattle.dialect_defs.specs.declared.raw_format.RawElement.{RawElement, roll-RawElement}
use Rattle.dialect_defs.specs.declared.raw_format.RawKind.{RawKind}
use Rattle.dialect_defs.specs.declared.raw_format.RawKind.TheVariants as kind
use Rattle.dialect_defs.specs.declared.raw_format.RawName.{RawName}
use Rattle.ir_lexer.specs.declared.class.Class.TheVariants.{Str, ValueName, TypeName, BlockName, LParen, RParen, Comma}
use Rattle.ir_lexer.specs.Tokens.{Token}
use Rattle.grammar.specs.Flat.{Flat}
use Rattle.grammar.specs.Grammar.{ret, tok, both, alt, made, placed}
use Rattle.grammar.specs.Looks.{any_of}
use Rattle.grammar.specs.Rules.{punct, keyword, ◌>>◌, ◌<<◌}
use Rattle.format_reader.specs.Spelling.{content_of, literal_kind, number_kind}

-- ---- what tokens stand for

-- a variable, without its sign
abbrev pub name_of : Token → RawName
name_of t = record { at = t.place; name = drop 1 t.text }

-- what a literal stands for
abbrev pub literal_of : Token → RawKind
literal_of t = literal_kind (content_of t.text)

-- the kind there is; a token that names none doesn't get here
abbrev pub kind_or_index : Option IntKind → IntKind
kind_or_index None = Index
kind_or_index (Some k) = k

-- the kind of numbers that a word names
abbrev pub kind_of : Token → IntKind
kind_of t = kind_or_index (number_kind t.text)

-- an element at a place
abbrev pub element_at : ℕ → Bool → RawKind → RawElement
element_at at anchor k = roll-RawElement (record { at = at; anchor = anchor; kind = k })

-- ---- directives

-- in parentheses
abbrev pub in_parens : {A : Type 0} → Flat A → Flat A
in_parens g = punct LParen >> g << punct RParen

-- `$x`
abbrev pub variable : Flat RawName
variable = tok false (any_of ValueName) name_of

-- `operands`
abbrev pub all_operands : Flat RawArg
all_operands = placed (λ at _. arg.AllOperands at) (keyword (codes "operands"))

-- `results`
abbrev pub all_results : Flat RawArg
all_results = placed (λ at _. arg.AllResults at) (keyword (codes "results"))

-- what a directive speaks of
abbrev pub argument : Flat RawArg
argument = alt (made (λ x. arg.Variable x) variable) (alt all_operands all_results)

-- `type(x)`
abbrev pub types : Flat RawKind
types = made (λ a. kind.Types a) (keyword (codes "type") >> in_parens argument)

-- `functional-type(x, y)`
abbrev pub functional : Flat RawKind
functional =
    keyword (codes "functional-type")
    >> in_parens (both (λ a b. kind.Functional a b) argument (punct Comma >> argument))

-- `symbol($x)`
abbrev pub symbol : Flat RawKind
symbol = made (λ x. kind.SymbolName x) (keyword (codes "symbol") >> in_parens variable)

-- the kind of numbers
abbrev pub number : Flat IntKind
number = tok false (any_of TypeName) kind_of

-- `int($x, i64)`
abbrev pub int_text : Flat RawKind
int_text =
    keyword (codes "int")
    >> in_parens (both (λ x k. kind.IntText x k) variable (punct Comma >> number))

-- `$x`, or `type(x)`
abbrev pub in_full : Flat RawKind
in_full = alt (made (λ x. kind.Qualified x) variable) types

-- `qualified($x)`, or `qualified(type(x))`
abbrev pub qualified : Flat RawKind
qualified = keyword (codes "qualified") >> in_parens in_full

-- ---- items

-- `$x`, as an element
abbrev pub bare : Flat RawKind
bare = made (λ (x : RawName). kind.Variable x.name) variable

-- `attr-dict`
abbrev pub dict : Flat RawKind
dict = made (λ _. kind.Dict) (keyword (codes "attr-dict"))

-- `attr-dict-with-keyword`
abbrev pub dict_keyword : Flat RawKind
dict_keyword = made (λ _. kind.DictKeyword) (keyword (codes "attr-dict-with-keyword"))

-- a dictionary
abbrev pub dictionary : Flat RawKind
dictionary = alt dict dict_keyword

-- types
abbrev pub of_types : Flat RawKind
of_types = alt types functional

-- an attribute
abbrev pub of_attribute : Flat RawKind
of_attribute = alt symbol (alt int_text qualified)

-- any directive
abbrev pub directive : Flat RawKind
directive = alt dictionary (alt of_types of_attribute)

-- a variable or a directive
abbrev pub shown : Flat RawKind
shown = alt bare directive

-- whether the mark of an anchor stands here
abbrev pub anchor : Flat Bool
anchor = alt (made (λ _. true) (punct BlockName)) (ret false)

-- a literal, which is no anchor
abbrev pub literal : Flat RawElement
literal = placed (λ at k. element_at at false k) (tok false (any_of Str) literal_of)

-- a variable or a directive, and whether it is an anchor
abbrev pub marked : Flat RawElement
marked =
    placed (λ at p. element_at at p.1 p.0) (both {A = RawKind × Bool} (λ k a. (k, a)) shown anchor)

-- an element that is no group
abbrev pub item : Flat RawElement
item = alt literal marked
