-- What the names of a format mean: its elements, with names as places.
--
-- A variable by itself names an operand, an attribute, a region or a successor. What `type` speaks
-- of is an operand or a result; in `functional-type` the first speaks of operands and the second of
-- results. `symbol`, `int` and `qualified` are on attributes. A name that stands twice means the
-- first.
--
-- The first variable or word that names nothing of its kind is the fault of a format (code 10). So
-- is what no format text spells: a literal that is no word and none of the signs, and a group in a
-- group.
--
--   Named A                what is meant, or the place of what means nothing
--   named_elements op raw  the elements of a format with names as places
use Rattle.std.specs.Prelude.{ℕ, Bool, true, false, List, [], ◌∷◌, Option, Some, None, bytes_eq, if◌then◌else◌}
use Rattle.std.specs.List.{position, position_or_len}
use Rattle.std.specs.declared.result.Result.{Result}
use Rattle.std.specs.declared.result.Result.TheVariants.{Ok, Err}
use Rattle.ir_lexer.specs.declared.class.Class.{Class}
use Rattle.ir_lexer.specs.declared.class.Class.TheVariants as c
use Rattle.ir_lexer.specs.Spelling.{Text}
use Rattle.format_reader.specs.Spelling.{is_bare_id}
use Rattle.dialect_defs.specs.declared.definition.OpDef.{OpDef}
use Rattle.dialect_defs.specs.declared.entry.AttrEntry.{AttrEntry}
use Rattle.dialect_defs.specs.declared.entry.Entry.{Entry}
use Rattle.dialect_defs.specs.declared.entry.RegionEntry.{RegionEntry}
use Rattle.dialect_defs.specs.declared.format.Element.{Element, roll-Element}
use Rattle.dialect_defs.specs.declared.format.ElementKind.{ElementKind}
use Rattle.dialect_defs.specs.declared.format.ElementKind.TheVariants as kind
use Rattle.dialect_defs.specs.declared.format.TypeArg.{TypeArg}
use Rattle.dialect_defs.specs.declared.format.TypeArg.TheVariants as arg
use Rattle.dialect_defs.specs.declared.raw_format.RawArg.{RawArg}
use Rattle.dialect_defs.specs.declared.raw_format.RawArg.TheVariants as raw
use Rattle.dialect_defs.specs.declared.raw_format.RawElement.{RawElement, out-RawElement}
use Rattle.dialect_defs.specs.declared.raw_format.RawKind.{RawKind, out-RawKind}
use Rattle.dialect_defs.specs.declared.raw_format.RawKind.TheOpen.{RawKind-F}
use Rattle.dialect_defs.specs.declared.raw_format.RawName.{RawName}

-- ---- raw elements

-- what a raw element says, by its form
abbrev pub RawForm : Type 0
RawForm = RawKind-F RawKind RawElement

abbrev pub raw_form_of : RawKind → RawForm
raw_form_of k = out-RawKind k

abbrev pub raw_kind_of : RawElement → RawForm
raw_kind_of x = raw_form_of (out-RawElement x).kind

-- its first byte in the format text
abbrev pub place_of : RawElement → ℕ
place_of x = (out-RawElement x).at

-- the mark of an anchor stands behind it
abbrev pub is_marked : RawElement → Bool
is_marked x = (out-RawElement x).anchor

-- ---- what is meant

-- what is meant, or the place of what means nothing
abbrev pub Named : Type 0 → Type 0
Named A = Result A ℕ

infixl 10 ◌>>=◌
-- one after the other; the first that means nothing counts
abbrev pub ◌>>=◌ : {A B : Type 0} → Named A → (A → Named B) → Named B
Ok a >>= f = f a
Err at >>= f = Err at

-- the number that there is, as a thing; else the place
abbrev pub at_number : {A : Type 0} → Option ℕ → (ℕ → A) → ℕ → Named A
at_number (Some i) f at = Ok (f i)
at_number None f at = Err at

-- the number that there is, as a thing, or what else may be meant
abbrev pub or_else_named : {A : Type 0} → Option ℕ → (ℕ → A) → Named A → Named A
or_else_named (Some i) f other = Ok (f i)
or_else_named None f other = other

-- ---- names

-- it has this name
abbrev pub has_name : Text → Option Text → Bool
has_name name None = false
has_name name (Some own) = bytes_eq own name

-- the number of the first operand, result, attribute, region or successor of this name
abbrev pub entry_named : List Entry → Text → Option ℕ
entry_named entries name = position (λ (e : Entry). has_name name e.name) entries

abbrev pub attr_named : List AttrEntry → Text → Option ℕ
attr_named attrs name = position (λ (e : AttrEntry). bytes_eq e.name name) attrs

abbrev pub region_named : List RegionEntry → Text → Option ℕ
region_named regions name = position (λ (e : RegionEntry). has_name name e.name) regions

abbrev pub successor_named : List Text → Text → Option ℕ
successor_named successors name = position (λ (s : Text). bytes_eq s name) successors

-- `$x` by itself
abbrev pub bare : OpDef → ℕ → Text → Named ElementKind
bare op at name =
    or_else_named (entry_named op.operands name) (λ i. kind.Operand i)
    (or_else_named (attr_named op.attrs name) (λ i. kind.Attr i)
    (or_else_named (region_named op.regions name) (λ i. kind.Region i)
    (at_number (successor_named op.successors name) (λ i. kind.Successor i) at)))

-- an attribute
abbrev pub attr_of : OpDef → RawName → Named ℕ
attr_of op n = at_number (attr_named op.attrs n.name) (λ i. i) n.at

-- the types of an operand, or of a result
abbrev pub operand_of : OpDef → RawName → Named TypeArg
operand_of op n = at_number (entry_named op.operands n.name) (λ i. arg.Operand i) n.at

abbrev pub result_of : OpDef → RawName → Named TypeArg
result_of op n = at_number (entry_named op.results n.name) (λ i. arg.Result i) n.at

-- what `type` speaks of
abbrev pub either_side : OpDef → RawArg → Named TypeArg
either_side op (raw.Variable n) =
    or_else_named (entry_named op.operands n.name) (λ i. arg.Operand i) (result_of op n)
either_side op (raw.AllOperands at) = Ok arg.AllOperands
either_side op (raw.AllResults at) = Ok arg.AllResults

-- what `functional-type` speaks of first
abbrev pub operand_side : OpDef → RawArg → Named TypeArg
operand_side op (raw.Variable n) = operand_of op n
operand_side op (raw.AllOperands at) = Ok arg.AllOperands
operand_side op (raw.AllResults at) = Err at

-- and then
abbrev pub result_side : OpDef → RawArg → Named TypeArg
result_side op (raw.Variable n) = result_of op n
result_side op (raw.AllOperands at) = Err at
result_side op (raw.AllResults at) = Ok arg.AllResults

-- ---- literals

-- the signs that a literal may be: `: , = < > ( ) { } [ ] -> ? + *`
abbrev pub is_literal_sign : Class → Bool
is_literal_sign c.Colon = true
is_literal_sign c.Comma = true
is_literal_sign c.Equal = true
is_literal_sign c.Less = true
is_literal_sign c.Greater = true
is_literal_sign c.LParen = true
is_literal_sign c.RParen = true
is_literal_sign c.LBrace = true
is_literal_sign c.RBrace = true
is_literal_sign c.LSquare = true
is_literal_sign c.RSquare = true
is_literal_sign c.Arrow = true
is_literal_sign c.Question = true
is_literal_sign c.Plus = true
is_literal_sign c.Star = true
is_literal_sign _ = false

abbrev pub sign : ℕ → Class → Named ElementKind
sign at class = if is_literal_sign class then Ok (kind.Punct class) else Err at

abbrev pub word : ℕ → Text → Named ElementKind
word at text = if is_bare_id text then Ok (kind.Word text) else Err at

-- ---- elements

-- of an element that is no word and no group
abbrev pub shown_kind : OpDef → ℕ → RawForm → Named ElementKind
shown_kind op at (RawKind-F.Punct class) = sign at class
shown_kind op at RawKind-F.Space = Ok kind.Space
shown_kind op at RawKind-F.Newline = Ok kind.Newline
shown_kind op at RawKind-F.Empty = Ok kind.Empty
shown_kind op at (RawKind-F.Variable name) = bare op at name
shown_kind op at (RawKind-F.Qualified n) = attr_of op n >>= (λ i. Ok (kind.Attr i))
shown_kind op at (RawKind-F.SymbolName n) = attr_of op n >>= (λ i. Ok (kind.SymbolName i))
shown_kind op at (RawKind-F.IntText n k) = attr_of op n >>= (λ i. Ok (kind.IntText i k))
shown_kind op at (RawKind-F.Types a) = either_side op a >>= (λ t. Ok (kind.Types t))
shown_kind op at (RawKind-F.Functional a b) =
    operand_side op a >>= (λ t. result_side op b >>= (λ u. Ok (kind.Functional t u)))
shown_kind op at RawKind-F.Dict = Ok kind.Dict
shown_kind op at RawKind-F.DictKeyword = Ok kind.DictKeyword
shown_kind op at (RawKind-F.Word w) = Err at
shown_kind op at (RawKind-F.Group first otherwise) = Err at

-- of an element that is no group
abbrev pub item_kind : OpDef → ℕ → RawForm → Named ElementKind
item_kind op at (RawKind-F.Word w) = word at w
item_kind op at k = shown_kind op at k

-- an element at a place
abbrev pub element_at : ℕ → ElementKind → Element
element_at at k = roll-Element (record { at = at; kind = k })

abbrev pub named_item : OpDef → RawElement → Named Element
named_item op x =
    item_kind op (place_of x) (raw_kind_of x) >>= (λ k. Ok (element_at (place_of x) k))

-- each of a list, in order
abbrev pub named_each : {A B : Type 0} → (A → Named B) → List A → Named (List B)
named_each f [] = Ok []
named_each f (x ∷ xs) = f x >>= (λ y. named_each f xs >>= (λ ys. Ok (y ∷ ys)))

abbrev pub named_items : OpDef → List RawElement → Named (List Element)
named_items op raw = named_each (named_item op) raw

-- the place of the first mark in a branch; its length where there is none
abbrev pub anchor_in : List RawElement → ℕ
anchor_in raw = position_or_len is_marked raw

-- of a group
abbrev pub named_group : OpDef → List RawElement → List RawElement → Named ElementKind
named_group op first otherwise =
    named_items op first
    >>= (λ f. named_items op otherwise >>= (λ o. Ok (kind.Group f o (anchor_in first))))

-- of any element
abbrev pub named_form : OpDef → ℕ → RawForm → Named ElementKind
named_form op at (RawKind-F.Group first otherwise) = named_group op first otherwise
named_form op at k = item_kind op at k

abbrev pub named_kind : OpDef → RawElement → Named ElementKind
named_kind op x = named_form op (place_of x) (raw_kind_of x)

abbrev pub named_element : OpDef → RawElement → Named Element
named_element op x = named_kind op x >>= (λ k. Ok (element_at (place_of x) k))

-- the elements of a format
abbrev pub named_elements : OpDef → List RawElement → Named (List Element)
named_elements op raw = named_each (named_element op) raw
