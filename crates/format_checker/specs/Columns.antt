-- With which looks the pieces of an element begin and go on.
--
-- An element's piece is what it is spelled with in an operation. Some elements may have an empty
-- piece; a piece that isn't empty begins with one of the looks of the element's *starts*; and where
-- the tokens behind a piece begin with one of its *open* looks, it would go on with them.
--
-- In a taken group the anchor has at least one use, type or attribute, so in the first branch it
-- counts as an element that isn't empty, whatever it is by itself. But of an attribute that is
-- always the unit value nothing is spelled where it is the anchor: it is empty and begins with
-- nothing. A branch begins with what its elements begin with, up to and with the first that isn't
-- empty; it goes on behind the last of its elements that isn't empty and behind all that follow it.
--
--   column_empty op k, column_starts k, column_open op k
--                              of an element by itself, by what it shows
--   may_be_empty op e          the element, or group, may have an empty piece
--   starts op e                the looks with which a piece begins
--   continues op e             the looks that go on with a piece
use Rattle.std.specs.Prelude.{ℕ, ◌+◌, ◌==◌, Bool, true, false, not, ◌&&◌, ◌||◌, List, [], ◌∷◌, ◌++◌, Option, Some, None, codes, slice_get, if◌then◌else◌}
use Rattle.std.specs.List.{list_any}
use Rattle.ir_lexer.specs.declared.class.Class.TheVariants as c
use Rattle.ir_lexer.specs.Spelling.{Text}
use Rattle.dialect_defs.specs.declared.definition.OpDef.{OpDef}
use Rattle.dialect_defs.specs.declared.entry.Arity.{Arity}
use Rattle.dialect_defs.specs.declared.entry.Arity.TheVariants as arity
use Rattle.dialect_defs.specs.declared.entry.Entry.{Entry}
use Rattle.dialect_defs.specs.declared.format.Element.{Element, out-Element}
use Rattle.dialect_defs.specs.declared.format.ElementKind.{ElementKind, out-ElementKind}
use Rattle.dialect_defs.specs.declared.format.ElementKind.TheOpen.{ElementKind-F}
use Rattle.dialect_defs.specs.declared.format.TypeArg.{TypeArg}
use Rattle.dialect_defs.specs.declared.format.TypeArg.TheVariants as arg
use Rattle.format_checker.specs.declared.look.Look.{Look}
use Rattle.format_checker.specs.declared.look.Look.TheVariants as look

-- what an element shows, by its form
abbrev pub Kind : Type 0
Kind = ElementKind-F ElementKind Element

abbrev pub form_of : ElementKind → Kind
form_of k = out-ElementKind k

abbrev pub kind_of : Element → Kind
kind_of e = form_of (out-Element e).kind

-- ---- entries; a number past the last says nothing

-- the arity of an entry
abbrev pub arity_at : List Entry → ℕ → Arity
arity_at entries i = elim (slice_get entries i) [ Some e ↦ e.arity | None ↦ arity.Single ]

abbrev pub is_single : Arity → Bool
is_single arity.Single = true
is_single arity.Optional = false
is_single arity.Variadic = false

-- some entry is single
abbrev pub has_single : List Entry → Bool
has_single entries = list_any (λ e. is_single e.arity) entries

-- the attribute may be missing
abbrev pub is_optional : OpDef → ℕ → Bool
is_optional op i = elim (slice_get op.attrs i) [ Some e ↦ e.optional | None ↦ false ]

-- the attribute is always the unit value
abbrev pub is_unit : OpDef → ℕ → Bool
is_unit op i = elim (slice_get op.attrs i) [ Some e ↦ e.unit | None ↦ false ]

-- ---- looks

-- these words
abbrev pub words : List Text → List Look
words [] = []
words (w ∷ ws) = look.Word w ∷ words ws

-- the words that are types, but for the names of integer types
abbrev pub plain_words : List Text
plain_words =
    codes "index" ∷ codes "none" ∷ codes "bf16" ∷ codes "f16" ∷ codes "tf32" ∷ codes "f32"
    ∷ codes "f64" ∷ codes "f80" ∷ codes "f128" ∷ []

-- the words with which other types begin
abbrev pub former_words : List Text
former_words =
    codes "tuple" ∷ codes "vector" ∷ codes "tensor" ∷ codes "memref" ∷ codes "complex" ∷ []

-- the looks with which a type begins
abbrev pub type_looks : List Look
type_looks =
    look.Punct c.LParen ∷ look.TypeName ∷ look.IntWord ∷ (words plain_words ++ words former_words)

-- the words with which an attribute begins that is no type
abbrev pub attr_words : List Text
attr_words = codes "true" ∷ codes "false" ∷ codes "unit" ∷ codes "array" ∷ []

-- the looks with which an attribute begins
abbrev pub attr_looks : List Look
attr_looks =
    type_looks
    ++ (look.Punct c.LBrace ∷ look.Punct c.LSquare ∷ look.Punct c.Minus ∷ look.Symbol
    ∷ look.AttrName ∷ look.Integer ∷ look.Str ∷ words attr_words)

-- the looks with which a number begins
abbrev pub number_looks : List Look
number_looks = look.Punct c.Minus ∷ look.Integer ∷ []

-- ---- an element by itself

-- a list of types may be empty
abbrev pub no_type : OpDef → TypeArg → Bool
no_type op (arg.Operand i) = not (is_single (arity_at op.operands i))
no_type op (arg.Result i) = not (is_single (arity_at op.results i))
no_type op arg.AllOperands = not (has_single op.operands)
no_type op arg.AllResults = not (has_single op.results)

-- the piece may be empty
abbrev pub column_empty : OpDef → Kind → Bool
column_empty op (ElementKind-F.Word w) = false
column_empty op (ElementKind-F.Punct class) = false
column_empty op ElementKind-F.Space = true
column_empty op ElementKind-F.Newline = true
column_empty op ElementKind-F.Empty = true
column_empty op (ElementKind-F.Operand i) = not (is_single (arity_at op.operands i))
column_empty op (ElementKind-F.Attr i) = is_optional op i
column_empty op (ElementKind-F.Region i) = false
column_empty op (ElementKind-F.Successor i) = false
column_empty op (ElementKind-F.SymbolName i) = is_optional op i
column_empty op (ElementKind-F.IntText i k) = is_optional op i
column_empty op (ElementKind-F.Types a) = no_type op a
column_empty op (ElementKind-F.Functional a b) = false
column_empty op ElementKind-F.Dict = true
column_empty op ElementKind-F.DictKeyword = true
column_empty op (ElementKind-F.Group first otherwise anchor) = true

-- with what a piece begins that isn't empty
abbrev pub column_starts : Kind → List Look
column_starts (ElementKind-F.Word w) = look.Word w ∷ []
column_starts (ElementKind-F.Punct class) = look.Punct class ∷ []
column_starts ElementKind-F.Space = []
column_starts ElementKind-F.Newline = []
column_starts ElementKind-F.Empty = []
column_starts (ElementKind-F.Operand i) = look.Value ∷ []
column_starts (ElementKind-F.Attr i) = attr_looks
column_starts (ElementKind-F.Region i) = look.Punct c.LBrace ∷ []
column_starts (ElementKind-F.Successor i) = look.Block ∷ []
column_starts (ElementKind-F.SymbolName i) = look.Symbol ∷ []
column_starts (ElementKind-F.IntText i k) = number_looks
column_starts (ElementKind-F.Types a) = type_looks
column_starts (ElementKind-F.Functional a b) = look.Punct c.LParen ∷ []
column_starts ElementKind-F.Dict = look.Punct c.LBrace ∷ []
column_starts ElementKind-F.DictKeyword = look.Word (codes "attributes") ∷ []
column_starts (ElementKind-F.Group first otherwise anchor) = []

-- a comma, where a list goes on
abbrev pub comma_of : Arity → List Look
comma_of arity.Single = []
comma_of arity.Optional = []
comma_of arity.Variadic = look.Punct c.Comma ∷ []

-- the comma of a list of types
abbrev pub comma_of_types : OpDef → TypeArg → List Look
comma_of_types op (arg.Operand i) = comma_of (arity_at op.operands i)
comma_of_types op (arg.Result i) = comma_of (arity_at op.results i)
comma_of_types op arg.AllOperands = look.Punct c.Comma ∷ []
comma_of_types op arg.AllResults = look.Punct c.Comma ∷ []

-- the looks that go on with types
abbrev pub type_opens : OpDef → TypeArg → List Look
type_opens op a = look.Punct c.Less ∷ comma_of_types op a

-- the looks that go on with an attribute
abbrev pub attr_opens : List Look
attr_opens = look.Punct c.Less ∷ look.Punct c.Colon ∷ look.Punct c.ColonColon ∷ []

-- with what a piece goes on
abbrev pub column_open : OpDef → Kind → List Look
column_open op (ElementKind-F.Word w) = []
column_open op (ElementKind-F.Punct class) = []
column_open op ElementKind-F.Space = []
column_open op ElementKind-F.Newline = []
column_open op ElementKind-F.Empty = []
column_open op (ElementKind-F.Operand i) = comma_of (arity_at op.operands i)
column_open op (ElementKind-F.Attr i) = attr_opens
column_open op (ElementKind-F.Region i) = []
column_open op (ElementKind-F.Successor i) = []
column_open op (ElementKind-F.SymbolName i) = []
column_open op (ElementKind-F.IntText i k) = []
column_open op (ElementKind-F.Types a) = type_opens op a
column_open op (ElementKind-F.Functional a b) = look.Punct c.Less ∷ []
column_open op ElementKind-F.Dict = []
column_open op ElementKind-F.DictKeyword = []
column_open op (ElementKind-F.Group first otherwise anchor) = []

-- ---- anchors

-- an attribute that is always the unit value
abbrev pub shows_unit : OpDef → Kind → Bool
shows_unit op (ElementKind-F.Attr i) = is_unit op i
shows_unit op _ = false

-- an element of a branch, where it is the anchor and where it isn't
abbrev pub counts_empty : OpDef → Bool → Kind → Bool
counts_empty op anchor k = if anchor then shows_unit op k else column_empty op k

-- something is spelled of it
abbrev pub is_spelled : OpDef → Bool → Kind → Bool
is_spelled op anchor k = not anchor || not (shows_unit op k)

abbrev pub counts_starts : OpDef → Bool → Kind → List Look
counts_starts op anchor k = if is_spelled op anchor k then column_starts k else []

abbrev pub counts_open : OpDef → Bool → Kind → List Look
counts_open op anchor k = if is_spelled op anchor k then column_open op k else []

-- the place is that of the anchor
abbrev pub is_anchor : Option ℕ → ℕ → Bool
is_anchor None i = false
is_anchor (Some anchor) i = i == anchor

-- ---- branches, from the element with the number i on

abbrev pub branch_empty : OpDef → Option ℕ → ℕ → List Element → Bool
branch_empty op anchor i [] = true
branch_empty op anchor i (e ∷ es) =
    counts_empty op (is_anchor anchor i) (kind_of e)
    && branch_empty op anchor (i + 1) es

-- up to and with the first that isn't empty
abbrev pub branch_starts : OpDef → Option ℕ → ℕ → List Element → List Look
branch_starts op anchor i [] = []
branch_starts op anchor i (e ∷ es) =
    let k = kind_of e in
    counts_starts op (is_anchor anchor i) k
    ++ (if counts_empty op (is_anchor anchor i) k then branch_starts op anchor (i + 1) es else [])

-- behind all of the elements stand only such as may be empty
abbrev pub branch_open : OpDef → Option ℕ → ℕ → List Element → List Look
branch_open op anchor i [] = []
branch_open op anchor i (e ∷ es) =
    (if branch_empty op anchor (i + 1) es
    then counts_open op (is_anchor anchor i) (kind_of e) else [])
    ++ branch_open op anchor (i + 1) es

-- ---- elements

-- a group is empty where its other branch is
abbrev pub may_be_empty : OpDef → Kind → Bool
may_be_empty op (ElementKind-F.Group first otherwise anchor) = branch_empty op None 0 otherwise
may_be_empty op k = column_empty op k

-- a group begins as one of its branches does
abbrev pub starts : OpDef → Kind → List Look
starts op (ElementKind-F.Group first otherwise anchor) =
    branch_starts op (Some anchor) 0 first ++ branch_starts op None 0 otherwise
starts op k = column_starts k

-- and goes on as one of them does
abbrev pub continues : OpDef → Kind → List Look
continues op (ElementKind-F.Group first otherwise anchor) =
    branch_open op (Some anchor) 0 first ++ branch_open op None 0 otherwise
continues op k = column_open op k
