-- The canonical text of a value, as marks of a layout.
--
-- It is a function of the value alone. Each head says what stands round the marks of its kids:
--
--   integer, float and none types   one word
--   function types       the inputs and the results, each in parentheses, with `->` between them
--   tuple, complex       the word, and the kids in `<` and `>`
--   shaped types         the word, and the dimensions and the element type in `<` and `>`
--   numbers              the kept number, `:` and the type; those of `i1` are `true` and `false`
--   strings, unit        one token
--   arrays               the kids in `[` and `]`
--   dictionaries         the entries in `{` and `}`, in the order of the keys, which ascend
--   symbols              the parts, with `::` between them
--   dense arrays         `array`, and in `<` and `>` the type, and `:` and the items if there are
--                        some
--   dialects' values     the name, and the parameters in `<` and `>` if there are some
--
--   head_marks head kids   the marks of a head over what its kids gave
--   value_marks v          the marks of a value
use Rattle.std.specs.Prelude.{ℕ, suc, Bool, true, false, ◌==◌, List, [], ◌∷◌, ◌++◌, map, take, drop, ℤ, pos, negsuc, cond, codes, decimal}
use Rattle.std.specs.List.{zip, flat_map}
use Rattle.attr_value.specs.declared.head.Head.{Head}
use Rattle.attr_value.specs.declared.head.Head.TheVariants as h
use Rattle.attr_value.specs.declared.kind.Dim.{Dim}
use Rattle.attr_value.specs.declared.kind.IntKind.{IntKind}
use Rattle.attr_value.specs.declared.kind.IntKind.TheVariants.{Signless}
use Rattle.attr_value.specs.declared.kind.ShapeKind.{ShapeKind}
use Rattle.attr_value.specs.Values.{Value, Values, none, more}
use Rattle.ir_lexer.specs.declared.class.Class.{Class}
use Rattle.ir_lexer.specs.declared.class.Class.TheVariants as c
use Rattle.ir_lexer.specs.Spelling.{Text}
use Rattle.text_layout.specs.Lines.{Mark, token}
use Rattle.derived_printer.specs.Spelling.{string_text, symbol_text, key_class, key_text, int_text, float_text, shape_text, dims_text, is_truth_kind, truth_text, name_class, name_text}

abbrev pub Marks : Type 0
Marks = List Mark

-- ---- signs, words and brackets

-- how a class of signs is spelled
abbrev pub sign_text : Class → Text
sign_text c.Colon = codes ":"
sign_text c.ColonColon = codes "::"
sign_text c.Comma = codes ","
sign_text c.Equal = codes "="
sign_text c.Less = codes "<"
sign_text c.Greater = codes ">"
sign_text c.LParen = codes "("
sign_text c.RParen = codes ")"
sign_text c.LBrace = codes "{"
sign_text c.RBrace = codes "}"
sign_text c.LSquare = codes "["
sign_text c.RSquare = codes "]"
sign_text c.Arrow = codes "->"
sign_text c.Minus = codes "-"
sign_text _ = []

-- a sign
abbrev pub a_sign : Class → Marks
a_sign class = token class (sign_text class) ∷ []

-- a word
abbrev pub a_word : Text → Marks
a_word w = token c.Word w ∷ []

-- pieces, each behind a sign
abbrev pub behind_signs : Class → List Marks → Marks
behind_signs class ps = flat_map (λ p. a_sign class ++ p) ps

-- pieces with a sign between them
abbrev pub between_signs : Class → List Marks → Marks
between_signs class [] = []
between_signs class (p ∷ ps) = p ++ behind_signs class ps

-- pieces with commas between them
abbrev pub commas : List Marks → Marks
commas ps = between_signs c.Comma ps

abbrev pub in_parens : Marks → Marks
in_parens ms = a_sign c.LParen ++ (ms ++ a_sign c.RParen)

abbrev pub in_angles : Marks → Marks
in_angles ms = a_sign c.Less ++ (ms ++ a_sign c.Greater)

abbrev pub in_squares : Marks → Marks
in_squares ms = a_sign c.LSquare ++ (ms ++ a_sign c.RSquare)

abbrev pub in_braces : Marks → Marks
in_braces ms = a_sign c.LBrace ++ (ms ++ a_sign c.RBrace)

-- marks, and none where the list is empty
abbrev pub unless_empty : {A : Type 0} → List A → Marks → Marks
unless_empty [] ms = []
unless_empty (x ∷ xs) ms = ms

-- ---- the parts of a head

-- a number, with a `-` before it where it is negative
abbrev pub number_marks : ℤ → Marks
number_marks (pos n) = token c.Integer (decimal n) ∷ []
number_marks (negsuc n) = a_sign c.Minus ++ token c.Integer (decimal (suc n)) ∷ []

-- a number and its type, or a truth value
abbrev pub typed_number_marks : IntKind → ℤ → Marks
typed_number_marks kind n =
    cond (is_truth_kind kind) (a_word (truth_text n))
    (number_marks n ++ (a_sign c.Colon ++ a_word (int_text kind)))

-- an item of a dense array of integers so wide, in bits
abbrev pub item_marks : ℕ → ℤ → Marks
item_marks width n = cond (width == 1) (a_word (truth_text n)) (number_marks n)

-- `:` and the items, if there are any
abbrev pub items_behind : ℕ → List ℤ → Marks
items_behind width items =
    unless_empty items (a_sign c.Colon ++ commas (map (item_marks width) items))

-- a dense array
abbrev pub dense_marks : ℕ → List ℤ → Marks
dense_marks width items =
    a_word (codes "array")
    ++ in_angles (a_word (int_text (Signless width)) ++ items_behind width items)

-- a part of a symbol
abbrev pub part_marks : Text → Marks
part_marks name = token c.SymbolName (symbol_text name) ∷ []

-- a symbol, by its parts
abbrev pub symbol_marks : List Text → Marks
symbol_marks parts = between_signs c.ColonColon (map part_marks parts)

-- dimensions, which are one token
abbrev pub dims_marks : List Dim → Marks
dims_marks dims = unless_empty dims (token c.Dims (dims_text dims) ∷ [])

-- the head is that of the unit attribute
abbrev pub is_unit_head : Head → Bool
is_unit_head h.Unit = true
is_unit_head _ = false

-- what a kid gave: its head and its marks
abbrev pub Kid : Type 0
Kid = Head × Marks

abbrev pub marks_of : List Kid → List Marks
marks_of kids = map (λ kid. kid.1) kids

-- an entry of a dictionary, where the unit attribute is left out
abbrev pub entry_marks : Text × Kid → Marks
entry_marks e =
    token (key_class e.0) (key_text e.0)
    ∷ cond (is_unit_head e.1.0) [] (a_sign c.Equal ++ e.1.1)

-- ---- heads with kids

-- a function type, whose results stand in parentheses even where there is one
abbrev pub function_marks : ℕ → List Kid → Marks
function_marks inputs kids =
    in_parens (commas (marks_of (take inputs kids)))
    ++ (a_sign c.Arrow ++ in_parens (commas (marks_of (drop inputs kids))))

-- a shaped type
abbrev pub shaped_marks : ShapeKind → List Dim → List Kid → Marks
shaped_marks kind dims kids =
    a_word (shape_text kind) ++ in_angles (dims_marks dims ++ commas (marks_of kids))

-- a dialect's type or attribute, which has no `<` where it has no parameters
abbrev pub dialect_marks : Bool → Text → List Kid → Marks
dialect_marks is_type name kids =
    token (name_class is_type) (name_text is_type name)
    ∷ unless_empty kids (in_angles (commas (marks_of kids)))

-- ---- values

-- the marks of a head, over what its kids gave
abbrev pub head_marks : Head → List Kid → Marks
head_marks (h.Int kind) kids = a_word (int_text kind)
head_marks h.NoneType kids = a_word (codes "none")
head_marks (h.Float kind) kids = a_word (float_text kind)
head_marks (h.Function inputs) kids = function_marks inputs kids
head_marks h.Tuple kids = a_word (codes "tuple") ++ in_angles (commas (marks_of kids))
head_marks h.Complex kids = a_word (codes "complex") ++ in_angles (commas (marks_of kids))
head_marks (h.Shaped kind dims) kids = shaped_marks kind dims kids
head_marks (h.Number kind n) kids = typed_number_marks kind n
head_marks (h.Str bytes) kids = token c.Str (string_text bytes) ∷ []
head_marks h.Unit kids = a_word (codes "unit")
head_marks h.Array kids = in_squares (commas (marks_of kids))
head_marks (h.Dict keys) kids = in_braces (commas (map entry_marks (zip keys kids)))
head_marks (h.Symbol parts) kids = symbol_marks parts
head_marks (h.Dense width items) kids = dense_marks width items
head_marks (h.Dialect is_type name) kids = dialect_marks is_type name kids

-- what each of some kids gives
abbrev pub kid_marks : Values → List Kid
kid_marks none = []
kid_marks (more head kids rest) = (head, head_marks head (kid_marks kids)) ∷ kid_marks rest

-- the marks of a value
abbrev pub value_marks : Value → Marks
value_marks v = head_marks v.head (kid_marks v.kids)
