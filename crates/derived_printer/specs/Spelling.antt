-- How the parts of a value are spelled in its canonical text.
--
-- A string shows the bytes from 32 to 126 as they are, except `"` and a backslash. A backslash is
-- `\\`, and each other byte is `\` and its two hexadecimal digits, in upper case. A symbol or a key
-- that is a bare id is spelled as it is, and else as a string. Numbers are decimal, without leading
-- zeros.
--
--   string_text bytes     a string of these bytes, in its quotes
--   is_bare bytes         they are a bare id
--   symbol_text bytes     the symbol of this name
--   key_class, key_text   a key of a dictionary, as a word or as a string
--   int_text kind         the name of an integer type
--   float_text kind       the name of a float type
--   shape_text kind       the word of a shaped type
--   dims_text dims        dimensions, each with an `x` behind it
--   truth_text n          a number of one bit
--   name_text t name      the name of a dialect's value, with its sign
--   value_text n          the name of the SSA value of this number
--   block_text k          the name of the block of this number
use Rattle.std.specs.Prelude.{ℕ, ◌+◌, ◌/◌, ◌%◌, Bool, true, false, not, ◌&&◌, ◌||◌, ◌==◌, nat_lt, List, [], ◌∷◌, ◌++◌, ℤ, pos, negsuc, if◌then◌else◌, cond, codes, decimal}
use Rattle.std.specs.List.{flat_map}
use Rattle.attr_value.specs.declared.kind.IntKind.{IntKind}
use Rattle.attr_value.specs.declared.kind.IntKind.TheVariants.{Index, Signless, Signed, Unsigned}
use Rattle.attr_value.specs.declared.kind.FloatKind.{FloatKind}
use Rattle.attr_value.specs.declared.kind.FloatKind.TheVariants as float
use Rattle.attr_value.specs.declared.kind.Dim.{Dim}
use Rattle.attr_value.specs.declared.kind.Dim.TheVariants.{Known, Unknown}
use Rattle.attr_value.specs.declared.kind.ShapeKind.{ShapeKind}
use Rattle.attr_value.specs.declared.kind.ShapeKind.TheVariants as shape
use Rattle.ir_lexer.specs.declared.class.Class.{Class}
use Rattle.ir_lexer.specs.declared.class.Class.TheVariants as c
use Rattle.ir_lexer.specs.Names.{is_between}
use Rattle.ir_lexer.specs.Signs.{quote, backslash}
use Rattle.ir_lexer.specs.Spelling.{Text}

-- ---- strings

-- a string shows the byte as it is: from 32 to 126, and neither `"` nor a backslash
abbrev pub is_shown : ℕ → Bool
is_shown b = is_between 32 126 b && not ((b == quote) || (b == backslash))

-- a hexadecimal digit, in upper case: 48 is `0`, and 55 and ten is `A`
abbrev pub hex_digit : ℕ → ℕ
hex_digit d = if nat_lt d 10 then d + 48 else d + 55

-- what stands for one byte in a string
abbrev pub escaped_byte : ℕ → Text
escaped_byte b =
    if is_shown b then b ∷ []
    else (if b == backslash then backslash ∷ backslash ∷ []
    else backslash ∷ hex_digit (b / 16) ∷ hex_digit (b % 16) ∷ [])

-- what stands for bytes in a string
abbrev pub escaped : Text → Text
escaped bytes = flat_map escaped_byte bytes

-- a string, in its quotes
unfoldable pub string_text : Text → Text
string_text bytes = quote ∷ (escaped bytes ++ quote ∷ [])

-- ---- symbols and keys

-- a letter or `_`
abbrev pub is_bare_start : ℕ → Bool
is_bare_start b = is_between 65 90 b || (is_between 97 122 b || (b == 95))

-- a letter, a digit, or one of `_`, `$` and `.`
abbrev pub is_bare_byte : ℕ → Bool
is_bare_byte b = is_bare_start b || (is_between 48 57 b || ((b == 36) || (b == 46)))

-- all bytes may stand in a bare id
abbrev pub goes_on_bare : Text → Bool
goes_on_bare [] = true
goes_on_bare (b ∷ t) = is_bare_byte b && goes_on_bare t

-- a bare id: a letter or `_`, and then letters, digits, `_`, `$`, `.`
abbrev pub is_bare : Text → Bool
is_bare [] = false
is_bare (b ∷ t) = is_bare_start b && goes_on_bare t

-- a symbol, whose sign 64 is `@`
unfoldable pub symbol_text : Text → Text
symbol_text bytes = 64 ∷ cond (is_bare bytes) bytes (string_text bytes)

-- a key is a word or a string
abbrev pub key_class : Text → Class
key_class bytes = cond (is_bare bytes) c.Word c.Str

-- a key
abbrev pub key_text : Text → Text
key_text bytes = cond (is_bare bytes) bytes (string_text bytes)

-- ---- types

-- `index`, or `i`, `si` or `ui` and the width: 105 is `i`, 115 is `s` and 117 is `u`
unfoldable pub int_text : IntKind → Text
int_text Index = codes "index"
int_text (Signless width) = 105 ∷ decimal width
int_text (Signed width) = 115 ∷ 105 ∷ decimal width
int_text (Unsigned width) = 117 ∷ 105 ∷ decimal width

-- the name of a float type
abbrev pub float_text : FloatKind → Text
float_text float.Bf16 = codes "bf16"
float_text float.F16 = codes "f16"
float_text float.Tf32 = codes "tf32"
float_text float.F32 = codes "f32"
float_text float.F64 = codes "f64"
float_text float.F80 = codes "f80"
float_text float.F128 = codes "f128"

-- the word of a shaped type
abbrev pub shape_text : ShapeKind → Text
shape_text shape.Vector = codes "vector"
shape_text shape.Tensor = codes "tensor"
shape_text shape.Memref = codes "memref"

-- a dimension, with the `x` behind it, which is 120
abbrev pub dim_text : Dim → Text
dim_text (Known n) = decimal n ++ 120 ∷ []
dim_text Unknown = codes "?x"

-- dimensions, one behind another
unfoldable pub dims_text : List Dim → Text
dims_text dims = flat_map dim_text dims

-- ---- the rest

-- the kind is that of truth values, `i1`
abbrev pub is_truth_kind : IntKind → Bool
is_truth_kind (Signless width) = width == 1
is_truth_kind _ = false

-- a number of `i1` as it is kept: -1 is `true`, and 0 is `false`
abbrev pub truth_text : ℤ → Text
truth_text (pos n) = codes "false"
truth_text (negsuc n) = codes "true"

-- the class of the name of a dialect's type, or of its attribute
abbrev pub name_class : Bool → Class
name_class true = c.TypeName
name_class false = c.AttrName

-- its sign: 33 is `!`, and 35 is `#`
abbrev pub name_sign : Bool → ℕ
name_sign true = 33
name_sign false = 35

-- the name of a dialect's type or attribute, behind its sign
abbrev pub name_text : Bool → Text → Text
name_text is_type name = name_sign is_type ∷ name

-- ---- names that are numbers

-- an SSA value, by its number
unfoldable pub value_text : ℕ → Text
value_text n = codes "%" ++ decimal n

-- a block, by its number in its region
unfoldable pub block_text : ℕ → Text
block_text k = codes "^bb" ++ decimal k
