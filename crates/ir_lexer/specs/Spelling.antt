-- How each class of tokens is spelled.
--
-- A spelling is a regular expression over bytes, as data, and `Fits` says which texts it stands
-- for. The table of the classes comes last; before it stand the words of which it is made.
--
--   Text                    a list of bytes
--   Fits r t                the text t is one of those that r stands for
--   r & s, r or s           the one and then the other; one of the two
--   some r, maybe r         one or more times; once or not at all
--   exactly t               the text t alone
--   one_of t, range t       one byte of t; one byte from the first of t to the second
--   Spells class t          the text t is a spelling of the class
use Rattle.std.specs.Prelude.{◌≡◌, ℕ, ◌≤◌, List, [], ◌∷◌, ◌++◌, ◌⊎◌, codes}
use Rattle.std.specs.List.{concat}
use Rattle.ir_lexer.specs.declared.class.Class.{Class}
use Rattle.ir_lexer.specs.declared.class.Class.TheVariants as c

-- a list of bytes, as numbers
abbrev pub Text : Type 0
Text = List ℕ

-- a regular expression over bytes
pub data Spelling : Type 0 where
  -- no text at all
  never : Spelling
  -- the text without bytes
  empty : Spelling
  -- one byte, from the first to the second
  between : ℕ → ℕ → Spelling
  -- the one and then the other
  both : Spelling → Spelling → Spelling
  -- one of the two
  either : Spelling → Spelling → Spelling
  -- any number of times, also not at all
  many : Spelling → Spelling

-- each text of a list has the property
abbrev pub EachText : (Text → Type 0) → List Text → Type 0
EachText P [] = Unit {0}
EachText P (t ∷ ts) = P t × EachText P ts

-- the text is one of those that a regular expression stands for
abbrev pub Fits : Spelling → Text → Type 0
Fits never t = ⊥
Fits empty t = t ≡ []
Fits (between low high) t = (b : ℕ) × (t ≡ b ∷ []) × (low ≤ b) × (b ≤ high)
Fits (both r s) t = (front back : Text) × (t ≡ front ++ back) × Fits r front × Fits s back
Fits (either r s) t = Fits r t ⊎ Fits s t
Fits (many r) t = (pieces : List Text) × (t ≡ concat pieces) × EachText (Fits r) pieces

-- ---- words for regular expressions

infixr 6 ◌&◌
-- the one and then the other
infixr 5 ◌or◌
abbrev pub ◌&◌ : Spelling → Spelling → Spelling
r & s = both r s

-- one of the two
abbrev pub ◌or◌ : Spelling → Spelling → Spelling
r or s = either r s

-- one or more times
abbrev pub some : Spelling → Spelling
some r = r & many r

-- once or not at all
abbrev pub maybe : Spelling → Spelling
maybe r = empty or r

-- this text alone
abbrev pub exactly : Text → Spelling
exactly [] = empty
exactly (b ∷ []) = between b b
exactly (b ∷ t) = between b b & exactly t

-- one of these bytes
abbrev pub one_of : Text → Spelling
one_of [] = never
one_of (b ∷ []) = between b b
one_of (b ∷ t) = between b b or one_of t

-- one byte, from the first of two to the second
abbrev pub range : Text → Spelling
range (low ∷ high ∷ []) = between low high
range _ = never

-- ---- the parts of tokens

-- a decimal digit
abbrev pub digit : Spelling
digit = range (codes "09")

-- a letter of either case
abbrev pub letter : Spelling
letter = range (codes "AZ") or range (codes "az")

-- a digit, or a letter up to F in either case
abbrev pub hexadecimal : Spelling
hexadecimal = digit or range (codes "AF") or range (codes "af")

-- one or more digits
abbrev pub digits : Spelling
digits = some digit

-- a letter, or one of `$ . _ -`
abbrev pub mark : Spelling
mark = letter or one_of (codes "$._-")

-- a suffix id that isn't digits
abbrev pub name : Spelling
name = mark & many (digit or mark)

-- digits; or a letter or one of `$ . _ -`, and then letters, digits and `$ . _ -`
abbrev pub suffix_id : Spelling
suffix_id = digits or name

-- a letter or `_`, and then letters, digits, `_`, `$`, `.`
abbrev pub bare_id : Spelling
bare_id = (letter or one_of (codes "_")) & many (letter or digit or one_of (codes "_$."))

-- digits; or `0x` and one or more hexadecimal digits
abbrev pub integer : Spelling
integer = digits or (exactly (codes "0x") & some hexadecimal)

-- `e` or `E`, an optional sign, and digits
abbrev pub exponent : Spelling
exponent = one_of (codes "eE") & maybe (one_of (codes "+-")) & digits

-- digits, `.`, any digits, and an optional exponent
abbrev pub float : Spelling
float = digits & exactly (codes ".") & many digit & maybe exponent

-- one or more of: `?`, or digits that don't begin with 0, and an `x` behind each
abbrev pub dims : Spelling
dims = some ((exactly (codes "?") or (range (codes "19") & many digit)) & exactly (codes "x"))

-- A byte other than 10 to 13 (line feed, vertical tab, form feed, carriage return), 34 (`"`) and 92
-- (a backslash). So a string may have a raw tab, and any byte from 128 on.
abbrev pub plain_byte : Spelling
plain_byte = between 0 9 or between 14 33 or between 35 91 or between 93 255

-- a backslash, and `"`, a backslash, `n`, `t` or two hexadecimal digits
abbrev pub escape : Spelling
escape = exactly (codes "\\") & (one_of (codes "\"\\nt") or (hexadecimal & hexadecimal))

-- `"`, items, `"`
abbrev pub string : Spelling
string = exactly (codes "\"") & many (plain_byte or escape) & exactly (codes "\"")

-- ---- the classes

-- the spelling of each class
abbrev pub spelling : Class → Spelling
spelling c.Word = bare_id
spelling c.Integer = integer
spelling c.Float = float
spelling c.Dims = dims
spelling c.Str = string
spelling c.ValueName = exactly (codes "%") & suffix_id
spelling c.BlockName = exactly (codes "^") & suffix_id
spelling c.SymbolName = exactly (codes "@") & (suffix_id or string)
spelling c.TypeName = exactly (codes "!") & suffix_id
spelling c.AttrName = exactly (codes "#") & name
spelling c.ResultNumber = exactly (codes "#") & digits
spelling c.Colon = exactly (codes ":")
spelling c.ColonColon = exactly (codes "::")
spelling c.Comma = exactly (codes ",")
spelling c.Equal = exactly (codes "=")
spelling c.Less = exactly (codes "<")
spelling c.Greater = exactly (codes ">")
spelling c.LParen = exactly (codes "(")
spelling c.RParen = exactly (codes ")")
spelling c.LBrace = exactly (codes "{")
spelling c.RBrace = exactly (codes "}")
spelling c.LSquare = exactly (codes "[")
spelling c.RSquare = exactly (codes "]")
spelling c.Arrow = exactly (codes "->")
spelling c.Minus = exactly (codes "-")
spelling c.Question = exactly (codes "?")
spelling c.Plus = exactly (codes "+")
spelling c.Star = exactly (codes "*")
-- these two are what a token is where no spelling stands
spelling c.Bad = never
spelling c.End = never

-- the text is a spelling of the class
unfoldable pub Spells : Class → Text → Type 0
Spells class t = Fits (spelling class) t
