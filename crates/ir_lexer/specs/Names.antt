-- The bytes that a spelling stands for.
--
-- A string's items stand for one byte each: an escape for the byte that it names, any other byte
-- for itself. A name is what follows the sign in `%x`, `^x`, `@x`, `!x` and `#x`; in `@"..."` it is
-- the bytes of the string. The functions are total: of texts that are no strings and no names, what
-- they give means nothing.
--
--   literal_bytes t    of a string, with its quotes
--   name_bytes t       of a name, with its sign
use Rattle.std.specs.Prelude.{ℕ, ◌+◌, ◌-◌, ◌*◌, Bool, ◌&&◌, ◌||◌, not, [], ◌∷◌, length, take, drop, if◌then◌else◌, ◌==◌, nat_le, slice_index}
use Rattle.ir_lexer.specs.Signs.{tab, line_feed, quote, backslash, letter_n, letter_t}
use Rattle.ir_lexer.specs.Spelling.{Text}

-- a byte is one of a range, its ends included
abbrev pub is_between : ℕ → ℕ → ℕ → Bool
is_between low high b = nat_le low b && nat_le b high

-- The number of a hexadecimal digit, in either case: `0` to `9` are the bytes 48 to 57, `A` to `F`
-- are 65 to 70, and `a` to `f` are 97 to 102. Of other bytes it is 0.
abbrev pub hexadecimal_value : ℕ → ℕ
hexadecimal_value b =
    if is_between 48 57 b then b - 48
    else (if is_between 65 70 b then b - 65 + 10
    else (if is_between 97 102 b then b - 97 + 10 else 0))

-- the byte that two hexadecimal digits name
abbrev pub two_digits : ℕ → ℕ → ℕ
two_digits b c = hexadecimal_value b * 16 + hexadecimal_value c

-- the bytes that make a whole escape behind a backslash: `n`, `t`, `"` and a backslash
abbrev pub is_short_escape : ℕ → Bool
is_short_escape b = (b == letter_n) || (b == letter_t) || (b == quote) || (b == backslash)

-- `\n` is a line feed and `\t` a tab; behind a backslash, `"` and a backslash are themselves
abbrev pub short_escape : ℕ → ℕ
short_escape b = if b == letter_n then line_feed else (if b == letter_t then tab else b)

-- The bytes of a row of items. An item is a byte that is no backslash, or a backslash and a byte
-- that makes a whole escape, or a backslash and two hexadecimal digits.
abbrev pub items_bytes : Text → Text
items_bytes [] = []
items_bytes (a ∷ []) = a ∷ []
items_bytes (a ∷ b ∷ []) =
    if a == backslash then short_escape b ∷ [] else a ∷ items_bytes (b ∷ [])
items_bytes (a ∷ b ∷ c ∷ t) =
    if not (a == backslash) then a ∷ items_bytes (b ∷ c ∷ t)
    else (if is_short_escape b then short_escape b ∷ items_bytes (c ∷ t)
    else two_digits b c ∷ items_bytes t)

-- the items stand between the quotes
abbrev pub literal_bytes : Text → Text
literal_bytes t = items_bytes (take (length t - 2) (drop 1 t))

-- what follows the sign, or the bytes of the string that does
abbrev pub name_bytes : Text → Text
name_bytes t = if slice_index t 1 == quote then literal_bytes (drop 1 t) else drop 1 t
