-- What a grammar may ask of one token, and when two such demands can meet.
--
-- A look is plain data, so that questions on grammars compute: whether a token passes a look, and
-- whether some token passes two.
--
--   number_in t      the number that an `Integer` spells
--   Look             one demand on a token
--   passes l t       the token t meets the demand l
--   looks_meet p q   some token may pass both
--   any ls t         the token passes one of these
--   apart ps qs      no token passes one of the first and one of the second
use Rattle.std.specs.Prelude.{ℕ, ◌+◌, ◌-◌, ◌*◌, ◌==◌, Bool, true, false, not, ◌&&◌, ◌||◌, List, [], ◌∷◌, bytes_eq, nat_le, take, drop, length, codes, if◌then◌else◌}
use Rattle.attr_value.specs.declared.kind.TheConstants.{WIDTH_LIMIT}
use Rattle.ir_lexer.specs.declared.class.Class.{Class}
use Rattle.ir_lexer.specs.declared.class.Class.TheVariants.{Word, Integer}
use Rattle.ir_lexer.specs.Classes.{same_class}
use Rattle.ir_lexer.specs.Names.{hexadecimal_value}
use Rattle.ir_lexer.specs.Spelling.{Text}
use Rattle.ir_lexer.specs.Tokens.{Token}

-- a dot stands in the text
abbrev pub has_dot : Text → Bool
has_dot [] = false
has_dot (b ∷ t) = (b == 46) || has_dot t

-- the text has decimal digits alone
abbrev pub all_digits : Text → Bool
all_digits [] = true
all_digits (b ∷ t) = (nat_le 48 b && nat_le b 57) && all_digits t

-- the number that digits spell, behind a number that was spelled before
abbrev pub decimal : ℕ → Text → ℕ
decimal n [] = n
decimal n (b ∷ t) = decimal (n * 10 + (b - 48)) t

-- the number that hexadecimal digits spell, behind a number that was spelled before
abbrev pub hexadecimal : ℕ → Text → ℕ
hexadecimal n [] = n
hexadecimal n (b ∷ t) = hexadecimal (n * 16 + hexadecimal_value b) t

-- the number that an `Integer` spells: hexadecimal where an `x` stands second, else decimal
abbrev pub number_in : Text → ℕ
number_in (a ∷ b ∷ t) = if b == 120 then hexadecimal 0 t else decimal 0 (a ∷ b ∷ t)
number_in t = decimal 0 t

-- digits that spell, behind a number, one that is no greater than the greatest width
abbrev pub spells_width : ℕ → Text → Bool
spells_width n t = all_digits t && nat_le (decimal n t) WIDTH_LIMIT

-- digits without a leading zero that spell a number from 1 to the greatest width
abbrev pub is_width : Text → Bool
is_width [] = false
is_width (b ∷ t) = not (b == 48) && spells_width 0 (b ∷ t)

-- a prefix, and a width behind it
abbrev pub is_width_after : Text → Text → Bool
is_width_after prefix t =
    bytes_eq (take (length prefix) t) prefix && is_width (drop (length prefix) t)

-- `iN`, `siN` or `uiN`, the name of an integer type of width N
abbrev pub is_integer_word : Text → Bool
is_integer_word t =
    is_width_after (codes "i") t || (is_width_after (codes "si") t || is_width_after (codes "ui") t)

-- the text is one of these
abbrev pub is_among : List Text → Text → Bool
is_among [] t = false
is_among (w ∷ ws) t = bytes_eq t w || is_among ws t

-- One demand on a token.
pub data Look : Type 0 where
  -- a token of this class
  any_of : Class → Look
  -- this word
  word : Text → Look
  -- a word that is none of these
  other_word : List Text → Look
  -- the name of an integer type
  int_word : Look
  -- a token of this class in which a dot stands, or none
  dotted : Class → Look
  undotted : Class → Look
  -- an `Integer` whose number is no greater than this
  number_to : ℕ → Look

-- the class of the tokens that pass a look
abbrev pub class_of : Look → Class
class_of (any_of c) = c
class_of (word w) = Word
class_of (other_word ws) = Word
class_of int_word = Word
class_of (dotted c) = c
class_of (undotted c) = c
class_of (number_to n) = Integer

-- what a look asks of the text
abbrev pub text_fits : Look → Text → Bool
text_fits (any_of c) t = true
text_fits (word w) t = bytes_eq t w
text_fits (other_word ws) t = not (is_among ws t)
text_fits int_word t = is_integer_word t
text_fits (dotted c) t = has_dot t
text_fits (undotted c) t = not (has_dot t)
text_fits (number_to n) t = nat_le (number_in t) n

-- the token meets the demand
abbrev pub passes : Look → Token → Bool
passes l t = same_class t.class (class_of l) && text_fits l t.text

-- Whether one text may fit both. Where a look is one word, that is asked of the word.
abbrev pub texts_meet : Look → Look → Bool
texts_meet (word w) q = text_fits q w
texts_meet p (word w) = text_fits p w
texts_meet int_word (dotted c) = false
texts_meet (dotted c) int_word = false
texts_meet (dotted c) (undotted d) = false
texts_meet (undotted c) (dotted d) = false
texts_meet p q = true

-- some token may pass both
abbrev pub looks_meet : Look → Look → Bool
looks_meet p q = same_class (class_of p) (class_of q) && texts_meet p q

-- the token passes one of these
abbrev pub any : List Look → Token → Bool
any [] t = false
any (l ∷ ls) t = passes l t || any ls t

-- some token may pass the look and one of these
abbrev pub meets_one : Look → List Look → Bool
meets_one p [] = false
meets_one p (q ∷ qs) = looks_meet p q || meets_one p qs

-- some token may pass one of the first and one of the second
abbrev pub any_meet : List Look → List Look → Bool
any_meet [] qs = false
any_meet (p ∷ ps) qs = meets_one p qs || any_meet ps qs

-- no token passes one of the first and one of the second
abbrev pub apart : List Look → List Look → Bool
apart ps qs = not (any_meet ps qs)
