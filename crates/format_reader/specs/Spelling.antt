-- How the tokens of a format text are spelled.
--
--   variable    `$`, and then one or more letters, digits and `_`
--   literal     in back-quotes: a bare id, a sign, a space, a line feed (as that byte or as `\n`),
--               or nothing
--   word        a bare id: a letter or `_`, and then letters, digits, `_`, `$`, `.`
--               or one of the keywords with a dash
--   sign        one of `( ) : , ? ^ < >`
--
-- Tokens have the classes of the IR's tokens, so that a format's grammar is one over such tokens: a
-- variable is a `ValueName`, a literal a `Str`, `^` a `BlockName`. A word that is a kind of
-- numbers, `index` or an integer type of 1 to 64 bits, is a `TypeName`; any other is a `Word`.
--
--   class_of t     the class that the whole text t spells, or none
--   content_of t   what stands between the back-quotes
--   mark t         what a literal that is no word stands for
--   number_kind t  the kind of numbers that a word names
use Rattle.std.specs.Prelude.{ℕ, ◌+◌, ◌-◌, ◌*◌, ◌==◌, Bool, false, ◌&&◌, ◌||◌, List, [], ◌∷◌, ◌++◌, length, take, drop, bytes_eq, nat_le, codes, if◌then◌else◌, Option, Some, None, option_map, is_some}
use Rattle.std.specs.Char.{is_ascii_alphabetic, is_ascii_alphanumeric}
use Rattle.std.specs.List.{list_all}
use Rattle.attr_value.specs.declared.kind.IntKind.{IntKind}
use Rattle.attr_value.specs.declared.kind.IntKind.TheVariants.{Index, Signless, Signed, Unsigned}
use Rattle.ir_lexer.specs.declared.class.Class.{Class}
use Rattle.ir_lexer.specs.declared.class.Class.TheVariants as c
use Rattle.ir_lexer.specs.Names.{is_between}
use Rattle.ir_lexer.specs.Spelling.{Text}
use Rattle.grammar.specs.Looks.{is_among}
use Rattle.dialect_defs.specs.declared.raw_format.RawKind.{RawKind}
use Rattle.dialect_defs.specs.declared.raw_format.RawKind.TheVariants as kind

-- ---- bytes

-- `$`
abbrev pub dollar : ℕ
dollar = 36

-- a back-quote
abbrev pub back_quote : ℕ
back_quote = 96

-- of the name of a variable: a letter, a digit or `_`
abbrev pub is_name_byte : ℕ → Bool
is_name_byte b = is_ascii_alphanumeric b || (b == 95)

-- of a bare id, at its front: a letter or `_`
abbrev pub begins_id : ℕ → Bool
begins_id b = is_ascii_alphabetic b || (b == 95)

-- of a bare id, behind its front: a letter, a digit, `_`, `$` or `.`
abbrev pub goes_on_id : ℕ → Bool
goes_on_id b = is_ascii_alphanumeric b || (b == 95) || (b == 36) || (b == 46)

-- ---- variables and words

-- `$`, and one or more bytes of a name
abbrev pub is_variable : Text → Bool
is_variable [] = false
is_variable (b ∷ []) = false
is_variable (b ∷ t) = (b == dollar) && list_all is_name_byte t

-- a letter or `_`, and then letters, digits, `_`, `$`, `.`
abbrev pub is_bare_id : Text → Bool
is_bare_id [] = false
is_bare_id (b ∷ t) = begins_id b && list_all goes_on_id t

-- the words in which a dash stands
abbrev pub keywords : List Text
keywords =
    codes "attr-dict-with-keyword" ∷ codes "functional-type" ∷ codes "attr-dict" ∷ []

-- a bare id or a keyword with a dash; both begin as a bare id does
abbrev pub is_word : Text → Bool
is_word [] = false
is_word (b ∷ t) = begins_id b && (list_all goes_on_id t || is_among keywords (b ∷ t))

-- a number from 1 to 64
abbrev pub narrow : ℕ → Option ℕ
narrow n = if nat_le 1 n && nat_le n 64 then Some n else None

-- the number of a decimal digit: `0` is the byte 48
abbrev pub digit : ℕ → ℕ
digit b = b - 48

-- the width that one or two decimal digits spell, without a leading zero
abbrev pub narrow_width : Text → Option ℕ
narrow_width (a ∷ []) = if is_between 48 57 a then narrow (digit a) else None
narrow_width (a ∷ b ∷ []) =
    if is_between 49 57 a && is_between 48 57 b then narrow (digit a * 10 + digit b) else None
narrow_width _ = None

-- the kind of integer type that is named by a prefix and a width
abbrev pub kind_after : Text → (ℕ → IntKind) → Text → Option IntKind
kind_after prefix kind t =
    if bytes_eq prefix (take (length prefix) t)
    then option_map kind (narrow_width (drop (length prefix) t))
    else None

-- the first that there is
abbrev pub first_of : {A : Type 0} → Option A → Option A → Option A
first_of (Some a) b = Some a
first_of None b = b

-- `index`, or `iN`, `siN` or `uiN` with N from 1 to 64
abbrev pub number_kind : Text → Option IntKind
number_kind t =
    if bytes_eq t (codes "index") then Some Index
    else first_of (kind_after (codes "i") Signless t)
    (first_of (kind_after (codes "si") Signed t) (kind_after (codes "ui") Unsigned t))

-- the class of a word
abbrev pub word_class : Text → Class
word_class t = if is_some (number_kind t) then c.TypeName else c.Word

-- ---- literals

-- the signs of one byte that a literal may be: `: , = < > ( ) { } [ ] ? + *`
abbrev pub literal_sign : ℕ → Option Class
literal_sign b =
    if b == 58 then Some c.Colon
    else (if b == 44 then Some c.Comma
    else (if b == 61 then Some c.Equal
    else (if b == 60 then Some c.Less
    else (if b == 62 then Some c.Greater
    else (if b == 40 then Some c.LParen
    else (if b == 41 then Some c.RParen
    else (if b == 123 then Some c.LBrace
    else (if b == 125 then Some c.RBrace
    else (if b == 91 then Some c.LSquare
    else (if b == 93 then Some c.RSquare
    else (if b == 63 then Some c.Question
    else (if b == 43 then Some c.Plus
    else (if b == 42 then Some c.Star else None)))))))))))))

-- a space, a line feed, or a sign of one byte
abbrev pub byte_mark : ℕ → Option RawKind
byte_mark b =
    if b == 32 then Some kind.Space
    else (if b == 10 then Some kind.Newline
    else option_map (λ class. kind.Punct class) (literal_sign b))

-- `\n` is a line feed, and `->` a sign of two bytes
abbrev pub pair_mark : ℕ → ℕ → Option RawKind
pair_mark a b =
    if (a == 92) && (b == 110) then Some kind.Newline
    else (if (a == 45) && (b == 62) then Some (kind.Punct c.Arrow) else None)

-- what a literal stands for that is no word: white space, nothing, or a sign
abbrev pub mark : Text → Option RawKind
mark [] = Some kind.Empty
mark (a ∷ []) = byte_mark a
mark (a ∷ b ∷ []) = pair_mark a b
mark _ = None

-- a bare id, or what else a literal may be
abbrev pub is_content : Text → Bool
is_content t = is_bare_id t || is_some (mark t)

-- the first of two texts, where the second closes it
abbrev pub is_closed : Text → Bool
is_closed t =
    let content = take (length t - 1) t in
    bytes_eq t (content ++ back_quote ∷ []) && is_content content

-- a content in back-quotes
abbrev pub is_literal : Text → Bool
is_literal [] = false
is_literal (b ∷ t) = (b == back_quote) && is_closed t

-- what stands between the back-quotes
abbrev pub content_of : Text → Text
content_of t = take (length t - 2) (drop 1 t)

-- what there is; a text that may stand in back-quotes has a mark, or is a word
abbrev pub or_empty : Option RawKind → RawKind
or_empty None = kind.Empty
or_empty (Some k) = k

-- what a literal stands for, by its content
abbrev pub literal_kind : Text → RawKind
literal_kind t = if is_bare_id t then kind.Word t else or_empty (mark t)

-- ---- signs

-- the signs of a format text: `( ) : , ? ^ < >`
abbrev pub sign : ℕ → Option Class
sign b =
    if b == 40 then Some c.LParen
    else (if b == 41 then Some c.RParen
    else (if b == 58 then Some c.Colon
    else (if b == 44 then Some c.Comma
    else (if b == 63 then Some c.Question
    else (if b == 94 then Some c.BlockName
    else (if b == 60 then Some c.Less
    else (if b == 62 then Some c.Greater else None)))))))

-- a text that is a sign
abbrev pub sign_class : Text → Option Class
sign_class (b ∷ []) = sign b
sign_class _ = None

-- ---- all tokens

-- the class that a whole text spells
abbrev pub class_of : Text → Option Class
class_of t =
    if is_variable t then Some c.ValueName
    else (if is_literal t then Some c.Str
    else (if is_word t then Some (word_class t) else sign_class t))
