-- How the code finds a token: by its first byte.
--
-- These are the steps of the code over lists, and no definition of what a token is. That is
-- `IsNext` of `Tokens`, and `next_token` is proved to meet it.
--
--   front t                  the class and the length of the token at the front of t
--   next_token src at        the token that comes next from a place on
--   tokens_at src at         the tokens from a place on, up to and with the end
use Rattle.std.specs.Prelude.{ℕ, zero, suc, ◌+◌, ◌==◌, Bool, not, ◌&&◌, List, [], ◌∷◌, length, take, drop, bytes_eq, codes, if◌then◌else◌, nat_lt, max, Option, Some, None}
use Rattle.std.specs.List.{prefix_len}
use Rattle.ir_lexer.specs.Classes.{same_class}
use Rattle.ir_lexer.specs.declared.class.Class.{Class}
use Rattle.ir_lexer.specs.declared.class.Class.TheVariants as c
use Rattle.ir_lexer.specs.Spelling.{Text}
use Rattle.ir_lexer.specs.Tokens.{Token}
use Rattle.format_reader.specs.Spelling.{dollar, back_quote, is_name_byte, begins_id, goes_on_id, is_content, word_class, sign}
use Rattle.format_reader.specs.Tokens.{is_blank}

-- behind `$`
abbrev pub variable_front : Text → Class × ℕ
variable_front t =
    let n = prefix_len is_name_byte t in if n == 0 then (c.Bad, 1) else (c.ValueName, n + 1)

-- no back-quote
abbrev pub is_inside : ℕ → Bool
is_inside b = not (b == back_quote)

-- behind a back-quote
abbrev pub literal_front : Text → Class × ℕ
literal_front t =
    let n = prefix_len is_inside t in
    if nat_lt n (length t) && is_content (take n t) then (c.Str, n + 2) else (c.Bad, 1)

-- how long the keyword at the front is
abbrev pub keyword_len : Text → ℕ
keyword_len t =
    if bytes_eq (codes "attr-dict-with-keyword") (take 22 t) then 22
    else (if bytes_eq (codes "functional-type") (take 15 t) then 15
    else (if bytes_eq (codes "attr-dict") (take 9 t) then 9 else 0))

-- how long the word is at the front of a text that begins with one
abbrev pub word_len : Text → ℕ
word_len t = max (1 + prefix_len goes_on_id (drop 1 t)) (keyword_len t)

-- that word
abbrev pub word_front : Text → Class × ℕ
word_front t = let n = word_len t in (word_class (take n t), n)

-- the class of a byte, `Bad` where it is no sign
abbrev pub sign_or_bad : Option Class → Class
sign_or_bad None = c.Bad
sign_or_bad (Some class) = class

-- by the first byte
unfoldable pub front : Text → Class × ℕ
front [] = (c.End, 0)
front (b ∷ t) =
    if b == dollar then variable_front t
    else (if b == back_quote then literal_front t
    else (if begins_id b then word_front (b ∷ t) else (sign_or_bad (sign b), 1)))

-- the token of a class and a length at a place
abbrev pub cut : Text → ℕ → Class × ℕ → Token
cut src start f = record { class = f.0; text = take f.1 (drop start src); place = start }

-- behind the blanks at the place, the front of the rest as a token
unfoldable pub next_token : Text → ℕ → Token
next_token src at =
    let start = at + prefix_len is_blank (drop at src) in cut src start (front (drop start src))

-- the tokens from a place on, at most n, up to and with the end
abbrev pub tokens_from : ℕ → Text → ℕ → List Token
tokens_from zero src at = []
tokens_from (suc n) src at =
    let t = next_token src at in
    t ∷ (if same_class t.class c.End then [] else tokens_from n src (t.place + length t.text))

-- a text has no more tokens than bytes, and its end
abbrev pub tokens_behind : Text → Token → List Token
tokens_behind src t =
    if same_class t.class c.End then []
    else tokens_from (suc (length src)) src (t.place + length t.text)

-- the next token, and those behind it
abbrev pub tokens_at : Text → ℕ → List Token
tokens_at src at = let t = next_token src at in t ∷ tokens_behind src t
