-- How the lexer finds a token: by the table of `src/table.rt`.
--
-- These are the steps of the code over lists, and no definition of what a token is. That is
-- `IsNext` of `Tokens`, and `next_token` is proved to meet it; `tokens_from` is proved to meet
-- `TokensFrom`.
--
--   step s b                 the state behind a state and a byte
--   scan s whole end at t    the longest whole spelling of a text, as a state and an end
--   front t                  the class and the length of the token at the front of t
--   next_token src at        the token that comes next from a place on
--   tokens_behind src t      the tokens behind a token
use Rattle.std.specs.Prelude.{ℕ, zero, suc, ◌+◌, Bool, false, List, [], ◌∷◌, length, take, drop, get_or, if◌then◌else◌, ◌==◌, nat_le}
use Rattle.ir_lexer.specs.Classes.{same_class}
use Rattle.ir_lexer.specs.declared.class.Class.{Class}
use Rattle.ir_lexer.specs.declared.class.Class.TheVariants as c
use Rattle.ir_lexer.specs.declared.table.TheConstants.{COLUMN, STEP, WHOLE, START, FIRST_WHOLE}
use Rattle.ir_lexer.specs.Spelling.{Text}
use Rattle.ir_lexer.specs.Tokens.{Token, layout_len}

-- the column of a byte: bytes that all spellings take alike share one
abbrev pub column : ℕ → ℕ
column b = get_or COLUMN b 0

-- the state behind a state and a column
abbrev pub next : ℕ → ℕ → ℕ
next s k = get_or (get_or STEP s []) k 0

-- the state behind a state and a byte
unfoldable pub step : ℕ → ℕ → ℕ
step s b = next s (column b)

-- what was read up to this state is a whole spelling
unfoldable pub is_whole : ℕ → Bool
is_whole s = nat_le FIRST_WHOLE s

-- `Bad` where the state isn't whole
unfoldable pub class_at : ℕ → Class
class_at s = get_or WHOLE s c.Word

-- The state and the end of the longest whole spelling, from a state at a place on. The longest so
-- far ended in the state whole, at end. State 0 is where no spelling goes on.
abbrev pub scan : ℕ → ℕ → ℕ → ℕ → Text → ℕ × ℕ
scan state whole end at [] = (whole, end)
scan state whole end at (b ∷ t) =
    let s = step state b in
    if s == 0 then (whole, end)
    else (if is_whole s then scan s s (at + 1) (at + 1) t else scan s whole end (at + 1) t)

-- Before a whole spelling is found, the longest is state 0, whose class is `Bad`, with one byte.
unfoldable pub front : Text → Class × ℕ
front [] = (c.End, 0)
front (b ∷ t) = let r = scan START 0 1 0 (b ∷ t) in (class_at r.0, r.1)

-- the token of a class and a length at a place
abbrev pub cut : Text → ℕ → Class × ℕ → Token
cut src start f = record { class = f.0; text = take f.1 (drop start src); place = start }

-- behind the layout at the place, the front of the rest as a token
unfoldable pub next_token : Text → ℕ → Token
next_token src at =
    let start = at + layout_len false (drop at src) in cut src start (front (drop start src))

-- the tokens from a place on, at most n, up to and with the end
abbrev pub tokens_from : ℕ → Text → ℕ → List Token
tokens_from zero src at = []
tokens_from (suc n) src at =
    let t = next_token src at in
    t ∷ (if same_class t.class c.End then [] else tokens_from n src (t.place + length t.text))

-- a text has no more tokens than bytes, and its end
abbrev pub tokens_behind : Text → Token → List Token
tokens_behind src t =
    if same_class t.class c.End then []
    else tokens_from (suc (length src)) src (t.place + length t.text)
