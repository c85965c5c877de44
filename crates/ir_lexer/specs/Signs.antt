-- Bytes that have a name in the definitions of this crate.
use Rattle.std.specs.Prelude.{ℕ}

-- a tab
abbrev pub tab : ℕ
tab = 9

-- a line feed, which ends a line
abbrev pub line_feed : ℕ
line_feed = 10

-- a carriage return, which is a blank
abbrev pub carriage_return : ℕ
carriage_return = 13

-- a space
abbrev pub space : ℕ
space = 32

-- `"`
abbrev pub quote : ℕ
quote = 34

-- `/`
abbrev pub slash : ℕ
slash = 47

-- `\`
abbrev pub backslash : ℕ
backslash = 92

-- `n`
abbrev pub letter_n : ℕ
letter_n = 110

-- `t`
abbrev pub letter_t : ℕ
letter_t = 116
