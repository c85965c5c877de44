-- Lines and columns, both counted from 1. A line ends behind its line feed; a column counts bytes.
--
--   line_at src at       one more than the line feeds before the place
--   column_at src at     one more than the bytes between the last of these, or the start of the
--                        text, and the place
use Rattle.std.specs.Prelude.{ℕ, ◌+◌, List, take, count_by, nat_eq, not}
use Rattle.std.specs.List.{suffix_len}
use Rattle.ir_lexer.specs.Signs.{line_feed}

-- one more than the line feeds before the place
abbrev pub line_at : List ℕ → ℕ → ℕ
line_at src at = 1 + count_by (λ b. nat_eq b line_feed) (take at src)

-- the bytes behind the last line feed are the longest end of the text before the place without one
abbrev pub column_at : List ℕ → ℕ → ℕ
column_at src at = 1 + suffix_len (λ b. not (nat_eq b line_feed)) (take at src)
