-- The line and the column after one more byte.
use Rattle.std.proofs.Common.{◌≡◌, ℕ, ◌+◌, ◌<◌, ◌∷◌, ◌++◌, [], List, length, get_or, nat_eq, cond, Bool, arith, refl, add-one}
use Rattle.std.specs.List.{suffix_len}
use Rattle.std.proofs.Math.Seq.{take-suc}
use Rattle.std.proofs.lemmas.List.{reverse-append}
use Rattle.std.proofs.lemmas.Grind.{common_steps}
use Rattle.ir_lexer.specs.Place.{line_at, column_at}

-- one byte further, the line is one more exactly behind a line feed
pub line-more : (src : List ℕ) (i : ℕ) → i < length src
    → line_at src (i + 1) ≡ line_at src i + cond (nat_eq (get_or src i 0) 10) 1 0
line-more src i h = grind (arith, common_steps)

last-run : (p : ℕ → Bool) (xs : List ℕ) (x : ℕ)
    → suffix_len p (xs ++ x ∷ []) ≡ cond (p x) (1 + suffix_len p xs) 0
last-run p xs x = simp reverse-append refl

-- one byte further, the column is 1 behind a line feed, and else one more
pub column-more : (src : List ℕ) (i : ℕ) → i < length src
    → column_at src (i + 1) ≡ cond (nat_eq (get_or src i 0) 10) 1 (column_at src i + 1)
column-more src i h =
    rw (add-one, take-suc src i 0 h, last-run) (grind (arith, common_steps))

pub ruleset columns = (line-more, column-more)
