-- Digits of a number that is cut down at a limit.
--
-- More digits make no smaller number, so what stands before them may be cut down first.
use Rattle.std.proofs.Common.{◌≡◌, ℕ, ◌+◌, ◌-◌, ◌*◌, ◌<◌, ◌≤◌, inl, inr, min, [], ◌∷◌, length, drop, slice_index_or, sym, ◌∙◌, ap, arith}
use Rattle.std.proofs.lemmas.Bool.{cases_lt}
use Rattle.std.proofs.Math.Nat.{min-eq_left, min-eq_right}
use Rattle.std.proofs.lemmas.List.{drop_more}
use Rattle.grammar.specs.Looks.{decimal}
use Rattle.ir_lexer.specs.Names.{hexadecimal_value}
use Rattle.ir_lexer.specs.Spelling.{Text}
use Rattle.grammar.specs.Looks.{hexadecimal}

-- more digits make no smaller number
pub decimal-grows : (n : ℕ) (t : Text) → n ≤ decimal n t
decimal-grows n [] = omega arith
decimal-grows n (b ∷ t) = let later = decimal-grows (n * 10 + (b - 48)) t in omega arith

hexadecimal-grows : (n : ℕ) (t : Text) → n ≤ hexadecimal n t
hexadecimal-grows n [] = omega arith
hexadecimal-grows n (b ∷ t) =
    let later = hexadecimal-grows (n * 16 + hexadecimal_value b) t in omega arith

-- of a number that doesn't shrink, it may be cut down before
cut-before : (f : ℕ → ℕ) (grows : (n : ℕ) → n ≤ f n) (n limit : ℕ)
    → min (f (min n limit)) limit ≡ min (f n) limit
cut-before f grows n limit = elim (cases_lt n limit) [
  | inl less ↦ ap (λ m. min (f m) limit) (min-eq_left (omega arith))
  | inr no_less ↦
      let cut : min n limit ≡ limit = min-eq_right no_less in
      let low : limit ≤ f (min n limit) = let g = grows (min n limit) in omega arith in
      let high : limit ≤ f n = let g = grows n in omega arith in
      min-eq_right low ∙ sym (min-eq_right high)
]

-- the next digit, of a number that is cut down behind it
pub decimal-cut-next : (ds : Text) (i n limit : ℕ) → i < length ds
    → min (decimal (min (n * 10 + (slice_index_or ds i 0 - 48)) limit) (drop (i + 1) ds)) limit
    ≡ min (decimal n (drop i ds)) limit
decimal-cut-next ds i n limit inside =
    let rest = drop (i + 1) ds in
    rw (drop_more ds i 0 inside)
    (cut-before (λ m. decimal m rest) (λ m. decimal-grows m rest)
    (n * 10 + (slice_index_or ds i 0 - 48)) limit)

pub hexadecimal-cut-next : (ds : Text) (i n limit : ℕ) → i < length ds
    → min (hexadecimal (min (n * 16 + hexadecimal_value (slice_index_or ds i 0)) limit)
    (drop (i + 1) ds)) limit
    ≡ min (hexadecimal n (drop i ds)) limit
hexadecimal-cut-next ds i n limit inside =
    let rest = drop (i + 1) ds in
    rw (drop_more ds i 0 inside)
    (cut-before (λ m. hexadecimal m rest) (λ m. hexadecimal-grows m rest)
    (n * 16 + hexadecimal_value (slice_index_or ds i 0)) limit)
