-- Digits of a number that is cut down at a limit.
--
-- More digits make no smaller number, so what stands before them may be cut down first.
use Rattle.std.proofs.Common.{◌≡◌, ℕ, ◌+◌, ◌-◌, ◌*◌, ◌<◌, ◌≤◌, inl, inr, min, [], ◌∷◌, length}
use Rattle.std.proofs.Common.{drop, slice_index_or, sym, ◌∙◌, ap, arith}
use Rattle.std.proofs.lemmas.Bool.{cases_lt}
use Rattle.std.proofs.Math.Nat.{min-eq_left, min-eq_right}
use Rattle.std.proofs.lemmas.List.{drop_more}
use Rattle.grammar.specs.Looks.{decimal}
use Rattle.ir_lexer.specs.Spelling.{Text}

-- more digits make no smaller number
decimal-grows : (n : ℕ) (t : Text) → n ≤ decimal n t
decimal-grows n [] = omega arith
decimal-grows n (b ∷ t) = let later = decimal-grows (n * 10 + (b - 48)) t in omega arith

-- a number that is cut down before more digits
cut-before : (n limit : ℕ) (t : Text)
    → min (decimal (min n limit) t) limit ≡ min (decimal n t) limit
cut-before n limit t = elim (cases_lt n limit) [
  | inl less ↦ ap (λ m. min (decimal m t) limit) (min-eq_left (omega arith))
  | inr no_less ↦
      let cut : min n limit ≡ limit = min-eq_right no_less in
      let low : limit ≤ decimal (min n limit) t =
      let g = decimal-grows (min n limit) t in omega arith in
      let high : limit ≤ decimal n t = let g = decimal-grows n t in omega arith in
      min-eq_right low ∙ sym (min-eq_right high)
]

-- the next digit, of a number that is cut down behind it
pub decimal-cut-next : (ds : Text) (i n limit : ℕ) → i < length ds
    → min (decimal (min (n * 10 + (slice_index_or ds i 0 - 48)) limit) (drop (i + 1) ds)) limit
    ≡ min (decimal n (drop i ds)) limit
decimal-cut-next ds i n limit inside =
    rw (drop_more ds i 0 inside)
    (cut-before (n * 10 + (slice_index_or ds i 0 - 48)) limit (drop (i + 1) ds))
