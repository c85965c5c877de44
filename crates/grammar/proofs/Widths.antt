-- Digits behind a number that is too great spell no width.
--
-- More digits make no smaller number, so the reader may stop at the first digit that is too much.
use Rattle.attr_value.specs.declared.kind.TheConstants.{WIDTH_LIMIT}
use Rattle.std.proofs.Common.{◌≡◌, ℕ, suc, ◌+◌, ◌-◌, ◌*◌, ◌<◌, Bool, true, false, ◌&&◌, ◌∷◌, length, drop, slice_index_or, nat_le, refl, arith}
use Rattle.std.proofs.Math.Seq.{drop-cons}
use Rattle.ir_lexer.specs.Spelling.{Text}
use Rattle.grammar.specs.Looks.{all_digits, decimal, spells_width}
use Rattle.grammar.proofs.Numbers.{decimal-grows}

never : (a b : Bool) → b ≡ false → (a && b) ≡ false
never true b e = e
never false b e = refl

past : (a limit : ℕ) → limit < a → nat_le a limit ≡ false
past a limit less = grind arith

-- a digit that makes the number too great spells no width, whatever follows
pub too-wide : (n b : ℕ) (t : Text) → WIDTH_LIMIT < n * 10 + (b - 48) → spells_width n (b ∷ t) ≡ false
too-wide n b t less =
    let great = decimal-grows (n * 10 + (b - 48)) t in
    never (all_digits (b ∷ t)) _ (past (decimal (n * 10 + (b - 48)) t) WIDTH_LIMIT (omega arith))

-- the same, of the digit at a place
pub too-wide-at : (ds : Text) (i n : ℕ) → i < length ds
    → WIDTH_LIMIT < n * 10 + (slice_index_or ds i 0 - 48) → spells_width n (drop i ds) ≡ false
too-wide-at ds i n inside less =
    rw (drop-cons ds i 0) (too-wide n (slice_index_or ds i 0) (drop (suc i) ds) less)
