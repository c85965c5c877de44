-- More digits make no smaller number, so a reader may stop at the first digit that is too much.
use Rattle.std.proofs.Common.{◌≡◌, ℕ, suc, ◌+◌, ◌-◌, ◌*◌, ◌<◌, ◌≤◌, Bool, true, false, ◌&&◌, nat_le, [], ◌∷◌, length, drop, slice_index_or, refl, arith}
use Rattle.std.proofs.Math.Seq.{drop-cons}
use Rattle.ir_lexer.specs.declared.class.Class.TheVariants.{Integer}
use Rattle.ir_lexer.specs.Classes.{same_class}
use Rattle.ir_lexer.specs.Names.{hexadecimal_value}
use Rattle.ir_lexer.specs.Spelling.{Text}
use Rattle.ir_lexer.specs.Tokens.{Token}
use Rattle.grammar.specs.Looks.{decimal, hexadecimal, number_in, any_of, number_to, passes}
use Rattle.grammar.proofs.Meet.{and-true}

-- more decimal digits make no smaller number
pub decimal-grows : (n : ℕ) (t : Text) → n ≤ decimal n t
decimal-grows n [] = omega arith
decimal-grows n (b ∷ t) = let later = decimal-grows (n * 10 + (b - 48)) t in omega arith

hexadecimal-grows : (n : ℕ) (t : Text) → n ≤ hexadecimal n t
hexadecimal-grows n [] = omega arith
hexadecimal-grows n (b ∷ t) =
    let later = hexadecimal-grows (n * 16 + hexadecimal_value b) t in omega arith

-- with the digit at a place the number is no smaller than with that digit alone
pub decimal-at : (ds : Text) (i n : ℕ) → i < length ds
    → n * 10 + (slice_index_or ds i 0 - 48) ≤ decimal n (drop i ds)
decimal-at ds i n inside =
    rw (drop-cons ds i 0) (decimal-grows (n * 10 + (slice_index_or ds i 0 - 48)) (drop (suc i) ds))

-- the same of hexadecimal digits
pub hexadecimal-at : (ds : Text) (i n : ℕ) → i < length ds
    → n * 16 + hexadecimal_value (slice_index_or ds i 0) ≤ hexadecimal n (drop i ds)
hexadecimal-at ds i n inside =
    rw (drop-cons ds i 0)
    (hexadecimal-grows (n * 16 + hexadecimal_value (slice_index_or ds i 0)) (drop (suc i) ds))

-- a token of another class is no number that is no greater than n
pub number-other : (n : ℕ) (t : Token) → passes (any_of Integer) t ≡ false
    → passes (number_to n) t ≡ false
number-other n t h = go (same_class t.class Integer) (nat_le (number_in t.text) n) h
  where
    go : (a b : Bool) → (a && true) ≡ false → (a && b) ≡ false
    go true b e = absurd (cc)
    go false b e = refl

-- nor is a greater number
pub number-great : (n : ℕ) (t : Token) → (number_in t.text < n + 1 → ⊥)
    → passes (number_to n) t ≡ false
number-great n t h =
    go (same_class t.class Integer) (nat_le (number_in t.text) n)
    (let more : n < number_in t.text = omega (arith, h) in grind (arith, more))
  where
    go : (a b : Bool) → b ≡ false → (a && b) ≡ false
    go true b e = e
    go false b e = refl

-- any other is one
pub number-fits : (n : ℕ) (t : Token) → passes (any_of Integer) t ≡ true → number_in t.text < n + 1
    → passes (number_to n) t ≡ true
number-fits n t h less =
    rw (and-true (same_class t.class Integer) true h).0 (grind (arith, less))
