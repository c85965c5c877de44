-- Decimals give their numbers back.
--
-- By the steps in which a decimal is made: the number of a tenth of it, and one digit more.
use Rattle.std.proofs.Common.{◌≡◌, ℕ, ◌+◌, ◌*◌, ◌-◌, ◌<◌, ◌≤◌, ◌/◌, ◌%◌, ◌^◌, ◌==◌, Bool, true, false, [], ◌∷◌, ◌++◌, refl, sym, ◌∙◌, ap, arith, decimal}
use Rattle.std.proofs.lemmas.Bool.{eqb-true}
use Rattle.std.proofs.lemmas.Fmt.{decimal_by_steps}
use Rattle.grammar.specs.Looks as look
use Rattle.grammar.specs.Looks.{all_digits}
use Rattle.grammar.proofs.Meet.{and-true}
use Rattle.ir_lexer.specs.Names.{is_between}
use Rattle.ir_lexer.specs.Spelling.{Text}
use Rattle.grammar.specs.Looks.{number_in}
use Rattle.derived_printer.proofs.Digits.{digits-decimal}

-- a decimal digit
abbrev pub is_digit : ℕ → Bool
is_digit b = is_between 48 57 b

decimal-append : (k : ℕ) (ds : Text) (d : ℕ)
    → look.decimal k (ds ++ d ∷ []) ≡ look.decimal k ds * 10 + (d - 48)
decimal-append k [] d = refl
decimal-append k (b ∷ ds) d = decimal-append (k * 10 + (b - 48)) ds d

-- a number of 64 bits has few digits
pub wide : (n : ℕ) → n < 2 ^ 64 → n < 10 ^ 64
wide n small = omega (arith, small)

-- the digits of a number spell it
pub decimal-value : (n : ℕ) → n < 2 ^ 64 → look.decimal 0 (decimal n) ≡ n
decimal-value n small = decimal_by_steps (λ n ds. look.decimal 0 ds ≡ n) one more n small
  where
    one : (n : ℕ) → n < 10 → look.decimal 0 ((48 + n) ∷ []) ≡ n
    one n lt = omega arith

    more : (n : ℕ) (ds : Text) → 10 ≤ n → look.decimal 0 ds ≡ n / 10
        → look.decimal 0 (ds ++ ((48 + n % 10) ∷ [])) ≡ n
    more n ds le x = decimal-append 0 ds (48 + n % 10) ∙ omega (arith, x)

-- they are digits alone
pub decimal-digits : (n : ℕ) → n < 2 ^ 64 → all_digits (decimal n) ≡ true
decimal-digits n small = (digits-decimal n (wide n small)).all

-- a digit is none of the bytes that aren't
pub no-digit : (k : ℕ) → is_digit k ≡ false → (b : ℕ) → is_digit b ≡ true → (b == k) ≡ false
no-digit k f b e = go (b == k) refl
  where
    go : (q : Bool) → (b == k) ≡ q → q ≡ false
    go true g = let m : is_digit k ≡ true = ap is_digit (sym (eqb-true b k g)) ∙ e in
        absurd (cc (m, f))
    go false g = refl

plain-number : (ds : Text) → all_digits ds ≡ true → number_in ds ≡ look.decimal 0 ds
plain-number [] e = refl
plain-number (a ∷ []) e = refl
plain-number (a ∷ b ∷ ds) e =
    let k = and-true (is_digit a) _ e in
    let l = and-true (is_digit b) _ k.1 in
    rw (no-digit 120 refl b l.0) refl

-- a decimal gives its number back
pub decimal-back : (n : ℕ) → n < 2 ^ 64 → number_in (decimal n) ≡ n
decimal-back n small = plain-number (decimal n) (decimal-digits n small) ∙ decimal-value n small
