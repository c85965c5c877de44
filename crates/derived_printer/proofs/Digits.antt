-- Decimals are digits, of which the first is a zero in 0 alone. By the steps in which std makes
-- them, a digit at a time.
use Rattle.std.proofs.Common.{◌≡◌, ℕ, ◌+◌, ◌<◌, ◌≤◌, ◌/◌, ◌%◌, ◌^◌, ◌==◌, Bool, true, false, not, ◌||◌, [], ◌∷◌, ◌++◌, refl, ap, arith, decimal}
use Rattle.std.proofs.lemmas.Bool.{eqb-true}
use Rattle.std.proofs.lemmas.Fmt.{decimal_by_steps_wide}
use Rattle.grammar.specs.Looks.{all_digits}
use Rattle.ir_lexer.specs.Names.{is_between}
use Rattle.ir_lexer.specs.Spelling.{Text}
use Rattle.ir_lexer.proofs.Derive.{and-left, and-right, and-both}
use Rattle.ir_lexer.proofs.Machine.{below}

-- digits, of which the first is no zero but in 0
pub record Digits (n : ℕ) (ds : Text) : Type 0 where
  pub first : ℕ
  pub rest : Text
  pub is : ds ≡ first ∷ rest
  pub all : all_digits ds ≡ true
  pub lead : 0 < n → (first == 48) ≡ false

abbrev digit_is_right : ℕ → Bool
digit_is_right k = is_between 48 57 (48 + k)

abbrev lead_is_right : ℕ → Bool
lead_is_right k = (k == 0) || not ((48 + k) == 48)

no-zero : (k : ℕ) → k < 10 → 0 < k → ((48 + k) == 48) ≡ false
no-zero k lt some = go (k == 0) _ refl (below 10 lead_is_right refl k lt)
  where
    go : (p q : Bool) → (k == 0) ≡ p → (p || not q) ≡ true → q ≡ false
    go true q e f = absurd (omega (arith, eqb-true k 0 e))
    go false true e f = absurd (cc)
    go false false e f = refl

digits-append : (ds : Text) (d : ℕ) → all_digits ds ≡ true → is_between 48 57 d ≡ true
    → all_digits (ds ++ d ∷ []) ≡ true
digits-append [] d e f = and-both _ _ f refl
digits-append (b ∷ ds) d e f =
    and-both _ _ (and-left _ _ e) (digits-append ds d (and-right _ _ e) f)

-- a decimal is digits
pub digits-decimal : (n : ℕ) → n < 10 ^ 64 → Digits n (decimal n)
digits-decimal n small = decimal_by_steps_wide Digits one more n small
  where
    one : (n : ℕ) → n < 10 → Digits n ((48 + n) ∷ [])
    one n lt = record {
      first = 48 + n;
      rest = [];
      is = refl;
      all = and-both _ _ (below 10 digit_is_right refl n lt) refl;
      lead = λ some. no-zero n lt some;
    }

    more : (n : ℕ) (ds : Text) → 10 ≤ n → Digits (n / 10) ds → Digits n (ds ++ ((48 + n % 10) ∷ []))
    more n ds le x = record {
      first = x.first;
      rest = x.rest ++ ((48 + n % 10) ∷ []);
      is = ap (λ l. l ++ ((48 + n % 10) ∷ [])) x.is;
      all =
          digits-append ds (48 + n % 10) x.all
          (below 10 digit_is_right refl (n % 10) (omega arith));
      lead = λ some. x.lead (omega arith);
    }
