-- The sizes of packs that digits spell.
use Rattle.std.proofs.Common.{◌≡◌, ℕ, ◌<◌, ◌≤◌, Bool, true, false, ◌&&◌}
use Rattle.std.proofs.Common.{if◌then◌else◌, refl, ap, sym, ◌∙◌, subst, arith}
use Rattle.std.specs.declared.option.Option.TheVariants.{Some, None}
use Rattle.grammar.specs.Looks.{all_digits, decimal}
use Rattle.ir_lexer.specs.Spelling.{Text}
use Rattle.module_names.specs.Numbers.{number_in, is_pack_size, pack_size}
use Rattle.module_names.specs.declared.number.TheConstants.{PACK_LIMIT}

-- by whether the digits are decimal, and whether a pack may have their number
size-by : (a b : Bool) (t : Text) → all_digits t ≡ a → is_pack_size (decimal 0 t) ≡ b
    → pack_size t ≡ (if a && b then Some (decimal 0 t) else None)
size-by a b t digits size =
    ap (λ c. if c && is_pack_size (decimal 0 t) then Some (decimal 0 t) else None) digits
    ∙ ap (λ c. if a && c then Some (decimal 0 t) else None) size

pub size-no_digits : (t : Text) → all_digits t ≡ false → None ≡ pack_size t
size-no_digits t digits = sym (size-by false _ t digits refl)

is-size : (n : ℕ) → 1 ≤ n → n ≤ PACK_LIMIT → is_pack_size n ≡ true
is-size n low high = grind arith

no-size : (n : ℕ) → n < 1 → is_pack_size n ≡ false
no-size n low = grind arith

too-great : (n : ℕ) → PACK_LIMIT < n → is_pack_size n ≡ false
too-great n high = grind arith

module _ (t : Text) (n : ℕ) (digits : all_digits t ≡ true) (is : n ≡ number_in t) where
  pub size-zero : n ≡ 0 → None ≡ pack_size t
  size-zero zero = sym (size-by true false t digits (no-size (decimal 0 t) (omega arith)))

  pub size-great : PACK_LIMIT < n → None ≡ pack_size t
  size-great great = sym (size-by true false t digits (too-great (decimal 0 t) (omega arith)))

  pub size-right : 1 ≤ n → n ≤ PACK_LIMIT → Some n ≡ pack_size t
  size-right low high =
      let same : n ≡ decimal 0 t = omega arith in
      ap Some same
      ∙ sym (size-by true true t digits
      (subst (λ m. is_pack_size m ≡ true) same (is-size n low high)))
