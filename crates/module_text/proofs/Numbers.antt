-- Numbers as names: the names of values and blocks by their numbers are words that the lexer reads,
-- and different numbers have different names.
use Rattle.std.proofs.Common.{◌≡◌, ℕ, zero, suc, ◌+◌, ◌<◌, ◌≤◌, ◌^◌, true, [], ◌∷◌, drop, refl, sym}
use Rattle.std.proofs.Common.{◌∙◌, ap, arith, decimal}
use Rattle.std.specs.List.{AllByRecursion, range_with_len}
use Rattle.derived_printer.specs.ModuleMarks.{count_from}
use Rattle.derived_printer.specs.Spelling.{value_text, block_text}
use Rattle.derived_printer.proofs.Decimals.{decimal-digits, decimal-value, no-digit, wide}
use Rattle.derived_printer.proofs.Spelled.{value-spelled, block-spelled}
use Rattle.grammar.specs.Looks as look
use Rattle.grammar.specs.Looks.{all_digits}
use Rattle.grammar.proofs.Meet.{and-true}
use Rattle.ir_lexer.specs.declared.class.Class.TheVariants as c
use Rattle.ir_lexer.specs.Names.{name_bytes, is_between}
use Rattle.ir_lexer.specs.Spelling.{Text, Spells}

-- the name of a value, and of a block, without its sign
abbrev pub value_key : ℕ → Text
value_key n = name_bytes (value_text n)

abbrev pub block_key : ℕ → Text
block_key k = name_bytes (block_text k)

-- numbers that have names
abbrev pub Named : ℕ → Type 0
Named n = n < 2 ^ 64

-- digits behind a sign are a name
digits-named : (ds : Text) → all_digits ds ≡ true → name_bytes (37 ∷ ds) ≡ ds
digits-named [] e = refl
digits-named (d ∷ ds) e =
    let digit : is_between 48 57 d ≡ true = (and-true (is_between 48 57 d) _ e).0 in
    rw (no-digit 34 refl d digit) refl

value-key : (n : ℕ) → Named n → value_key n ≡ decimal n
unfolding value_text
value-key n small = digits-named (decimal n) (decimal-digits n small)

block-key : (k : ℕ) → drop 2 (block_key k) ≡ decimal k
unfolding block_text
block-key k = refl

-- different values have different names
pub values-differ : (n m : ℕ) → Named n → Named m → value_key n ≡ value_key m → n ≡ m
values-differ n m a b e =
    sym (decimal-value n a)
    ∙ ap (look.decimal 0) (sym (value-key n a) ∙ (e ∙ value-key m b)) ∙ decimal-value m b

-- and so have different blocks
pub blocks-differ : (n m : ℕ) → Named n → Named m → block_key n ≡ block_key m → n ≡ m
blocks-differ n m a b e =
    sym (decimal-value n a)
    ∙ ap (look.decimal 0) (sym (block-key n) ∙ (ap (drop 2) e ∙ block-key m)) ∙ decimal-value m b

-- their texts are spelled so
pub value-word : (n : ℕ) → Named n → Spells c.ValueName (value_text n)
value-word n small = value-spelled n (wide n small)

pub block-word : (n : ℕ) → Named n → Spells c.BlockName (block_text n)
block-word n small = block-spelled n (wide n small)

-- ---- numbers that follow one another

-- the printer's are those of the module
pub counted : (n k : ℕ) → count_from n k ≡ range_with_len n k
counted n zero = refl
counted n (suc k) =
    let next : suc n ≡ n + 1 = omega arith in
    ap (λ l. n ∷ l) (ap (λ m. count_from m k) next ∙ counted (n + 1) k)

-- all of them are below a bound
pub range-below : (n k top : ℕ) → n + k ≤ top → AllByRecursion (λ i. i < top) (range_with_len n k)
range-below n zero top l = tt
range-below n (suc k) top l = (omega arith, range-below (n + 1) k top (omega arith))
