-- Dimensions are read back from their text.
use Rattle.std.proofs.Common.{◌≡◌, ℕ, suc, ◌<◌, ◌≤◌, ◌^◌, true, ◌&&◌, List, [], ◌∷◌, ◌++◌, map, refl, sym, ◌∙◌, ap, arith, if◌then◌else◌, nat_le, nat_lt, decimal, Some, None, append_assoc, append-nil}
use Rattle.std.proofs.lemmas.Bool.{le-leb}
use Rattle.std.specs.List.{AllByRecursion}
use Rattle.attr_value.specs.declared.kind.Dim.{Dim}
use Rattle.attr_value.specs.declared.kind.Dim.TheVariants.{Known, Unknown}
use Rattle.attr_value.specs.declared.kind.ShapeKind.{ShapeKind}
use Rattle.attr_value.specs.declared.kind.ShapeKind.TheVariants as shape
use Rattle.attr_value.specs.Heads.{IsDim}
use Rattle.generic_syntax.specs.Values.{dims_from}
use Rattle.grammar.specs.Looks as look
use Rattle.grammar.specs.Looks.{all_digits}
use Rattle.grammar.proofs.Meet.{and-true}
use Rattle.ir_lexer.specs.Spelling.{Text}
use Rattle.value_meaning.specs.Spelled.{all_some, dim_of}
use Rattle.derived_printer.specs.Spelling.{dims_text}
use Rattle.derived_printer.proofs.Decimals.{is_digit, wide, decimal-value, decimal-digits, no-digit}
use Rattle.derived_printer.proofs.Digits.{digits-decimal}

-- digits and an `x` are one dimension
from-digits : (ds : Text) → all_digits ds ≡ true → (before t : Text)
    → dims_from before (ds ++ 120 ∷ t) ≡ (before ++ ds) ∷ dims_from [] t
from-digits [] e before t = ap (λ l. l ∷ dims_from [] t) (sym (append-nil before))
from-digits (b ∷ ds) e before t = let k = and-true (is_digit b) _ e in
    rw (no-digit 120 refl b k.0, no-digit 63 refl b k.0) (from-digits ds k.1 (before ++ b ∷ []) t
    ∙ ap (λ l. l ∷ dims_from [] t) (append_assoc before (b ∷ []) ds))

known-if : (m n : ℕ) → m ≡ n → 1 ≤ n → n < 2 ^ 63
    → (if nat_le 1 m && nat_lt m (2 ^ 63) then Some (Known m) else None) ≡ Some (Known n)
known-if m n e some less = rw e (rw (le-leb 1 n some, le-leb (suc n) (2 ^ 63) less) refl)

known-back : (kind : ShapeKind) (n : ℕ) → 1 ≤ n → n < 2 ^ 63
    → dim_of kind (decimal n) ≡ Some (Known n)
known-back kind n some less =
    let small : n < 2 ^ 64 = omega (arith, less) in
    let x = digits-decimal n (wide n small) in
    go (decimal n) x.first x.rest x.is (decimal-value n small)
  where
    go : (ds : Text) (first : ℕ) (rest : Text) → ds ≡ first ∷ rest → look.decimal 0 ds ≡ n
        → dim_of kind ds ≡ Some (Known n)
    go ds first rest e v = ap (dim_of kind) e ∙ known-if _ n (ap (look.decimal 0) (sym e) ∙ v) some
        less

unknown-back : (kind : ShapeKind) → IsDim kind Unknown → dim_of kind [] ≡ Some Unknown
unknown-back shape.Vector k = absurd k
unknown-back shape.Tensor k = refl
unknown-back shape.Memref k = refl

-- dimensions are read back
pub dims-back : (kind : ShapeKind) (ds : List Dim) → AllByRecursion (IsDim kind) ds
    → all_some (map (dim_of kind) (dims_from [] (dims_text ds))) ≡ Some ds
unfolding dims_text
dims-back kind [] h = refl
dims-back kind (Known n ∷ ds) (x, h) =
    let all : all_digits (decimal n) ≡ true = decimal-digits n (omega (arith, x.1)) in
    ap (λ l. all_some (map (dim_of kind) (dims_from [] l)))
    (append_assoc (decimal n) (120 ∷ []) (dims_text ds))
    ∙ ap (λ l. all_some (map (dim_of kind) l))
    (from-digits (decimal n) all [] (dims_text ds))
    ∙ rw (known-back kind n x.0 x.1, dims-back kind ds h) refl
dims-back kind (Unknown ∷ ds) (x, h) = rw (unknown-back kind x, dims-back kind ds h) refl
