-- The order of texts by bytes.
use Rattle.std.proofs.Common.{◌≡◌, ℕ, ◌≤◌, List, [], ◌∷◌, length, refl, arith}
use Rattle.std.proofs.lemmas.Bool.Decides.{nat_tests}
use Rattle.std.proofs.lemmas.Cmp.{same_from_slice_cmp_tested}
use Rattle.std.specs.Cmp.Lexicographic.{slice_partial_cmp}
use Rattle.std.specs.Ordering.{is_lt, is_some_and, nat_cmp}
use Rattle.std.specs.Prelude.{Bool}
use Rattle.std.specs.declared.option.Option.TheVariants.{Some}
use Rattle.attr_value.specs.Heads.{text_lt, Ascend}

-- `<` of slices of bytes
pub is-text-lt : (a b : List ℕ) (r : Bool)
    → r ≡ is_some_and is_lt (slice_partial_cmp (λ x y. Some (nat_cmp x y)) a b) → r ≡ text_lt a b
is-text-lt = same_from_slice_cmp_tested nat_cmp is_lt text_lt refl (λ y ys. refl) (λ x xs. refl)
    (λ x y xs ys o is. grind (arith, nat_tests))

-- one text or none ascends
pub ascend-short : (texts : List (List ℕ)) → length texts ≤ 1 → Ascend texts
ascend-short [] short = tt
ascend-short (a ∷ []) short = tt
ascend-short (a ∷ b ∷ rest) short = absurd (omega arith)
