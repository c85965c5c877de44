-- What `sort_unstable_by` leaves of entries with different keys: they are sorted.
use Rattle.std.proofs.Common.{◌≡◌, ◌⊎◌, inl, inr, suc, ◌+◌, true, false, List, [], ◌∷◌, map}
use Rattle.std.proofs.Common.{refl, sym, ◌∙◌, ap, arith, bytes_eq, option_and_then}
use Rattle.std.proofs.lemmas.List.Sorted.{IsPermutation-map}
use Rattle.std.proofs.lemmas.Option.{same_Some, none-some}
use Rattle.std.specs.List.Sorted.{IsPermutation, IsSortedBy}
use Rattle.std.specs.Ordering.{is_lt}
use Rattle.std.specs.declared.option.Option.TheVariants.{Some, None}
use Rattle.attr_value.specs.Heads.{text_lt}
use Rattle.ir_lexer.specs.Spelling.{Text}
use Rattle.value_meaning.specs.Spelled.{with_entry, sorted_entries}
use Rattle.value_meaning.proofs.Sorted.{sorted-permuted}
use Rattle.value_meaning.proofs.TextOrder.{text_cmp, lt-text_cmp, Rank, before, same, behind, rank}
use Rattle.value_meaning.proofs.TextOrder.{lt-itself, eq-itself}

module _ {A X : Type 0} (key : X → Text) (beside : X → A) where
  abbrev entries : List X → List (Text × A)
  entries xs = map (λ x. (key x, beside x)) xs

  -- the keys never fall
  abbrev Rises : List X → Type 0
  Rises xs = IsSortedBy (λ x y. is_lt (text_cmp (key x) (key y))) xs

  rises-tail : (x : X) (xs : List X) → Rises (x ∷ xs) → Rises xs
  rises-tail x xs up = λ k d low high.
      let next : suc k + 1 ≡ suc (k + 1) = omega arith in
      rw next at (up (suc k) d (omega arith) (omega arith))

  -- entries whose keys never fall are sorted, or have a key twice
  rises-sorted : (xs : List X) → Rises xs
      → (sorted_entries (entries xs) ≡ Some (entries xs)) ⊎ (sorted_entries (entries xs) ≡ None)
  rises-sorted [] up = inl refl
  rises-sorted (x ∷ []) up = inl refl
  rises-sorted (x ∷ y ∷ xs) up =
      go (rises-sorted (y ∷ xs) (rises-tail x (y ∷ xs) up)) (rank (key x) (key y))
    where
      level : text_lt (key y) (key x) ≡ false
      level = sym (lt-text_cmp (key y) (key x)) ∙ up 0 x (omega arith) (omega arith)

      go : (sorted_entries (entries (y ∷ xs)) ≡ Some (entries (y ∷ xs)))
          ⊎ (sorted_entries (entries (y ∷ xs)) ≡ None)
          → Rank (key x) (key y)
          → (sorted_entries (entries (x ∷ y ∷ xs)) ≡ Some (entries (x ∷ y ∷ xs)))
          ⊎ (sorted_entries (entries (x ∷ y ∷ xs)) ≡ None)
      go (inr none) _ = inr (ap (option_and_then (with_entry (key x, beside x))) none)
      go (inl is) (before p q r s) =
          inl (ap (option_and_then (with_entry (key x, beside x))) is ∙ rw p refl)
      go (inl is) (same k) =
          let less = ap (λ t. text_lt t (key y)) k ∙ lt-itself (key y) in
          let eq = ap (λ t. bytes_eq t (key y)) k ∙ eq-itself (key y) in
          inr (ap (option_and_then (with_entry (key x, beside x))) is ∙ rw (less, eq) refl)
      go (inl is) (behind p q r s) = let no : true ≡ false = sym p ∙ level in absurd (cc)

  -- entries that were moved until their keys never fall are what they are sorted to
  pub sorted-rising : (xs ys : List X) → IsPermutation xs ys → Rises ys
      → (sorted : List (Text × A)) → sorted_entries (entries xs) ≡ Some sorted
      → entries ys ≡ sorted
  sorted-rising xs ys moved up sorted is = go (rises-sorted ys up)
    where
      there : sorted_entries (entries ys) ≡ Some sorted
      there =
          sym (sorted-permuted (entries xs) (entries ys)
          (IsPermutation-map (λ x. (key x, beside x)) xs ys moved)) ∙ is

      go : (sorted_entries (entries ys) ≡ Some (entries ys)) ⊎ (sorted_entries (entries ys) ≡ None)
          → entries ys ≡ sorted
      go (inl kept) = same_Some (entries ys) sorted (sym kept ∙ there)
      go (inr none) = absurd (none-some sorted (sym none ∙ there))
