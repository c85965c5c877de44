-- The first place of an item whose image passes a test.
use Rattle.std.proofs.Common.{◌≡◌, ◌∙◌, ℕ, ◌<◌, ◌≤◌, List, Bool, true, false, length, get_or, refl}
use Rattle.std.proofs.Common.{arith, Some, None, nat_lt, [], ◌∷◌, map}
use Rattle.std.proofs.lemmas.Bool.Decides.{nat_tests}
use Rattle.std.proofs.lemmas.List.{length-map}
use Rattle.std.proofs.lemmas.List.Sums.{position_or_len_is}
use Rattle.std.specs.List.{position_or_len}
use Rattle.std.specs.Prelude.{position}

not-below : (n : ℕ) → nat_lt n n ≡ false
not-below n = grind (arith, nat_tests)

is-below : (i n : ℕ) → i < n → nat_lt i n ≡ true
is-below i n before = grind (arith, nat_tests)

module _ {X Y : Type 0} (f : X → Y) (p : Y → Bool) where
  position-or-len-map : (xs : List X)
      → position_or_len p (map f xs) ≡ position_or_len (λ x. p (f x)) xs
  position-or-len-map [] = refl
  position-or-len-map (x ∷ xs) = rw (position-or-len-map xs) refl

  position-map : (xs : List X) → position (λ x. p (f x)) xs ≡ position p (map f xs)
  position-map xs = rw (position-or-len-map xs, length-map xs f) refl

  -- no item before the place i has an image that passes
  abbrev pub NoneBefore : List X → ℕ → Type 0
  NoneBefore xs i = (k : ℕ) (d : X) → k < i → p (f (get_or xs k d)) ≡ false

  -- the first object of a name is found at its place
  pub first-at : (xs : List X) (i : ℕ) (d : X) → i < length xs → NoneBefore xs i
      → p (f (get_or xs i d)) ≡ true → Some i ≡ position p (map f xs)
  first-at xs i d within none here =
      let place : position_or_len (λ x. p (f x)) xs ≡ i =
      position_or_len_is (λ x. p (f x)) xs i d (omega arith)
      (λ k before. none k d before) (λ _. here) in
      let first : Some i ≡ position (λ x. p (f x)) xs =
      rw (place, is-below i (length xs) within) refl in
      first ∙ position-map xs

  -- where none of the objects has the name, there is no place
  pub nowhere : (xs : List X) (i : ℕ) → length xs ≤ i → NoneBefore xs i
      → None ≡ position p (map f xs)
  nowhere [] i all none = refl
  nowhere (x ∷ xs) i all none =
      let place : position_or_len (λ y. p (f y)) (x ∷ xs) ≡ length (x ∷ xs) =
      position_or_len_is (λ y. p (f y)) (x ∷ xs) (length (x ∷ xs)) x (omega arith)
      (λ k before. none k x (omega arith)) (λ past. absurd (omega arith)) in
      let never : None ≡ position (λ y. p (f y)) (x ∷ xs) =
      rw (place, not-below (length (x ∷ xs))) refl in
      never ∙ position-map (x ∷ xs)
