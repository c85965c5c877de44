-- Members of lists, and what holds of all of them.
use Rattle.std.proofs.Common.{◌≡◌, zero, suc, ◌⊎◌, inl, inr, List, [], ◌∷◌, ◌++◌, map, refl, sym, ap, subst, arith}
use Rattle.std.specs.List.{flat_map, Contains, AllByRecursion}
use Rattle.std.proofs.lemmas.List.Elements.{Contains-append_left, Contains-append_right, Contains-append_cases}

pub contains-head : {A : Type 0} (x : A) (xs : List A) → Contains (x ∷ xs) x
contains-head x xs = (0, omega arith, refl)

pub contains-tail : {A : Type 0} (x y : A) (xs : List A) → Contains xs y → Contains (x ∷ xs) y
contains-tail x y xs (k, less, is) = (suc k, omega (arith, less), is)

-- a member is the first one, or one of the rest
pub contains-cases : {A : Type 0} (x y : A) (xs : List A) → Contains (x ∷ xs) y
    → (x ≡ y) ⊎ Contains xs y
contains-cases x y xs (zero, less, is) = inl is
contains-cases x y xs (suc k, less, is) = inr (k, omega (arith, less), is)

-- what one of some things gives is among what all give
pub in-flat_map : {A B : Type 0} (f : A → List B) (xs : List A) (x : A) (y : B)
    → Contains xs x → Contains (f x) y → Contains (flat_map f xs) y
in-flat_map f [] x y (k, less, is) has = absurd (omega (arith, less))
in-flat_map {B = B} f (z ∷ xs) x y member has = elim (contains-cases z x xs member) [
  | inl same ↦ Contains-append_left (f z) (flat_map f xs) y
      (subst (λ w. Contains (f w) y) (sym same) has)
  | inr later ↦ Contains-append_right (f z) (flat_map f xs) y (in-flat_map f xs x y later has)
]

-- and each of these is given by one
pub of-flat_map : {A B : Type 0} (f : A → List B) (xs : List A) (y : B)
    → Contains (flat_map f xs) y → (x : A) × Contains xs x × Contains (f x) y
of-flat_map f [] y (k, less, is) = absurd (omega (arith, less))
of-flat_map {A} f (z ∷ xs) y has = elim (Contains-append_cases (f z) (flat_map f xs) y has) [
  | inl here ↦ (z, contains-head z xs, here)
  | inr later ↦ let found = of-flat_map f xs y later in
      (found.0, contains-tail z found.0 xs found.1, found.2)
]

pub in-map : {A B : Type 0} (f : A → B) (xs : List A) (x : A) → Contains xs x
    → Contains (map f xs) (f x)
in-map f [] x (k, less, is) = absurd (omega (arith, less))
in-map f (z ∷ xs) x member = elim (contains-cases z x xs member) [
  | inl same ↦ subst (λ w. Contains (f z ∷ map f xs) (f w)) same (contains-head (f z) (map f xs))
  | inr later ↦ contains-tail (f z) (f x) (map f xs) (in-map f xs x later)
]

pub of-map : {A B : Type 0} (f : A → B) (xs : List A) (y : B) → Contains (map f xs) y
    → (x : A) × Contains xs x × (f x ≡ y)
of-map f [] y (k, less, is) = absurd (omega (arith, less))
of-map f (z ∷ xs) y has = elim (contains-cases (f z) y (map f xs) has) [
  | inl same ↦ (z, contains-head z xs, same)
  | inr later ↦ let found = of-map f xs y later in
      (found.0, contains-tail z found.0 xs found.1, found.2)
]

-- what holds of each member holds of all
pub all-members : {A : Type 0} (P : A → Type 0) (xs : List A)
    → ((x : A) → Contains xs x → P x) → AllByRecursion P xs
all-members P [] each = tt
all-members P (x ∷ xs) each =
    (each x (contains-head x xs), all-members P xs (λ y has. each y (contains-tail x y xs has)))

-- what holds of what each member is made to
pub all-mapped : {A B : Type 0} (P : B → Type 0) (f : A → B) (xs : List A)
    → ((x : A) → Contains xs x → P (f x)) → AllByRecursion P (map f xs)
all-mapped P f [] each = tt
all-mapped P f (x ∷ xs) each =
    (each x (contains-head x xs), all-mapped P f xs (λ y has. each y (contains-tail x y xs has)))

-- a list is cut at a member
pub record Cut {A : Type 0} (xs : List A) (x : A) : Type 0 where
  pub before : List A
  pub after : List A
  pub is : xs ≡ before ++ x ∷ after

pub cut-at : {A : Type 0} (xs : List A) (x : A) → Contains xs x → Cut xs x
cut-at [] x (k, less, is) = absurd (omega (arith, less))
cut-at (z ∷ xs) x member = elim (contains-cases z x xs member) [
  | inl same ↦ record { before = []; after = xs; is = ap (λ w. w ∷ xs) same }
  | inr later ↦ let c = cut-at xs x later in
      record { before = z ∷ c.before; after = c.after; is = ap (λ l. z ∷ l) c.is }
]
