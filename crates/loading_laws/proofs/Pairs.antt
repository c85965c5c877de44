-- Lists that are related one by one: what is related to members, and to one list.
use Rattle.std.proofs.Common.{inl, inr, List, [], ◌∷◌, subst, arith}
use Rattle.std.specs.List.{Contains}
use Rattle.dialect_registry.specs.Resolved.{AreEach}
use Rattle.dialect_registry.proofs.Members.{contains-cases, contains-head, contains-tail}

-- each member is related to a member
pub each-partner : {A B : Type 0} (R : A → B → Type 0) (xs : List A) (ys : List B)
    → AreEach R xs ys → (x : A) → Contains xs x → (y : B) × Contains ys y × R x y
each-partner R [] ys each x (k, less, is) = absurd (omega (arith, less))
each-partner R (z ∷ xs) [] each x has = absurd each
each-partner {A} {B} R (z ∷ xs) (y ∷ ys) each x has = elim (contains-cases z x xs has) [
  | inl same ↦ (y, contains-head y ys, subst (λ a. R a y) same each.0)
  | inr later ↦ let found = each-partner R xs ys each.1 x later in
      (found.0, contains-tail y found.0 ys found.1, found.2)
]

-- the other way round
pub each-flipped : {A B : Type 0} (R : A → B → Type 0) (S : B → A → Type 0)
    → ((x : A) (y : B) → R x y → S y x) → (xs : List A) (ys : List B) → AreEach R xs ys
    → AreEach S ys xs
each-flipped R S flipped [] [] each = tt
each-flipped R S flipped [] (y ∷ ys) each = absurd each
each-flipped R S flipped (x ∷ xs) [] each = absurd each
each-flipped R S flipped (x ∷ xs) (y ∷ ys) each =
    (flipped x y each.0, each-flipped R S flipped xs ys each.1)

-- what is related to one list is related
pub each-joined : {A B C : Type 0} (R : A → B → Type 0) (S : A → C → Type 0)
    (T : B → C → Type 0) → ((x : A) (y : B) (z : C) → R x y → S x z → T y z) → (xs : List A)
    (ys : List B) (zs : List C) → AreEach R xs ys → AreEach S xs zs → AreEach T ys zs
each-joined R S T joined [] [] [] first then = tt
each-joined R S T joined [] (y ∷ ys) zs first then = absurd first
each-joined R S T joined [] [] (z ∷ zs) first then = absurd then
each-joined R S T joined (x ∷ xs) [] zs first then = absurd first
each-joined R S T joined (x ∷ xs) (y ∷ ys) [] first then = absurd then
each-joined R S T joined (x ∷ xs) (y ∷ ys) (z ∷ zs) first then =
    (joined x y z first.0 then.0, each-joined R S T joined xs ys zs first.1 then.1)
