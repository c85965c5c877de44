-- Lists that are related one by one.
use Rattle.std.proofs.Common.{◌≡◌, ℕ, zero, suc, List, [], ◌∷◌, ◌++◌, length, refl, ap, subst}
use Rattle.std.specs.Prelude.{slice_get}
use Rattle.std.specs.List.{AllByRecursion, Contains}
use Rattle.std.specs.declared.option.Option.TheVariants.{Some}
use Rattle.dialect_registry.specs.Resolved.{AreEach}
use Rattle.dialect_registry.proofs.Members.{contains-head, contains-tail}

-- one more of each
pub each-more : {A B : Type 0} (R : A → B → Type 0) (xs : List A) (ys : List B) (x : A) (y : B)
    → AreEach R xs ys → R x y → AreEach R (xs ++ x ∷ []) (ys ++ y ∷ [])
each-more R [] [] x y each one = (one, tt)
each-more R (a ∷ xs) (b ∷ ys) x y each one = (each.0, each-more R xs ys x y each.1 one)
each-more R [] (b ∷ ys) x y each one = absurd each
each-more R (a ∷ xs) [] x y each one = absurd each

-- what is related is so by a weaker relation
pub each-weaker : {A B : Type 0} (R S : A → B → Type 0) → ((x : A) (y : B) → R x y → S x y)
    → (xs : List A) (ys : List B) → AreEach R xs ys → AreEach S xs ys
each-weaker R S weaker [] [] each = tt
each-weaker R S weaker (x ∷ xs) (y ∷ ys) each =
    (weaker x y each.0, each-weaker R S weaker xs ys each.1)
each-weaker R S weaker [] (y ∷ ys) each = absurd each
each-weaker R S weaker (x ∷ xs) [] each = absurd each

-- there are as many of each
pub each-length : {A B : Type 0} (R : A → B → Type 0) (xs : List A) (ys : List B) → AreEach R xs ys
    → length xs ≡ length ys
each-length R [] [] each = refl
each-length R (x ∷ xs) (y ∷ ys) each = ap suc (each-length R xs ys each.1)
each-length R [] (y ∷ ys) each = absurd each
each-length R (x ∷ xs) [] each = absurd each

-- what holds of all that are related to members
pub each-holds : {A B : Type 0} (R : A → B → Type 0) (P : B → Type 0) (xs : List A) (ys : List B)
    → AreEach R xs ys → ((x : A) (y : B) → Contains xs x → R x y → P y) → AllByRecursion P ys
each-holds R P [] [] each holds = tt
each-holds R P (x ∷ xs) (y ∷ ys) each holds = (
  holds x y (contains-head x xs) each.0,
  each-holds R P xs ys each.1 (λ a b has. holds a b (contains-tail x a xs has)),
)
each-holds R P [] (y ∷ ys) each holds = absurd each
each-holds R P (x ∷ xs) [] each holds = absurd each

-- what is related to an item
pub each-at : {A B : Type 0} (R : A → B → Type 0) (xs : List A) (ys : List B) → AreEach R xs ys
    → (i : ℕ) (y : B) → slice_get ys i ≡ Some y
    → (x : A) × Contains xs x × (slice_get xs i ≡ Some x) × R x y
each-at R [] [] each i y at = absurd (cc)
each-at R [] (z ∷ ys) each i y at = absurd each
each-at R (x ∷ xs) [] each i y at = absurd each
each-at {A} {B} R (x ∷ xs) (z ∷ ys) each zero y at =
    let same : z ≡ y = cc in (x, contains-head x xs, refl, subst (R x) same each.0)
each-at {A} {B} R (x ∷ xs) (z ∷ ys) each (suc i) y at =
    let found = each-at R xs ys each.1 i y at in
    (found.0, contains-tail x found.0 xs found.1, found.2, found.3)

-- some of each, and then others
pub each-appended : {A B : Type 0} (R : A → B → Type 0) (xs zs : List A) (ys ws : List B)
    → AreEach R xs ys → AreEach R zs ws → AreEach R (xs ++ zs) (ys ++ ws)
each-appended R [] zs [] ws first then = then
each-appended R (x ∷ xs) zs (y ∷ ys) ws first then =
    (first.0, each-appended R xs zs ys ws first.1 then)
each-appended R [] zs (y ∷ ys) ws first then = absurd first
each-appended R (x ∷ xs) zs [] ws first then = absurd first
