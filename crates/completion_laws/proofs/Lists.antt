-- What holds of all of a list, by what the list contains.
use Rattle.std.proofs.Common.{List, [], ◌∷◌, Contains}
use Rattle.std.proofs.lemmas.List.Elements.{All-contains, All-from_recursion}
use Rattle.std.specs.List.{AllByRecursion}
use Rattle.value_meaning.proofs.Among.{contains-head, contains-tail}

-- what holds of all that is in a list holds of all of it
pub all-contained : {A : Type 0} (P : A → Type 0) (xs : List A)
    → ((x : A) → Contains xs x → P x) → AllByRecursion P xs
all-contained P [] h = tt
all-contained P (x ∷ xs) h =
    (h x (contains-head x xs), all-contained P xs (λ y has. h y (contains-tail x xs y has)))

-- and the other way round
pub one-of : {A : Type 0} (P : A → Type 0) (xs : List A) (x : A) → AllByRecursion P xs
    → Contains xs x → P x
one-of P xs x all has = All-contains P xs x (All-from_recursion P xs all) has
