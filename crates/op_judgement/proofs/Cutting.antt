-- What holds of each item of a list that is cut, and of the types of arguments of regions' blocks.
use Rattle.std.proofs.Common.{◌≡◌, ◌∙◌, ℕ, zero, suc, ◌+◌, List, [], ◌∷◌, length, map, sum, take, drop}
use Rattle.std.proofs.Common.{refl, sym, ap, subst, arith}
use Rattle.std.proofs.lemmas.List.{length-drop}
use Rattle.std.proofs.lemmas.List.Sums.{sum_by-cons}
use Rattle.std.specs.List.{AllByRecursion}
use Rattle.dialect_defs.specs.Segments.{parts}
use Rattle.op_verifier.proofs.Judging.{all-map}

all-take : {A : Type 0} (P : A → Type 0) (n : ℕ) (xs : List A) → AllByRecursion P xs
    → AllByRecursion P (take n xs)
all-take P zero xs all = tt
all-take P (suc n) [] all = tt
all-take P (suc n) (x ∷ xs) all = (all.0, all-take P n xs all.1)

all-drop : {A : Type 0} (P : A → Type 0) (n : ℕ) (xs : List A) → AllByRecursion P xs
    → AllByRecursion P (drop n xs)
all-drop P zero xs all = all
all-drop P (suc n) [] all = tt
all-drop P (suc n) (x ∷ xs) all = all-drop P n xs all.1

-- of each item of each part
pub all-parts : {A : Type 0} (P : A → Type 0) (sizes : List ℕ) (xs : List A)
    → AllByRecursion P xs → AllByRecursion (AllByRecursion P) (parts sizes xs)
all-parts P [] xs all = tt
all-parts P (n ∷ sizes) xs all =
    (all-take P n xs all, all-parts P sizes (drop n xs) (all-drop P n xs all))

-- of both halves, so of all
all-joined : {A : Type 0} (P : A → Type 0) (n : ℕ) (xs : List A) → AllByRecursion P (take n xs)
    → AllByRecursion P (drop n xs) → AllByRecursion P xs
all-joined P zero xs front back = back
all-joined P (suc n) [] front back = tt
all-joined P (suc n) (x ∷ xs) front back = (front.0, all-joined P n xs front.1 back)

-- and of the list, where the parts are all of it
pub parts-all : {A : Type 0} (P : A → Type 0) (sizes : List ℕ) (xs : List A)
    → sum sizes ≡ length xs → AllByRecursion (AllByRecursion P) (parts sizes xs)
    → AllByRecursion P xs
parts-all P [] [] total all = tt
parts-all P [] (x ∷ xs) total all = absurd (omega (arith, total))
parts-all P (n ∷ sizes) xs total all =
    let all-of = sum_by-cons (λ n. n) n sizes in
    let left = length-drop n xs in
    all-joined P n xs all.0
    (parts-all P sizes (drop n xs) (omega (arith, total, all-of, left)) all.1)

-- ---- lists of lists of lists

-- what follows for each item
pub each-map : {A : Type 0} (P Q : A → Type 0) (f : (x : A) → P x → Q x)
    (xs : List (List (List A))) → AllByRecursion (AllByRecursion (AllByRecursion P)) xs
    → AllByRecursion (AllByRecursion (AllByRecursion Q)) xs
each-map {A} P Q f xs all =
    all-map (AllByRecursion (AllByRecursion P)) (AllByRecursion (AllByRecursion Q)) xs
    (λ ys. all-map (AllByRecursion P) (AllByRecursion Q) ys (λ zs. all-map P Q zs f)) all

-- and what follows from two
pub each-both : {A : Type 0} (P Q R : A → Type 0) (f : (x : A) → P x → Q x → R x)
    (xs : List (List (List A))) → AllByRecursion (AllByRecursion (AllByRecursion P)) xs
    → AllByRecursion (AllByRecursion (AllByRecursion Q)) xs
    → AllByRecursion (AllByRecursion (AllByRecursion R)) xs
each-both P Q R f xs p q =
    all-both (AllByRecursion (AllByRecursion P)) (AllByRecursion (AllByRecursion Q))
    (AllByRecursion (AllByRecursion R)) xs
    (λ ys. all-both (AllByRecursion P) (AllByRecursion Q) (AllByRecursion R) ys
    (λ zs. all-both P Q R zs f)) p q
  where
    all-both : {B : Type 0} (P Q R : B → Type 0) (xs : List B) → ((x : B) → P x → Q x → R x)
        → AllByRecursion P xs → AllByRecursion Q xs → AllByRecursion R xs
    all-both P Q R [] f p q = tt
    all-both P Q R (x ∷ xs) f p q = (f x p.0 q.0, all-both P Q R xs f p.1 q.1)
