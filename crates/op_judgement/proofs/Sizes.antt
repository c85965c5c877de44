-- How many values names stand for, name by name.
use Rattle.std.proofs.Common.{◌≡◌, ◌∙◌, ℕ, ◌+◌, ◌<◌, ◌≤◌, List, [], ◌∷◌, ◌++◌, length, map, sum}
use Rattle.std.proofs.Common.{take, get_or, ap, subst, arith}
use Rattle.std.proofs.lemmas.List.{take-map}
use Rattle.std.proofs.lemmas.List.Sums.{sum_by-append, sum_by-cons, sum_by-take-le}
use Rattle.op_judgement.proofs.Finding.{map-push}

-- with one more
pub sum-next : {A : Type 0} (f : A → ℕ) (xs : List A) (i : ℕ) (x : A) → i < length xs
    → x ≡ get_or xs i x → sum (map f (take (i + 1) xs)) ≡ sum (map f (take i xs)) + f x
sum-next f xs i x less is =
    let all = ap sum (map-push f xs i x less is) in
    let joined = sum_by-append (λ n. n) (map f (take i xs)) (f x ∷ []) in
    let last : sum (f x ∷ []) ≡ f x + sum [] = sum_by-cons (λ n. n) (f x) [] in
    omega (arith, all, joined, last)

-- the first ones are no more than all
pub sum-within : {A : Type 0} (f : A → ℕ) (xs : List A) (i : ℕ)
    → sum (map f (take i xs)) ≤ sum (map f xs)
sum-within f xs i =
    subst (λ l. sum l ≤ sum (map f xs)) (take-map f i xs) (sum_by-take-le (λ n. n) (map f xs) i)
