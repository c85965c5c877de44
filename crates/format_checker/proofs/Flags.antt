-- Sets of numbers as lists of truth values, in which a number past the end is missing.
use Rattle.std.proofs.Common.{◌≡◌, ℕ, zero, suc, ◌<◌, Bool, true, false, ◌||◌, ◌==◌, List, [], ◌∷◌, ◌++◌, length, get_or, set, refl, get_or-set_other, IsTrue}
use Rattle.std.proofs.lemmas.Bool.{eqb-true, eq-eqb, false≢true}
use Rattle.std.proofs.lemmas.Grind.{get_or-set_at}

-- room for one number more
pub flag-pushed : (xs : List Bool) (k : ℕ) → get_or (xs ++ false ∷ []) k false ≡ get_or xs k false
flag-pushed [] zero = refl
flag-pushed [] (suc k) = refl
flag-pushed (x ∷ xs) zero = refl
flag-pushed (x ∷ xs) (suc k) = flag-pushed xs k

-- one number more
pub flag-set : (xs : List Bool) (i k : ℕ) → i < length xs
    → get_or (set xs i true) k false ≡ ((k == i) || get_or xs k false)
flag-set xs i k less = go (k == i) refl
  where
    go : (b : Bool) → (k == i) ≡ b → get_or (set xs i true) k false ≡ (b || get_or xs k false)
    go true e = get_or-set_at xs i k true false (eqb-true k i e) less
    go false e = get_or-set_other xs i k true false (λ same. absurd (cc (eq-eqb k i same, e)))

-- where a number is missing, not all are there
pub not-all : {A : Type 0} (f : ℕ → Bool) (n count : ℕ) → (n < count) × (f n ≡ false) × A
    → (IsTrue false → (k : ℕ) → k < count → f k ≡ true)
    × (((k : ℕ) → k < count → f k ≡ true) → IsTrue false)
not-all f n count h = (λ t. absurd (false≢true t), λ all. absurd (cc (all n h.0, h.1)))
