-- A change at one place of a list.
use Rattle.std.proofs.Common.{◌≡◌, ℕ, zero, suc, ◌<◌, List, [], ◌∷◌, length, map, get_or, ap, refl}
use Rattle.std.proofs.Common.{arith}
use Rattle.std.proofs.Math.ListN.{set}
use Rattle.ir_store.specs.Rows.{changed}

-- a list with its i-th item set is the list with it changed, seen through g
pub set-changed : {A B : Type 0} (g : A → B) (f : B → B) (xs : List A) (i : ℕ) (x d : A)
    → i < length xs → g x ≡ f (g (get_or xs i d)) → map g (set xs i x) ≡ changed f i (map g xs)
set-changed g f [] i x d h e = absurd (omega arith)
set-changed g f (y ∷ ys) zero x d h e = cc
set-changed g f (y ∷ ys) (suc i) x d h e = ap (λ zs. g y ∷ zs) (set-changed g f ys i x d (omega arith) e)

-- the same of the list itself
pub set-changed-plain : {A : Type 0} (f : A → A) (xs : List A) (i : ℕ) (x d : A) → i < length xs
    → x ≡ f (get_or xs i d) → set xs i x ≡ changed f i xs
set-changed-plain f [] i x d h e = absurd (omega arith)
set-changed-plain f (y ∷ ys) zero x d h e = cc
set-changed-plain f (y ∷ ys) (suc i) x d h e = ap (λ zs. y ∷ zs) (set-changed-plain f ys i x d (omega arith) e)

-- a change keeps the length
pub length-changed : {A : Type 0} (f : A → A) (xs : List A) (i : ℕ)
    → length (changed f i xs) ≡ length xs
length-changed f [] i = refl
length-changed f (x ∷ xs) zero = refl
length-changed f (x ∷ xs) (suc i) = ap suc (length-changed f xs i)
