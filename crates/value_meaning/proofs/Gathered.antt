-- What some things are, gathered one by one from the first.
use Rattle.std.proofs.Common.{◌≡◌, ℕ, ◌+◌, List, [], ◌∷◌, ◌++◌, drop, map, refl, sym, ap, ◌∙◌, append_assoc}
use Rattle.std.specs.Prelude.{Option, Some, None, option_map}
use Rattle.value_meaning.specs.Spelled.{all_some}

-- behind some that are gathered stands what is left
pub record Gathered {A B : Type 0} (f : A → Option B) (xs : List A) (i : ℕ) (done : List B)
    : Type 0 where
  pub is : all_some (map f xs) ≡ option_map (λ ys. done ++ ys) (all_some (map f (drop i xs)))

option_map-id : {A : Type 0} (o : Option A) → o ≡ option_map (λ x. x) o
option_map-id None = refl
option_map-id (Some x) = refl

module _ {A B : Type 0} (f : A → Option B) (xs : List A) where
  -- nothing is gathered at first
  pub gathered-none : Gathered f xs 0 []
  gathered-none = record { is = option_map-id (all_some (map f xs)) }

  -- one more is gathered
  more : (x : A) (y : B) (done : List B) (rest : List A) → f x ≡ Some y
      → option_map (λ ys. done ++ ys) (all_some (map f (x ∷ rest)))
      ≡ option_map (λ ys. (done ++ y ∷ []) ++ ys) (all_some (map f rest))
  more x y done rest e = rw e (go (all_some (map f rest)))
    where
      go : (o : Option (List B)) → option_map (λ ys. done ++ ys) (option_map (λ ys. y ∷ ys) o)
          ≡ option_map (λ ys. (done ++ y ∷ []) ++ ys) o
      go None = refl
      go (Some ys) = ap Some (sym (append_assoc done (y ∷ []) ys))

  pub gathered-more : {i : ℕ} {done : List B} {x : A} (y : B) → Gathered f xs i done
      → drop i xs ≡ x ∷ drop (i + 1) xs → f x ≡ Some y → Gathered f xs (i + 1) (done ++ y ∷ [])
  gathered-more {i = i} {done = done} {x = x} y g next e = record {
    is = g.is ∙ ap (λ l. option_map (λ ys. done ++ ys) (all_some (map f l))) next
        ∙ more x y done (drop (i + 1) xs) e;
  }

  -- where one isn't something, not all are
  pub gathered-stop : {i : ℕ} {done : List B} {x : A} → Gathered f xs i done
      → drop i xs ≡ x ∷ drop (i + 1) xs → f x ≡ None → None ≡ all_some (map f xs)
  gathered-stop {i = i} {done = done} {x = x} g next e =
      sym (g.is ∙ ap (λ l. option_map (λ ys. done ++ ys) (all_some (map f l))) next ∙ rw e)

-- the first and the others, of some that are all something
pub record IsSplit {A : Type 0} (o : Option A) (os : List (Option A)) (ys : List A)
    : Type 0 where
  pub first : A
  pub rest : List A
  pub is : o ≡ Some first
  pub others : all_some os ≡ Some rest
  pub all : ys ≡ first ∷ rest

-- where all are something, the first is, and all others are
pub all_some-split : {A : Type 0} (o : Option A) (os : List (Option A)) (ys : List A)
    → all_some (o ∷ os) ≡ Some ys → IsSplit o os ys
all_some-split None os ys e = absurd (cc)
all_some-split {A = A} (Some x) os ys e = go (all_some os) refl e
  where
    go : (o : Option (List A)) → all_some os ≡ o → option_map (λ zs. x ∷ zs) o ≡ Some ys
        → IsSplit (Some x) os ys
    go None q e = absurd (cc)
    go (Some zs) q e = record { first = x; rest = zs; is = refl; others = q; all = cc }
