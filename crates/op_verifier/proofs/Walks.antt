-- What is left of a list at a place.
use Rattle.std.proofs.Common.{◌≡◌, ◌↔◌, ℕ, zero, suc, ◌+◌, ◌-◌, ◌<◌, ◌≤◌, List, [], ◌∷◌}
use Rattle.std.proofs.Common.{Some, slice_get, take, drop, ap, sym, ◌∙◌, subst, arith}
use Rattle.std.proofs.Common.{add-one, option_map}
use Rattle.std.proofs.lemmas.Option.{slice_get-map}
use Rattle.std.specs.List.{AllByRecursion}
use Rattle.attr_value.specs.Ids.{at, AreKnown}
use Rattle.attr_value.specs.Values.{Value}
use Rattle.attr_value.specs.declared.head.ValueId.{ValueId}
use Rattle.op_verifier.specs.Seen.{values_at}

drop-suc : {X : Type 0} (xs : List X) (i : ℕ) (x : X) → slice_get xs i ≡ Some x
    → drop i xs ≡ x ∷ drop (suc i) xs
drop-suc [] i x e = cc
drop-suc (y ∷ ys) zero x e = let same : y ≡ x = cc in ap (λ z. z ∷ ys) same
drop-suc (y ∷ ys) (suc i) x e = drop-suc ys i x e

-- an element, and what is behind it
pub drop-next : {X : Type 0} (xs : List X) (i : ℕ) (x : X) → slice_get xs i ≡ Some x
    → drop i xs ≡ x ∷ drop (i + 1) xs
drop-next xs i x e = rw add-one (drop-suc xs i x e)

take-some : {X : Type 0} (xs : List X) (n : ℕ) (x : X) → 0 < n
    → take n (x ∷ xs) ≡ x ∷ take (n - 1) xs
take-some xs zero x some = absurd (omega arith)
take-some xs (suc n) x some =
    let same : suc n - 1 ≡ n = omega arith in
    ap (λ k. x ∷ take k xs) (sym same)

-- the same up to an end
pub take-next : {X : Type 0} (xs : List X) (i end : ℕ) (x : X) → slice_get xs i ≡ Some x → i < end
    → take (end - i) (drop i xs) ≡ x ∷ take (end - (i + 1)) (drop (i + 1) xs)
take-next xs i end x e less =
    let one : (end - i) - 1 ≡ end - (i + 1) = omega arith in
    ap (take (end - i)) (drop-next xs i x e)
    ∙ take-some (drop (i + 1) xs) (end - i) x (omega arith)
    ∙ ap (λ k. x ∷ take k (drop (i + 1) xs)) one

-- nothing stands between a place and an end before it
pub take-none : {X : Type 0} (xs : List X) (i end : ℕ) → end ≤ i → take (end - i) xs ≡ []
take-none xs i end past = let none : end - i ≡ 0 = omega arith in ap (λ k. take k xs) none

-- the value of the id at a place
pub value-at : (values : List Value) (ids : List ValueId) (i : ℕ) (id : ValueId)
    → slice_get ids i ≡ Some id → slice_get (values_at values ids) i ≡ Some (at values id.0)
value-at values ids i id e =
    slice_get-map (λ (id : ValueId). at values id.0) ids i
    ∙ ap (option_map (λ (id : ValueId). at values id.0)) e

-- an id of a list is known where all are
pub known-at : (n : ℕ) (ids : List ValueId) (i : ℕ) (id : ValueId) → AreKnown n ids
    → slice_get ids i ≡ Some id → id.0 < n
known-at n [] i id known e = cc
known-at n (x ∷ xs) zero id known e =
    let same : x ≡ id = cc in subst (λ (k : ValueId). k.0 < n) same known.0
known-at n (x ∷ xs) (suc i) id known e = known-at n xs i id known.1 e

-- what holds of each element holds of the one at a place
pub all-get : {X : Type 0} (P : X → Type 0) (xs : List X) (i : ℕ) (x : X) → AllByRecursion P xs
    → slice_get xs i ≡ Some x → P x
all-get P [] i x all e = cc
all-get P (y ∷ ys) zero x all e = let same : y ≡ x = cc in subst P same all.0
all-get P (y ∷ ys) (suc i) x all e = all-get P ys i x all.1 e

-- one element that fails decides that not all pass
pub all-fails : {X : Type 0} (P : X → Type 0) (xs : List X) (i : ℕ) (x : X)
    → slice_get xs i ≡ Some x → (P x → ⊥) → AllByRecursion P xs → ⊥
all-fails P xs i x e fails all = fails (all-get P xs i x all e)

-- one that passes leaves the ones behind it
pub all-step : {X : Type 0} (P : X → Type 0) (xs : List X) (i : ℕ) (x : X)
    → slice_get xs i ≡ Some x → P x → (AllByRecursion P xs ↔ AllByRecursion P (drop i xs))
    → AllByRecursion P xs ↔ AllByRecursion P (drop (i + 1) xs)
all-step P xs i x e passes left =
    let next = drop-next xs i x e in (
      λ all. (subst (AllByRecursion P) next (left.0 all)).1,
      λ rest. left.1 (subst (AllByRecursion P) (sym next) (passes, rest)),
    )
