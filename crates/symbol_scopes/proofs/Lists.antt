-- What stands at a place of a list, after a push or a write.
use Rattle.std.proofs.Common.{◌≡◌, ℕ, zero, suc, ◌<◌, ◌⊎◌, inl, inr, Bool, true, false, ◌||◌, List, [], ◌∷◌, ◌++◌, length, set, drop, take, map, replicate, refl, ap, sym, subst, arith, slice_get, bytes_eq, if◌then◌else◌, nat_eq}
use Rattle.std.specs.List.{AllByRecursion, IsDistinct, list_any}
use Rattle.std.specs.Cmp.Lexicographic.{pointwise}
use Rattle.std.proofs.lemmas.Slice.Eq.{bytes_eq-Decides}
use Rattle.std.specs.declared.option.Option.TheVariants.{Some, None}
use Rattle.symbol_scopes.specs.ScopeMarks.{Name}
use Rattle.symbol_scopes.specs.Slots.{AreDistinctNames}

module _ {A : Type 0} where
  -- what stands in a list stands there with more behind it
  pub get-front : (xs ys : List A) (i : ℕ) (x : A) → slice_get xs i ≡ Some x
      → slice_get (xs ++ ys) i ≡ Some x
  get-front [] ys i x e = absurd (cc)
  get-front (y ∷ xs) ys zero x e = e
  get-front (y ∷ xs) ys (suc i) x e = get-front xs ys i x e

  -- what is pushed stands at the old length
  pub get-seam : (xs : List A) (y : A) → slice_get (xs ++ y ∷ []) (length xs) ≡ Some y
  get-seam [] y = refl
  get-seam (x ∷ xs) y = get-seam xs y

  -- what a push leaves is what was there, or what was pushed
  pub get-push : (xs : List A) (y : A) (i : ℕ) (x : A) → slice_get (xs ++ y ∷ []) i ≡ Some x
      → (slice_get xs i ≡ Some x) ⊎ ((i ≡ length xs) × (y ≡ x))
  get-push [] y zero x e = inr (refl, cc)
  get-push [] y (suc i) x e = absurd (cc)
  get-push (z ∷ xs) y zero x e = inl e
  get-push (z ∷ xs) y (suc i) x e = elim (get-push xs y i x e) [
    | inl h ↦ inl h
    | inr h ↦ inr (ap suc h.0, h.1)
  ]

  -- a place below the length reads the front alone
  pub get-before : (xs ys : List A) (i : ℕ) → i < length xs
      → slice_get (xs ++ ys) i ≡ slice_get xs i
  get-before [] ys i less = absurd (omega arith)
  get-before (x ∷ xs) ys zero less = refl
  get-before (x ∷ xs) ys (suc i) less = get-before xs ys i (omega arith)

  -- a write is read again
  pub get-written : (xs : List A) (i : ℕ) (y : A) → i < length xs
      → slice_get (set xs i y) i ≡ Some y
  get-written [] i y less = absurd (omega arith)
  get-written (x ∷ xs) zero y less = refl
  get-written (x ∷ xs) (suc i) y less = get-written xs i y (omega arith)

  -- a write changes no other place
  pub get-unwritten : (xs : List A) (i j : ℕ) (y : A) → (i ≡ j → ⊥)
      → slice_get (set xs i y) j ≡ slice_get xs j
  get-unwritten [] i j y differ = refl
  get-unwritten (x ∷ xs) zero zero y differ = absurd (differ refl)
  get-unwritten (x ∷ xs) zero (suc j) y differ = refl
  get-unwritten (x ∷ xs) (suc i) zero y differ = refl
  get-unwritten (x ∷ xs) (suc i) (suc j) y differ =
      get-unwritten xs i j y (λ e. differ (ap suc e))

  -- what is left from a place on begins with what stands there
  pub drop-here : (xs : List A) (i : ℕ) (x : A) → slice_get xs i ≡ Some x
      → drop i xs ≡ x ∷ drop (suc i) xs
  drop-here [] i x e = absurd (cc)
  drop-here (y ∷ xs) zero x e = let h : y ≡ x = cc in ap (λ z. z ∷ xs) h
  drop-here (y ∷ xs) (suc i) x e = drop-here xs i x e

  -- what stands behind a front is read at its length
  pub get-middle : (xs ys : List A) (x : A) → slice_get (xs ++ x ∷ ys) (length xs) ≡ Some x
  get-middle [] ys x = refl
  get-middle (z ∷ xs) ys x = get-middle xs ys x

  -- a front is what is taken up to its length
  pub take-front : (xs ys : List A) → take (length xs) (xs ++ ys) ≡ xs
  take-front [] ys = refl
  take-front (x ∷ xs) ys = ap (λ l. x ∷ l) (take-front xs ys)

  -- past the end nothing is left
  pub drop-past : (xs : List A) (i : ℕ) → slice_get xs i ≡ None → drop i xs ≡ []
  drop-past [] zero e = refl
  drop-past [] (suc i) e = refl
  drop-past (y ∷ xs) zero e = absurd (cc)
  drop-past (y ∷ xs) (suc i) e = drop-past xs i e

-- ---- what holds of each, and of one

module _ {A : Type 0} (P : A → Type 0) where
  -- what holds of each item and of one more
  pub all-push : (xs : List A) (x : A) → AllByRecursion P xs → P x → AllByRecursion P (xs ++ x ∷ [])
  all-push [] x h k = (k, tt)
  all-push (y ∷ xs) x h k = (h.0, all-push xs x h.1 k)

  -- what follows from what holds of each item holds of each
  pub all-weaker : (Q : A → Type 0) (xs : List A) → ((x : A) → P x → Q x) → AllByRecursion P xs
      → AllByRecursion Q xs
  all-weaker Q [] less h = tt
  all-weaker Q (x ∷ xs) less h = (less x h.0, all-weaker Q xs less h.1)

-- a test that one of the items or one more passes
pub any-push : {A : Type 0} (p : A → Bool) (xs : List A) (m : A)
    → list_any p (xs ++ m ∷ []) ≡ (list_any p xs || p m)
any-push {A} p [] m = by (p m)
  where
    by : (b : Bool) → (b || false) ≡ b
    by true = refl
    by false = refl
any-push {A} p (x ∷ xs) m = by (p x) (any-push p xs m)
  where
    by : (b : Bool) → list_any p (xs ++ m ∷ []) ≡ (list_any p xs || p m)
        → (b || list_any p (xs ++ m ∷ [])) ≡ ((b || list_any p xs) || p m)
    by true e = refl
    by false e = e

-- ---- names, each once

-- names that the test finds equal are equal
pub same-name : (a b : Name) → bytes_eq a b ≡ true → a ≡ b
same-name a b = (bytes_eq-Decides a b).0

-- the test finds a name equal to itself
pub name-itself : (a : Name) → bytes_eq a a ≡ true
name-itself a = (bytes_eq-Decides a a).1 refl

-- the test of unequal names goes both ways
pub flipped : (a b : Name) → bytes_eq a b ≡ false → bytes_eq b a ≡ false
flipped a b e = by (bytes_eq b a) refl
  where
    by : (r : Bool) → bytes_eq b a ≡ r → r ≡ false
    by true h = absurd (let s = same-name b a h in let k : bytes_eq a b ≡ true = (bytes_eq-Decides a b).1 (sym s) in cc)
    by false h = refl

-- a name is apart from those behind it
apart-at : (x : Name) (ns : List Name) (n : ℕ) (name : Name)
    → AllByRecursion (λ y. bytes_eq x y ≡ false) ns → slice_get ns n ≡ Some name
    → bytes_eq x name ≡ false
apart-at x [] n name all e = absurd (cc)
apart-at x (y ∷ ns) zero name all e = let h : y ≡ name = cc in subst (λ z. bytes_eq x z ≡ false) h all.0
apart-at x (y ∷ ns) (suc n) name all e = apart-at x ns n name all.1 e

-- a write at the number of a name changes what stands for that name alone
pub set-map : {C : Type 0} (f : Name → C) (v : C) (ns : List Name) (n : ℕ) (name : Name)
    → AreDistinctNames ns → slice_get ns n ≡ Some name
    → set (map f ns) n v ≡ map (λ x. if bytes_eq name x then v else f x) ns
set-map f v [] n name distinct e = absurd (cc)
set-map {C} f v (y ∷ ns) zero name distinct e =
    let h : y ≡ name = cc in
    let first : v ≡ (if bytes_eq name y then v else f y) =
    subst (λ z. v ≡ (if bytes_eq z y then v else f y)) h
    (ap (λ b. if b then v else f y) (sym (name-itself y))) in
    let rest : map f ns ≡ map (λ x. if bytes_eq name x then v else f x) ns =
    subst (λ (z : Name). map f ns ≡ map (λ x. if bytes_eq z x then v else f x) ns) h
    (others y ns distinct.0) in
    λ i. first i ∷ rest i
  where
    others : (y : Name) (ns : List Name) → AllByRecursion (λ z. bytes_eq y z ≡ false) ns
        → map f ns ≡ map (λ x. if bytes_eq y x then v else f x) ns
    others y [] all = refl
    others y (x ∷ ns) all =
        let first : f x ≡ (if bytes_eq y x then v else f x) =
        ap (λ b. if b then v else f x) (sym all.0) in
        let rest = others y ns all.1 in
        λ i. first i ∷ rest i
set-map f v (y ∷ ns) (suc n) name distinct e =
    let unlike : bytes_eq name y ≡ false = flipped y name (apart-at y ns n name distinct.0 e) in
    let first : f y ≡ (if bytes_eq name y then v else f y) =
    ap (λ b. if b then v else f y) (sym unlike) in
    let rest = set-map f v ns n name distinct.1 e in
    λ i. first i ∷ rest i

-- the same for each name is the same list
pub map-same : {C : Type 0} (f g : Name → C) (ns : List Name) → ((x : Name) → f x ≡ g x)
    → map f ns ≡ map g ns
map-same f g ns e = λ i. map (λ x. e x i) ns

-- one thing for each name is that thing as often as there are names
pub map-one : {C : Type 0} (c : C) (ns : List Name) → replicate (length ns) c ≡ map (λ x. c) ns
map-one c [] = refl
map-one c (x ∷ ns) = ap (λ l. c ∷ l) (map-one c ns)

-- what stands at a place of a mapped list
pub get-map : {A C : Type 0} (f : A → C) (ns : List A) (n : ℕ) (name : A)
    → slice_get ns n ≡ Some name → slice_get (map f ns) n ≡ Some (f name)
get-map f [] n name e = absurd (cc)
get-map f (x ∷ ns) zero name e = let h : x ≡ name = cc in ap (λ z. Some (f z)) h
get-map f (x ∷ ns) (suc n) name e = get-map f ns n name e

-- what a mapped list has at a place comes of what stands there
pub get-unmap : {A C : Type 0} (f : A → C) (ns : List A) (n : ℕ) (y : C)
    → slice_get (map f ns) n ≡ Some y → (x : A) × (slice_get ns n ≡ Some x) × (f x ≡ y)
get-unmap f [] n y e = absurd (cc)
get-unmap f (x ∷ ns) zero y e = (x, refl, cc)
get-unmap f (x ∷ ns) (suc n) y e = get-unmap f ns n y e

-- names are apart where `==` finds them so
pub distinct-names : (ns : List Name) → IsDistinct (pointwise nat_eq) ns → AreDistinctNames ns
unfolding IsDistinct
distinct-names [] d = tt
distinct-names (n ∷ ns) d = (d.0, distinct-names ns d.1)
