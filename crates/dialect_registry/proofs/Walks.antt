-- What is known after a walk over a list, item by item.
use Rattle.std.proofs.Common.{◌≡◌, ℕ, zero, suc, ◌+◌, ◌<◌, ◌≤◌, ◌⊎◌, inl, inr, List, [], ◌∷◌, ◌++◌, length, take, get_or, map, refl, sym, ◌∙◌, ap, subst, append-nil, append_assoc, arith}
use Rattle.std.proofs.lemmas.Bool.{cases_lt}
use Rattle.std.specs.List.{flat_map, Contains, slice_get}
use Rattle.std.specs.Prelude.{OnOk}
use Rattle.std.specs.declared.result.Result.{Result}
use Rattle.std.specs.declared.result.Result.TheVariants.{Ok, Err}
use Rattle.std.specs.declared.option.Option.{Option}
use Rattle.std.specs.declared.option.Option.TheVariants.{None, Some}
use Rattle.std.proofs.lemmas.Grind.{flat_map-append}
use Rattle.std.proofs.lemmas.List.{map-append, take_more}
use Rattle.std.proofs.lemmas.List.Elements.{Contains-append_left, Contains-append_right, Contains-append_cases}
use Rattle.std.proofs.Math.Seq.{take-length}
use Rattle.first_fault.specs.declared.fault.Fault.{Fault}
use Rattle.first_fault.specs.Firsts.{earlier_of, IsFirst}
use Rattle.first_fault.proofs.Firsts.{first-same, first-either}
use Rattle.dialect_registry.specs.declared.scope.Scope.{Scope}
use Rattle.dialect_registry.specs.NameFaults.{NameMark}
use Rattle.dialect_registry.specs.Parts.{Among, BehindBelow, Behind}
use Rattle.dialect_registry.specs.Scopes.{Knows, Sees}

-- ---- marks

-- what follows of a success
pub on-ok : {T E P Q : Type 0} (r : Result T E) → (P → Q) → OnOk r P → OnOk r Q
on-ok (Ok x) f p = f p
on-ok (Err e) f p = tt

-- nothing was seen
pub sees-none : (s : Scope) → Sees [] s s
sees-none s = λ before k. subst (λ l. Knows l s) (sym (append-nil before)) k

-- some marks, and then others
pub sees-then : (xs ys : List NameMark) (r s t : Scope) → Sees xs r s → Sees ys s t
    → Sees (xs ++ ys) r t
sees-then xs ys r s t first next = λ before k.
    subst (λ l. Knows l t) (append_assoc before xs ys) (next (before ++ xs) (first before k))

pub flat_map-more : {A B : Type 0} (f : A → List B) (xs : List A) (i : ℕ) (x : A)
    → i < length xs → x ≡ get_or xs i x
    → flat_map f (take i xs) ++ f x ≡ flat_map f (take (i + 1) xs)
flat_map-more f xs i x less is =
    ap (λ l. flat_map f (take i xs) ++ l) (sym (append-nil (f x)))
    ∙ sym (flat_map-append f (take i xs) (x ∷ []))
    ∙ ap (λ y. flat_map f (take i xs ++ y ∷ [])) is
    ∙ ap (flat_map f) (sym (take_more xs i x less))

-- a walk that saw the marks of some items saw those of the next one after its step
pub sees-more : {A : Type 0} (f : A → List NameMark) (xs : List A) (i : ℕ) (x : A)
    (start old new : Scope) → i < length xs → x ≡ get_or xs i x
    → Sees (flat_map f (take i xs)) start old → Sees (f x) old new
    → Sees (flat_map f (take (i + 1) xs)) start new
sees-more f xs i x start old new less is sofar step =
    subst (λ l. Sees l start new) (flat_map-more f xs i x less is)
    (sees-then (flat_map f (take i xs)) (f x) start old new sofar step)

-- such a step, where each item has one mark
pub sees-map : {A : Type 0} (f : A → NameMark) (xs : List A) (i : ℕ) (x : A)
    (start old new : Scope) → i < length xs → x ≡ get_or xs i x
    → Sees (map f (take i xs)) start old → Sees (f x ∷ []) old new
    → Sees (map f (take (i + 1) xs)) start new
sees-map f xs i x start old new less is sofar step =
    let e : map f (take i xs) ++ f x ∷ [] ≡ map f (take (i + 1) xs) =
    ap (λ y. map f (take i xs) ++ f y ∷ []) is
    ∙ sym (map-append f (take i xs) (get_or xs i x ∷ []))
    ∙ ap (map f) (sym (take_more xs i x less)) in
    subst (λ l. Sees l start new) e
    (sees-then (map f (take i xs)) (f x ∷ []) start old new sofar step)

pub whole-take : {A : Type 0} (xs : List A) (i : ℕ) → i ≤ length xs → length xs ≤ i → take i xs ≡ xs
whole-take xs i most least =
    let e : i ≡ length xs = omega arith in
    ap (λ n. take n xs) e ∙ take-length xs

-- at the end of a walk, the marks of every item were seen
pub sees-all : {A : Type 0} (f : List A → List NameMark) (xs : List A) (i : ℕ)
    (start s : Scope) → i ≤ length xs → length xs ≤ i
    → Sees (f (take i xs)) start s → Sees (f xs) start s
sees-all f xs i start s most least k =
    subst (λ l. Sees (f l) start s) (whole-take xs i most least) k

-- ---- the first fault of a list of things that have faults

contains-one : {A : Type 0} (x y : A) → Contains (x ∷ []) y → x ≡ y
contains-one x y (k, less, is) = only k less is
  where
    only : (k : ℕ) → k < 1 → get_or (x ∷ []) k y ≡ y → x ≡ y
    only zero less is = is
    only (suc k) less is = absurd (omega arith)

-- with one item more, the first fault is the earlier of the first so far and the item's own
pub among-more : {A : Type 0} (P : A → Fault → Type 0) (xs : List A) (i : ℕ) (x : A)
    (a b : Option Fault) → i < length xs → x ≡ get_or xs i x
    → IsFirst (Among P (take i xs)) a → IsFirst (P x) b
    → IsFirst (Among P (take (i + 1) xs)) (earlier_of a b)
among-more {A = A} P xs i x a b less is first one =
    let e : take (i + 1) xs ≡ take i xs ++ x ∷ [] =
    take_more xs i x less ∙ ap (λ y. take i xs ++ y ∷ []) (sym is) in
    subst (λ l. IsFirst (Among P l) (earlier_of a b)) (sym e)
    (first-same (λ f. Among P (take i xs) f ⊎ P x f) (Among P (take i xs ++ x ∷ []))
    (earlier_of a b) to back (first-either (Among P (take i xs)) (P x) a b first one))
  where
    to : (f : Fault) → Among P (take i xs) f ⊎ P x f → Among P (take i xs ++ x ∷ []) f
    to f (inl (y, has, p)) = (y, Contains-append_left (take i xs) (x ∷ []) y has, p)
    to f (inr p) = (x, Contains-append_right (take i xs) (x ∷ []) x (0, omega arith, refl), p)

    back : (f : Fault) → Among P (take i xs ++ x ∷ []) f → Among P (take i xs) f ⊎ P x f
    back f (y, has, p) = elim (Contains-append_cases (take i xs) (x ∷ []) y has) [
      | inl h ↦ inl (y, h, p)
      | inr h ↦ inr (subst (λ (z : A). P z f) (sym (contains-one x y h)) p)
    ]

-- without items there is no fault
pub among-none : {A : Type 0} (P : A → Fault → Type 0) → IsFirst (Among P []) None
among-none P = λ f (x, has, p). absurd (let h = has.1 in omega arith)

-- at the end of a walk, the first fault is that of every item
pub among-all : {A : Type 0} (P : A → Fault → Type 0) (xs : List A) (i : ℕ) (a : Option Fault)
    → i ≤ length xs → length xs ≤ i
    → IsFirst (Among P (take i xs)) a → IsFirst (Among P xs) a
among-all P xs i a most least first =
    subst (λ l. IsFirst (Among P l) a) (whole-take xs i most least) first

-- ---- the same, where each thing is judged by those before it

-- the item at a place is found there
pub slice_get-item : {A : Type 0} (xs : List A) (i : ℕ) (x : A) → i < length xs → x ≡ get_or xs i x
    → slice_get xs i ≡ Some x
slice_get-item [] i x less is = absurd (omega arith)
slice_get-item (y ∷ xs) zero x less is = ap Some (sym is)
slice_get-item (y ∷ xs) (suc i) x less is = slice_get-item xs i x (omega arith) is

-- with one item more, the first fault is the earlier of the first so far and the item's own
pub behind-more : {A : Type 0} (P : List A → A → Fault → Type 0) (earlier xs : List A) (i : ℕ)
    (x : A) (a b : Option Fault) → i < length xs → x ≡ get_or xs i x
    → IsFirst (BehindBelow P earlier xs i) a → IsFirst (P (earlier ++ take i xs) x) b
    → IsFirst (BehindBelow P earlier xs (i + 1)) (earlier_of a b)
behind-more {A = A} P earlier xs i x a b less is first one =
    first-same (λ f. BehindBelow P earlier xs i f ⊎ P (earlier ++ take i xs) x f)
    (BehindBelow P earlier xs (i + 1)) (earlier_of a b) to back
    (first-either (BehindBelow P earlier xs i) (P (earlier ++ take i xs) x) a b first one)
  where
    here : slice_get xs i ≡ Some x
    here = slice_get-item xs i x less is

    to : (f : Fault) → BehindBelow P earlier xs i f ⊎ P (earlier ++ take i xs) x f
        → BehindBelow P earlier xs (i + 1) f
    to f (inl (j, below, y, at, p)) = (j, omega arith, y, at, p)
    to f (inr p) = (i, omega arith, x, here, p)

    last : (f : Fault) (j : ℕ) (y : A) → j ≡ i → slice_get xs j ≡ Some y
        → P (earlier ++ take j xs) y f → P (earlier ++ take i xs) x f
    last f j y e at p =
        let both : Some y ≡ Some x = sym at ∙ ap (λ n. slice_get xs n) e ∙ here in
        let same : y ≡ x = cc in
        subst (λ (z : A). P (earlier ++ take i xs) z f) same
        (subst (λ n. P (earlier ++ take n xs) y f) e p)

    split : (j : ℕ) → j < i + 1 → (j < i) ⊎ (j ≡ i)
    split j below = elim (cases_lt j i) [ inl h ↦ inl h | inr le ↦ inr (omega arith) ]

    back : (f : Fault) → BehindBelow P earlier xs (i + 1) f
        → BehindBelow P earlier xs i f ⊎ P (earlier ++ take i xs) x f
    back f (j, below, y, at, p) = elim (split j below) [
      | inl h ↦ inl (j, h, y, at, p)
      | inr h ↦ inr (last f j y h at p)
    ]

-- of no items there is no fault
pub behind-none : {A : Type 0} (P : List A → A → Fault → Type 0) (earlier xs : List A)
    → IsFirst (BehindBelow P earlier xs 0) None
behind-none P earlier xs = λ f (j, below, y, at, p). absurd (omega arith)

-- at the end of a walk, the first fault is that of every item
pub behind-all : {A : Type 0} (P : List A → A → Fault → Type 0) (earlier xs : List A) (i : ℕ)
    (a : Option Fault) → i ≤ length xs → length xs ≤ i
    → IsFirst (BehindBelow P earlier xs i) a → IsFirst (Behind P earlier xs) a
behind-all P earlier xs i a most least first =
    let e : i ≡ length xs = omega arith in
    subst (λ n. IsFirst (BehindBelow P earlier xs n) a) e first
