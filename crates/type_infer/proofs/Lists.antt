-- Items of lists by their places.
use Rattle.std.proofs.Common.{take, ◌++◌, ◌⊎◌, inl, inr, ◌≡◌, ℕ, zero, suc, ◌<◌, List, [], ◌∷◌, length, Some}
use Rattle.std.proofs.Common.{refl, ap, subst, arith, slice_get, map, drop, ◌+◌, add-one}
use Rattle.attr_value.specs.Ids.{AreKnown}
use Rattle.attr_value.specs.declared.head.ValueId.{ValueId}
use Rattle.std.specs.List.{AllByRecursion, Contains}
use Rattle.attr_value.specs.Values.{Value, Values, none, more, list_of}
use Rattle.dialect_defs.specs.declared.body.VarId.{VarId}
use Rattle.dialect_defs.specs.declared.entry.Entry.{Entry}
use Rattle.dialect_defs.specs.Assignments.{Assignment, Has, HaveEach}
use Rattle.dialect_defs.specs.Operations.{EntriesHave}
use Rattle.dialect_defs.specs.Segments.{FitsArity, FitEach}

-- an item that a list contains is one of its items
pub all-of : {X : Type 0} (P : X → Type 0) (xs : List X) (x : X) → AllByRecursion P xs
    → Contains xs x → P x
all-of P [] x all has = absurd (omega (arith, has.1))
all-of P (y ∷ ys) x all (zero, within, is) = subst P is all.0
all-of P (y ∷ ys) x all (suc k, within, is) = all-of P ys x all.1 (k, omega arith, is)

pub all-by : {X : Type 0} (P : X → Type 0) (xs : List X) → ((x : X) → Contains xs x → P x)
    → AllByRecursion P xs
all-by P [] each = tt
all-by P (x ∷ xs) each = (
  each x (0, omega arith, refl),
  all-by P xs (λ y has. each y (suc has.0, omega (arith, has.1), has.2)),
)

pub contains-get : {X : Type 0} (xs : List X) (k : ℕ) (x : X) → slice_get xs k ≡ Some x
    → Contains xs x
contains-get [] k x is = absurd (cc)
contains-get (y ∷ ys) zero x is = let same : y ≡ x = cc in (0, omega arith, same)
contains-get (y ∷ ys) (suc k) x is =
    let rest = contains-get ys k x is in (suc rest.0, omega (arith, rest.1), rest.2)

pub get-contains : {X : Type 0} (xs : List X) (x : X) → Contains xs x
    → (k : ℕ) × (slice_get xs k ≡ Some x)
get-contains [] x has = absurd (omega (arith, has.1))
get-contains (y ∷ ys) x (zero, within, is) = (0, ap Some is)
get-contains (y ∷ ys) x (suc k, within, is) =
    let rest = get-contains ys x (k, omega arith, is) in (suc rest.0, rest.1)

pub all-get : {X : Type 0} (P : X → Type 0) (xs : List X) (k : ℕ) (x : X) → AllByRecursion P xs
    → slice_get xs k ≡ Some x → P x
all-get P xs k x all is = all-of P xs x all (contains-get xs k x is)

-- what there is at a place below the length
pub get-there : {X : Type 0} (xs : List X) (k : ℕ) → k < length xs
    → (x : X) × (slice_get xs k ≡ Some x)
get-there [] k within = absurd (omega arith)
get-there (x ∷ xs) zero within = (x, refl)
get-there (x ∷ xs) (suc k) within = get-there xs k (omega arith)

-- lists of one length with the same items are the same
pub same-items : {X : Type 0} (xs ys : List X) → length xs ≡ length ys
    → ((k : ℕ) (x y : X) → slice_get xs k ≡ Some x → slice_get ys k ≡ Some y → x ≡ y) → xs ≡ ys
same-items [] [] same each = refl
same-items [] (y ∷ ys) same each = absurd (omega arith)
same-items (x ∷ xs) [] same each = absurd (omega arith)
same-items (x ∷ xs) (y ∷ ys) same each =
    let first : x ≡ y = each 0 x y refl refl in
    let rest : xs ≡ ys = same-items xs ys (omega arith) (λ k. each (suc k)) in
    cc

pub length-mapped : {X Y : Type 0} (f : X → Y) (xs : List X) → length (map f xs) ≡ length xs
length-mapped f [] = refl
length-mapped f (x ∷ xs) = ap suc (length-mapped f xs)

pub get-mapped : {X Y : Type 0} (f : X → Y) (xs : List X) (k : ℕ) (x : X)
    → slice_get xs k ≡ Some x → slice_get (map f xs) k ≡ Some (f x)
get-mapped f [] k x is = absurd (cc)
get-mapped f (y ∷ ys) zero x is = let same : y ≡ x = cc in ap (λ z. Some (f z)) same
get-mapped f (y ∷ ys) (suc k) x is = get-mapped f ys k x is

-- values one by one, as kids
abbrev pub values_of : List Value → Values
values_of [] = none
values_of (x ∷ xs) = more x.head x.kids (values_of xs)

-- kids are told by their list
pub values-list : (vs : Values) → values_of (list_of vs) ≡ vs
values-list none = refl
values-list (more head kids rest) = ap (more head kids) (values-list rest)

-- what parts have, one by one
pub each-length : (a : Assignment) (vs : List VarId) (xs : List Value) → HaveEach a vs xs
    → length vs ≡ length xs
each-length a [] [] have = refl
each-length a [] (x ∷ xs) have = absurd have
each-length a (v ∷ vs) [] have = absurd have
each-length a (v ∷ vs) (x ∷ xs) have = ap suc (each-length a vs xs have.1)

pub each-get : (a : Assignment) (vs : List VarId) (xs : List Value) (k : ℕ) (v : VarId) (x : Value)
    → HaveEach a vs xs → slice_get vs k ≡ Some v → slice_get xs k ≡ Some x → Has a v x
each-get a [] xs k v x have is there = absurd (cc)
each-get a (w ∷ vs) [] k v x have is there = absurd have
each-get a (w ∷ vs) (y ∷ xs) zero v x have is there =
    let one : w ≡ v = cc in
    let two : y ≡ x = cc in
    subst (λ z. Has a v z) two (subst (λ u. Has a u y) one have.0)
each-get a (w ∷ vs) (y ∷ xs) (suc k) v x have is there = each-get a vs xs k v x have.1 is there

-- the list of an entry
pub entries-length : (a : Assignment) (es : List Entry) (lists : List (List Value))
    → EntriesHave a es lists → length es ≡ length lists
entries-length a [] [] have = refl
entries-length a [] (xs ∷ lists) have = absurd have
entries-length a (e ∷ es) [] have = absurd have
entries-length a (e ∷ es) (xs ∷ lists) have = ap suc (entries-length a es lists have.1)

pub entries-get : (a : Assignment) (es : List Entry) (lists : List (List Value)) (k : ℕ)
    (e : Entry) (xs : List Value) → EntriesHave a es lists → slice_get es k ≡ Some e
    → slice_get lists k ≡ Some xs → AllByRecursion (Has a e.var) xs
entries-get a [] lists k e xs have is there = absurd (cc)
entries-get a (f ∷ es) [] k e xs have is there = absurd have
entries-get a (f ∷ es) (ys ∷ lists) zero e xs have is there =
    let one : f ≡ e = cc in
    let two : ys ≡ xs = cc in
    subst (λ zs. AllByRecursion (Has a e.var) zs) two
    (subst (λ g. AllByRecursion (Has a g.var) ys) one have.0)
entries-get a (f ∷ es) (ys ∷ lists) (suc k) e xs have is there =
    entries-get a es lists k e xs have.1 is there

pub fit-length : (es : List Entry) (ns : List ℕ) → FitEach es ns → length es ≡ length ns
fit-length [] [] fit = refl
fit-length [] (n ∷ ns) fit = absurd fit
fit-length (e ∷ es) [] fit = absurd fit
fit-length (e ∷ es) (n ∷ ns) fit = ap suc (fit-length es ns fit.1)

pub fit-get : (es : List Entry) (ns : List ℕ) (k : ℕ) (e : Entry) (n : ℕ) → FitEach es ns
    → slice_get es k ≡ Some e → slice_get ns k ≡ Some n → FitsArity e.arity n
fit-get [] ns k e n fit is there = absurd (cc)
fit-get (f ∷ es) [] k e n fit is there = absurd fit
fit-get (f ∷ es) (m ∷ ns) zero e n fit is there =
    let one : f ≡ e = cc in
    let two : m ≡ n = cc in
    subst (λ z. FitsArity e.arity z) two (subst (λ g. FitsArity g.arity m) one fit.0)
fit-get (f ∷ es) (m ∷ ns) (suc k) e n fit is there = fit-get es ns k e n fit.1 is there

drop-suc : {X : Type 0} (xs : List X) (i : ℕ) (x : X) → slice_get xs i ≡ Some x
    → drop i xs ≡ x ∷ drop (suc i) xs
drop-suc [] i x e = cc
drop-suc (y ∷ ys) zero x e = let same : y ≡ x = cc in ap (λ z. z ∷ ys) same
drop-suc (y ∷ ys) (suc i) x e = drop-suc ys i x e

-- an element, and what is behind it
pub drop-next : {X : Type 0} (xs : List X) (i : ℕ) (x : X) → slice_get xs i ≡ Some x
    → drop i xs ≡ x ∷ drop (i + 1) xs
drop-next xs i x e = rw add-one (drop-suc xs i x e)

pub known-at : (n : ℕ) (ids : List ValueId) (i : ℕ) (id : ValueId) → AreKnown n ids
    → slice_get ids i ≡ Some id → id.0 < n
known-at n [] i id known e = cc
known-at n (x ∷ xs) zero id known e =
    let same : x ≡ id = cc in subst (λ (k : ValueId). k.0 < n) same known.0
known-at n (x ∷ xs) (suc i) id known e = known-at n xs i id known.1 e

take-suc : {X : Type 0} (xs : List X) (i : ℕ) (x : X) → slice_get xs i ≡ Some x
    → take (suc i) xs ≡ take i xs ++ x ∷ []
take-suc [] i x e = cc
take-suc (y ∷ ys) zero x e = let same : y ≡ x = cc in ap (λ z. z ∷ []) same
take-suc (y ∷ ys) (suc i) x e = ap (λ l. y ∷ l) (take-suc ys i x e)

-- the first elements, and one more
pub take-next : {X : Type 0} (xs : List X) (i : ℕ) (x : X) → slice_get xs i ≡ Some x
    → take (i + 1) xs ≡ take i xs ++ x ∷ []
take-next xs i x e = rw add-one (take-suc xs i x e)

-- an element is the first, or among the others
pub has-rest : {X : Type 0} (x : X) (xs : List X) (y : X) → Contains (x ∷ xs) y
    → (x ≡ y) ⊎ Contains xs y
has-rest x xs y (zero, within, is) = inl is
has-rest x xs y (suc k, within, is) = inr (k, omega arith, is)
