-- Lists that are the same at each place, and lists that are cut into segments.
use Rattle.std.proofs.Common.{◌≡◌, ℕ, zero, suc, ◌+◌, ◌-◌, ◌<◌, List, [], ◌∷◌, ◌++◌, length}
use Rattle.std.proofs.Common.{map, sum, take, drop, refl, sym, ◌∙◌, ap, subst, arith, Option, Some}
use Rattle.std.proofs.Common.{None, option_map, length-drop, length-take, slice_get, IsSomeAnd}
use Rattle.std.proofs.lemmas.List.Sums.{sum_by-cons}
use Rattle.std.specs.List.{AllByRecursion}
use Rattle.dialect_defs.specs.declared.entry.Entry.{Entry}
use Rattle.dialect_defs.specs.Segments.{FitEach, FitsArity, parts}

-- ---- options and lists of options

-- what is there is one thing
pub some-same : {A : Type 0} (x y : A) → Some x ≡ Some y → x ≡ y
some-same x y e = cc

-- what stands in two places is the same where what is asked of it says what it is
pub same-some : {A : Type 0} (P Q : A → Type 0) (o p : Option A) → IsSomeAnd o P → IsSomeAnd p Q
    → ((x y : A) → P x → Q y → x ≡ y) → o ≡ p
same-some P Q None p a b one = absurd a
same-some P Q (Some x) None a b one = absurd b
same-some P Q (Some x) (Some y) a b one = ap Some (one x y a b)

-- lists are the same where they are so as lists of what is there
pub map-some : {A : Type 0} (xs ys : List A) → map Some xs ≡ map Some ys → xs ≡ ys
map-some [] [] e = refl
map-some [] (y ∷ ys) e = absurd (cc)
map-some (x ∷ xs) [] e = absurd (cc)
map-some (x ∷ xs) (y ∷ ys) e =
    let tails : map Some xs ≡ map Some ys = cc in
    let heads : Some x ≡ Some y = cc in
    let first : x ≡ y = some-same x y heads in
    let rest : xs ≡ ys = map-some xs ys tails in
    cc

-- the same of lists of lists
pub map-map-some : {A : Type 0} (xs ys : List (List A)) → map (map Some) xs ≡ map (map Some) ys
    → xs ≡ ys
map-map-some [] [] e = refl
map-map-some [] (y ∷ ys) e = absurd (cc)
map-map-some (x ∷ xs) [] e = absurd (cc)
map-map-some (x ∷ xs) (y ∷ ys) e =
    let tails : map (map Some) xs ≡ map (map Some) ys = cc in
    let heads : map Some x ≡ map Some y = cc in
    let first : x ≡ y = map-some x y heads in
    let rest : xs ≡ ys = map-map-some xs ys tails in
    cc

-- the same of options
pub option-some : {A : Type 0} (o p : Option A) → option_map Some o ≡ option_map Some p → o ≡ p
option-some None None e = refl
option-some None (Some y) e = absurd (cc)
option-some (Some x) None e = absurd (cc)
option-some (Some x) (Some y) e =
    let inner : Some x ≡ Some y = some-same (Some x) (Some y) e in
    inner

-- lists with the same at each place
pub same-places : {A : Type 0} (xs ys : List A) → length xs ≡ length ys
    → ((i : ℕ) → i < length xs → slice_get xs i ≡ slice_get ys i) → xs ≡ ys
same-places [] [] e f = refl
same-places [] (y ∷ ys) e f = absurd (omega arith)
same-places (x ∷ xs) [] e f = absurd (omega arith)
same-places (x ∷ xs) (y ∷ ys) e f =
    let first : x ≡ y = some-same x y (f 0 (omega arith)) in
    let rest : xs ≡ ys =
    same-places xs ys (omega arith) (λ i within. f (suc i) (omega arith)) in
    cc

-- ---- segments

-- a list is its front and what is behind that
cut-here : {A : Type 0} (n : ℕ) (xs : List A) → take n xs ++ drop n xs ≡ xs
cut-here zero xs = refl
cut-here (suc n) [] = refl
cut-here (suc n) (x ∷ xs) = ap (λ w. x ∷ w) (cut-here n xs)

-- lists with the same segments are the same
pub parts-exact : (ns xs ys : List ℕ) → sum ns ≡ length xs → sum ns ≡ length ys
    → parts ns xs ≡ parts ns ys → xs ≡ ys
parts-exact [] [] [] e k same = refl
parts-exact [] [] (y ∷ ys) e k same = absurd (omega arith)
parts-exact [] (x ∷ xs) ys e k same = absurd (omega arith)
parts-exact (n ∷ ns) xs ys e k same =
    let total : sum (n ∷ ns) ≡ n + sum ns = sum_by-cons (λ x. x) n ns in
    let left : length (drop n xs) ≡ length xs - n = length-drop n xs in
    let left2 : length (drop n ys) ≡ length ys - n = length-drop n ys in
    let first : take n xs ≡ take n ys = cc in
    let later : parts ns (drop n xs) ≡ parts ns (drop n ys) = cc in
    let rest : drop n xs ≡ drop n ys =
    parts-exact ns (drop n xs) (drop n ys) (omega arith) (omega arith) later in
    sym (cut-here n xs)
    ∙ (ap (λ w. w ++ drop n xs) first ∙ (ap (λ w. take n ys ++ w) rest ∙ cut-here n ys))

-- what holds of two lists holds of both together
pub all-joined : {A : Type 0} (P : A → Type 0) (xs ys : List A) → AllByRecursion P xs
    → AllByRecursion P ys → AllByRecursion P (xs ++ ys)
all-joined P [] ys a b = b
all-joined P (x ∷ xs) ys (p, a) b = (p, all-joined P xs ys a b)

-- what holds of all in each segment holds of all
pub all-segments : {A : Type 0} (P : A → Type 0) (ns : List ℕ) (xs : List A)
    → sum ns ≡ length xs
    → ((i : ℕ) → i < length ns → IsSomeAnd (slice_get (parts ns xs) i) (AllByRecursion P))
    → AllByRecursion P xs
all-segments P [] [] e h = tt
all-segments P [] (x ∷ xs) e h = absurd (omega arith)
all-segments P (n ∷ ns) xs e h =
    let total : sum (n ∷ ns) ≡ n + sum ns = sum_by-cons (λ x. x) n ns in
    let left : length (drop n xs) ≡ length xs - n = length-drop n xs in
    let rest : AllByRecursion P (drop n xs) =
    all-segments P ns (drop n xs) (omega arith) (λ i within. h (suc i) (omega arith)) in
    subst (AllByRecursion P) (cut-here n xs)
    (all-joined P (take n xs) (drop n xs) (h 0 (omega arith)) rest)

-- there are as many segments as sizes
pub parts-length : {A : Type 0} (ns : List ℕ) (xs : List A) → length (parts ns xs) ≡ length ns
parts-length [] xs = refl
parts-length (n ∷ ns) xs = ap suc (parts-length ns (drop n xs))

-- a segment is as long as its size
pub part-size : {A : Type 0} (ns : List ℕ) (xs : List A) (i : ℕ) → sum ns ≡ length xs
    → slice_get ns i ≡ option_map length (slice_get (parts ns xs) i)
part-size [] xs i e = refl
part-size (n ∷ ns) xs zero e =
    let total : sum (n ∷ ns) ≡ n + sum ns = sum_by-cons (λ x. x) n ns in
    let long : length (take n xs) ≡ n = grind (arith, length-take) in
    ap Some (sym long)
part-size (n ∷ ns) xs (suc i) e =
    let total : sum (n ∷ ns) ≡ n + sum ns = sum_by-cons (λ x. x) n ns in
    let left : length (drop n xs) ≡ length xs - n = length-drop n xs in
    part-size ns (drop n xs) i (omega arith)

-- the size at an entry's place fits the entry
pub fits-at : (es : List Entry) (ns : List ℕ) (i : ℕ) (e : Entry) → FitEach es ns
    → slice_get es i ≡ Some e → IsSomeAnd (slice_get ns i) (FitsArity e.arity)
fits-at [] [] i e fit is = absurd (cc)
fits-at [] (n ∷ ns) i e fit is = absurd fit
fits-at (x ∷ es) [] i e fit is = absurd fit
fits-at (x ∷ es) (n ∷ ns) zero e (fits, fit) is =
    subst (λ (y : Entry). FitsArity y.arity n) (some-same x e is) fits
fits-at (x ∷ es) (n ∷ ns) (suc i) e (fits, fit) is = fits-at es ns i e fit is

-- where no entry stands there is no size
pub fits-past : (es : List Entry) (ns : List ℕ) (i : ℕ) → FitEach es ns
    → slice_get es i ≡ None → slice_get ns i ≡ None
fits-past [] [] i fit is = refl
fits-past [] (n ∷ ns) i fit is = absurd fit
fits-past (x ∷ es) [] i fit is = absurd fit
fits-past (x ∷ es) (n ∷ ns) zero fit is = absurd (cc)
fits-past (x ∷ es) (n ∷ ns) (suc i) (fits, fit) is = fits-past es ns i fit is
