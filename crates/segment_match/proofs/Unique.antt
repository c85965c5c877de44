-- There is at most one list of sizes: the given one where sizes have to be given, and otherwise the
-- one that `spread` gives.
use Rattle.std.proofs.Common.{Option, Some, None, IfSome, IsSomeAnd, subst}
use Rattle.std.proofs.Common.{◌≡◌, ℕ, ◌+◌, ◌-◌, ◌<◌, ◌≤◌}
use Rattle.std.proofs.Common.{zero, suc, List, [], ◌∷◌, sum, map, length, refl, ap, ◌∙◌, sym}
use Rattle.std.proofs.Common.{arith, ℤ, pos, ◌<ℤ◌, get_or, true, not, cond}
use Rattle.std.proofs.lemmas.Bool.{ltb-true, lt-ltb}
use Rattle.std.proofs.lemmas.Int.{ints}
use Rattle.std.proofs.lemmas.List.{length-map}
use Rattle.std.proofs.lemmas.List.Recursion.{is_count_by}
use Rattle.std.proofs.lemmas.List.Sums.{sum_by-cons}
use Rattle.std.proofs.Math.ListN.{get_or-map}
use Rattle.std.specs.List.{count_by}
use Rattle.arrayvec.specs.ArrayVec.{ArrayVec}
use Rattle.dialect_defs.specs.Segments.{FitsArity, FitEach, Segments, needs_sizes, is_single}
use Rattle.dialect_defs.specs.declared.entry.Arity.{Arity}
use Rattle.dialect_defs.specs.declared.entry.Arity.TheVariants.{Single, Optional, Variadic}
use Rattle.dialect_defs.specs.declared.entry.Entry.{Entry}
use Rattle.segment_match.specs.Spread.{flexible, looseness, size_at, spread}

sum-cons : (n : ℕ) (ns : List ℕ) → sum (n ∷ ns) ≡ n + sum ns
sum-cons n ns = sum_by-cons (λ x. x) n ns

-- there is a size for each entry
pub FitEach-length : (es : List Entry) (s : List ℕ) → FitEach es s → length s ≡ length es
FitEach-length [] [] h = refl
FitEach-length (e ∷ es) (n ∷ ns) h = ap suc (FitEach-length es ns h.1)
FitEach-length [] (n ∷ ns) h = absurd h
FitEach-length (e ∷ es) [] h = absurd h

-- the entries that aren't single are counted alike
looseness-counts : (a : Arity) (n : ℕ) → looseness a + n ≡ cond (not (is_single a)) (1 + n) n
looseness-counts Single n = omega arith
looseness-counts Optional n = refl
looseness-counts Variadic n = refl

flexible-counts : (es : List Entry) → flexible es ≡ count_by (λ e. not (is_single e.arity)) es
flexible-counts es =
    is_count_by flexible (λ e. not (is_single e.arity)) refl
    (λ e rest. looseness-counts e.arity (flexible rest)) es

-- a single entry's size is 1
single-size : (a : Arity) (n : ℕ) → FitsArity a n → looseness a ≡ 0 → n ≡ 1
single-size Single n h z = h
single-size Optional n h z = absurd (omega arith)
single-size Variadic n h z = absurd (omega arith)

at-least : (a : Arity) (n : ℕ) → FitsArity a n → 1 ≤ n + looseness a
at-least Single n h = omega arith
at-least Optional n h = omega arith
at-least Variadic n h = omega arith

loose-at-most : (a : Arity) → looseness a ≤ 1
loose-at-most Single = omega arith
loose-at-most Optional = omega arith
loose-at-most Variadic = omega arith

size-single : (a : Arity) (rest : ℕ) → looseness a ≡ 0 → size_at a rest ≡ 1
size-single Single rest z = refl
size-single Optional rest z = absurd (omega arith)
size-single Variadic rest z = absurd (omega arith)

size-loose : (a : Arity) (rest : ℕ) → 0 < looseness a → size_at a rest ≡ rest
size-loose Single rest z = absurd (omega arith)
size-loose Optional rest z = refl
size-loose Variadic rest z = refl

-- sizes that fit are in all as many as the single entries at least
pub sum-at-least : (es : List Entry) (s : List ℕ) → FitEach es s
    → length es ≤ sum s + flexible es
sum-at-least [] [] h = omega arith
sum-at-least (e ∷ es) (n ∷ ns) h =
    omega (arith, sum-cons n ns, sum-at-least es ns h.1, at-least e.arity n h.0)
sum-at-least [] (n ∷ ns) h = absurd h
sum-at-least (e ∷ es) [] h = absurd h

-- the entries that aren't single are some of the entries
pub flexible-le-length : (es : List Entry) → flexible es ≤ length es
flexible-le-length [] = omega arith
flexible-le-length (e ∷ es) = omega (arith, flexible-le-length es, loose-at-most e.arity)

-- where all are single, the sizes are as many as the entries in all
rigid-sum : (es : List Entry) (s : List ℕ) → FitEach es s → flexible es ≡ 0 → sum s ≡ length es
rigid-sum [] [] h z = refl
rigid-sum (e ∷ es) (n ∷ ns) h z =
    let one : n ≡ 1 = single-size e.arity n h.0 (omega arith) in
    omega (arith, sum-cons n ns, rigid-sum es ns h.1 (omega arith))
rigid-sum [] (n ∷ ns) h z = absurd h
rigid-sum (e ∷ es) [] h z = absurd h

rigid : (es : List Entry) (s : List ℕ) (rest : ℕ) → FitEach es s → flexible es ≡ 0
    → s ≡ spread es rest
rigid [] [] rest h z = refl
rigid (e ∷ es) (n ∷ ns) rest h z =
    let one : n ≡ 1 = single-size e.arity n h.0 (omega arith) in
    let same : size_at e.arity rest ≡ 1 = size-single e.arity rest (omega arith) in
    cc (rigid es ns rest h.1 (omega arith))
rigid [] (n ∷ ns) rest h z = absurd h
rigid (e ∷ es) [] rest h z = absurd h

-- the step, given that the rest is determined where it has the other entry
loose-step : (e : Entry) (es : List Entry) (n : ℕ) (ns : List ℕ) (rest k : ℕ)
    → looseness e.arity ≡ k → FitEach (e ∷ es) (n ∷ ns) → flexible (e ∷ es) ≡ 1
    → sum (n ∷ ns) + 1 ≡ length (e ∷ es) + rest
    → (flexible es ≡ 1 → sum ns + 1 ≡ length es + rest → ns ≡ spread es rest)
    → (n ∷ ns) ≡ spread (e ∷ es) rest
loose-step e es n ns rest zero z h f q tail =
    let one : n ≡ 1 = single-size e.arity n h.0 z in
    let same : size_at e.arity rest ≡ 1 = size-single e.arity rest z in
    let later : ns ≡ spread es rest = tail (omega arith) (omega (arith, sum-cons n ns)) in
    cc
loose-step e es n ns rest (suc k) z h f q tail =
    let none : flexible es ≡ 0 = omega arith in
    let later : ns ≡ spread es rest = rigid es ns rest h.1 none in
    let total : sum ns ≡ length es = rigid-sum es ns h.1 none in
    let here : n ≡ rest = omega (arith, sum-cons n ns) in
    let same : size_at e.arity rest ≡ rest = size-loose e.arity rest (omega arith) in
    cc

loose : (es : List Entry) (s : List ℕ) (rest : ℕ) → FitEach es s → flexible es ≡ 1
    → sum s + 1 ≡ length es + rest → s ≡ spread es rest
loose [] s rest h f e = absurd (omega arith)
loose (e ∷ es) [] rest h f q = absurd h
loose (e ∷ es) (n ∷ ns) rest h f q =
    loose-step e es n ns rest (looseness e.arity) refl h f q (loose es ns rest h.1)

determined-by : (es : List Entry) (s : List ℕ) (n rest f : ℕ) → flexible es ≡ f → flexible es < 2
    → sum s ≡ n → rest ≡ n - (length es - flexible es) → FitEach es s → s ≡ spread es rest
determined-by es s n rest zero z few total left h = rigid es s rest h z
determined-by es s n rest (suc f) z few total left h =
    loose es s rest h (omega arith) (omega (arith, sum-at-least es s h, flexible-le-length es))

-- sizes with at most one entry that isn't single are determined by their sum
pub determined : (es : List Entry) (s : List ℕ) (n rest : ℕ) → flexible es < 2 → sum s ≡ n
    → rest ≡ n - (length es - flexible es) → FitEach es s → s ≡ spread es rest
determined es s n rest few total left h =
    determined-by es s n rest (flexible es) refl few total left h

-- a list with a negative number is no list of naturals
pub negative : (g : List ℤ) (s : List ℕ) (i : ℕ) → get_or g i (pos 0) <ℤ pos 0 → g ≡ map pos s → ⊥
negative g s i h e =
    let here : get_or g i (pos 0) ≡ pos (get_or s i 0) =
    ap (λ l. get_or l i (pos 0)) e ∙ get_or-map pos s i 0 in
    omega (arith, ints)

-- lists of natural numbers that are equal as signed numbers are equal
pub naturals-same : (s t : List ℕ) → map pos s ≡ map pos t → s ≡ t
naturals-same [] [] e = refl
naturals-same [] (y ∷ t) e = cc
naturals-same (x ∷ s) [] e = cc
naturals-same (x ∷ s) (y ∷ t) e =
    let rest : map pos s ≡ map pos t = cc in
    let tails : s ≡ t = naturals-same s t rest in
    let heads : x ≡ y = cc in
    cc

few-need-none : (es : List Entry) → flexible es < 2 → needs_sizes es ≡ true → ⊥
few-need-none es few need =
    let many : 1 < count_by (λ e. not (is_single e.arity)) es = ltb-true _ _ need in
    omega (arith, flexible-counts es)

many-need : (es : List Entry) → 2 ≤ flexible es → needs_sizes es ≡ true
many-need es many =
    let many : 1 < count_by (λ e. not (is_single e.arity)) es =
    omega (arith, flexible-counts es) in
    lt-ltb _ _ many

-- sizes that were checked, where none have to be given
pub few-some : (r : Option (ArrayVec ℕ)) (es : List Entry) (n : ℕ) (g : Option (List ℤ))
    → flexible es < 2 → IfSome r (λ v. FitEach es v.items × (sum v.items ≡ n))
    → IfSome r (λ v. Segments es n g v.items)
few-some None es n g few h = tt
few-some (Some v) es n g few h = record {
  fit = h.0;
  total = h.1;
  as_given = λ need. absurd (few-need-none es few need);
}

-- what is checked is the only list
checked-only : (r : Option (ArrayVec ℕ)) (es : List Entry) (n : ℕ) (g : Option (List ℤ))
    (t s : List ℕ) → s ≡ t
    → (FitEach es t → sum t ≡ n → IsSomeAnd r (λ v. v.items ≡ t))
    → Segments es n g s → IsSomeAnd r (λ v. v.items ≡ s)
checked-only r es n g t s same check h =
    subst (λ l. IsSomeAnd r (λ v. v.items ≡ l)) (sym same)
    (check (subst (FitEach es) same h.fit) (ap sum (sym same) ∙ h.total))

-- where at most one entry isn't single, the sizes are those that `spread` gives
pub few-only : (r : Option (ArrayVec ℕ)) (es : List Entry) (n rest : ℕ) (g : Option (List ℤ))
    (t : List ℕ) → flexible es < 2 → rest ≡ n - (length es - flexible es) → t ≡ spread es rest
    → (FitEach es t → sum t ≡ n → IsSomeAnd r (λ v. v.items ≡ t))
    → (s : List ℕ) → Segments es n g s → IsSomeAnd r (λ v. v.items ≡ s)
few-only r es n rest g t few left spreads check s h =
    checked-only r es n g t s
    (determined es s n rest few h.total left h.fit ∙ sym spreads) check h

-- sizes of entries that need given ones are the given ones
pub given-is : (es : List Entry) (n : ℕ) (g : Option (List ℤ)) (l : List ℤ) (s : List ℕ)
    → 2 ≤ flexible es → g ≡ Some l → Segments es n g s → l ≡ map pos s
given-is es n g l s many e h =
    let given : g ≡ Some (map pos s) = h.as_given (many-need es many) in
    cc

-- where sizes have to be given, there is one for each entry
pub given-length : (es : List Entry) (n : ℕ) (g : Option (List ℤ)) (l : List ℤ) (s : List ℕ)
    → 2 ≤ flexible es → g ≡ Some l → Segments es n g s → length l ≡ length es
given-length es n g l s many e h =
    ap length (given-is es n g l s many e h) ∙ length-map s pos ∙ FitEach-length es s h.fit

-- where sizes have to be given and aren't, there are none
pub given-none : (es : List Entry) (n : ℕ) (g : Option (List ℤ)) (s : List ℕ)
    → 2 ≤ flexible es → g ≡ None → Segments es n g s → ⊥
given-none es n g s many e h =
    let given : g ≡ Some (map pos s) = h.as_given (many-need es many) in
    cc

-- where sizes have to be given, the sizes are the given ones
pub given-only : (r : Option (ArrayVec ℕ)) (es : List Entry) (n : ℕ) (g : Option (List ℤ))
    (l : List ℤ) (t : List ℕ) → 2 ≤ flexible es → g ≡ Some l → l ≡ map pos t
    → (FitEach es t → sum t ≡ n → IsSomeAnd r (λ v. v.items ≡ t))
    → (s : List ℕ) → Segments es n g s → IsSomeAnd r (λ v. v.items ≡ s)
given-only r es n g l t many e read check s h =
    checked-only r es n g t s
    (naturals-same s t (sym (given-is es n g l s many e h) ∙ read)) check h
