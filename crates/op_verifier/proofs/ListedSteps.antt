-- What regions ask whose blocks' arguments are listed, part by part.
use Rattle.std.proofs.Common.{◌≡◌, ℕ, zero, suc, ◌+◌, ◌-◌, List, [], ◌∷◌, length, sum, take, drop, map}
use Rattle.std.proofs.Common.{slice_get, ap, sym, ◌∙◌, subst, arith, Some, refl}
use Rattle.std.proofs.lemmas.List.{drop-drop, drop-map, take-map, length-map}
use Rattle.std.specs.List.{AllByRecursion}
use Rattle.attr_value.specs.declared.head.ValueId.{ValueId}
use Rattle.attr_value.specs.Ids.{at, AreKnown}
use Rattle.attr_value.specs.Values.{Value}
use Rattle.dialect_defs.specs.declared.body.VarId.{VarId}
use Rattle.dialect_defs.specs.declared.entry.RegionEntry.{RegionEntry}
use Rattle.dialect_defs.specs.Assignments.{Assignment, Has, HaveEach}
use Rattle.dialect_defs.specs.Operations.{ArgsHave, RegionHas, RegionsHave}
use Rattle.dialect_defs.specs.Segments.{parts}
use Rattle.op_verifier.specs.Seen.{values_at}
use Rattle.constraint_solver.proofs.Filled.{have-lengths}
use Rattle.op_verifier.proofs.Walks.{drop-next, value-at}

-- ---- arguments

module _ (values : List Value) (vars : List VarId) (types : List ValueId) (i : ℕ) (var : VarId)
    (type : ValueId) (a : Assignment) (e : slice_get vars i ≡ Some var)
    (f : slice_get types i ≡ Some type) where
  -- what is left is the next type, and those behind it
  here : drop i (values_at values types)
      ≡ at values type.0 ∷ drop (i + 1) (values_at values types)
  here = drop-next (values_at values types) i (at values type.0) (value-at values types i type f)

  -- the next type, and those behind it
  pub types-first : HaveEach a (drop i vars) (drop i (values_at values types))
      → Has a var (at values type.0)
      × HaveEach a (drop (i + 1) vars) (drop (i + 1) (values_at values types))
  types-first have =
      subst (HaveEach a (var ∷ drop (i + 1) vars)) here
      (subst (λ (vs : List VarId). HaveEach a vs (drop i (values_at values types)))
      (drop-next vars i var e) have)

  -- and the other way round
  pub types-joined : Has a var (at values type.0)
      → HaveEach a (drop (i + 1) vars) (drop (i + 1) (values_at values types))
      → HaveEach a (drop i vars) (drop i (values_at values types))
  types-joined first later =
      subst (λ (vs : List VarId). HaveEach a vs (drop i (values_at values types)))
      (sym (drop-next vars i var e))
      (subst (HaveEach a (var ∷ drop (i + 1) vars)) (sym here) (first, later))

-- where nothing is left, nothing is asked
pub no-types : (a : Assignment) (vars : List VarId) (vs : List Value) (i : ℕ) → drop i vars ≡ []
    → drop i vs ≡ [] → HaveEach a (drop i vars) (drop i vs)
no-types a vars vs i e f =
    subst (λ (l : List VarId). HaveEach a l (drop i vs)) (sym e)
    (subst (HaveEach a []) (sym f) tt)

-- a list with a first item
pub first-cut : {X : Type 0} (xs : List X) (x : X) → slice_get xs 0 ≡ Some x
    → (rest : List X) × (xs ≡ x ∷ rest)
first-cut [] x e = cc
first-cut (y ∷ ys) x e = let same : y ≡ x = cc in (ys, ap (λ z. z ∷ ys) same)

-- arguments of another number aren't those that are declared
pub first-count : (a : Assignment) (values : List Value) (vars : List VarId)
    (blocks : List (List ValueId)) (first : List ValueId) → slice_get blocks 0 ≡ Some first
    → (length first ≡ length vars → ⊥)
    → ArgsHave a (Some vars) (map (values_at values) blocks) → ⊥
first-count a values vars blocks first e differ have =
    let (rest, cut) = first-cut blocks first e in
    let each : HaveEach a vars (values_at values first) =
    subst (λ (l : List (List ValueId)). ArgsHave a (Some vars) (map (values_at values) l)) cut
    have in
    differ (sym (length-map first (λ (id : ValueId). at values id.0))
    ∙ sym (have-lengths a vars (values_at values first) each))

-- ---- regions

module _ (entries : List RegionEntry) (counts : List ℕ) (bs : List (List Value)) (i start : ℕ)
    (entry : RegionEntry) (n : ℕ) where
  -- the next region, and those behind it
  pub listed-first : (a : Assignment) → slice_get entries i ≡ Some entry
      → slice_get counts i ≡ Some n
      → RegionsHave a (drop i entries) (parts (drop i counts) (drop start bs))
      → RegionHas a entry (take ((start + n) - start) (drop start bs))
      × RegionsHave a (drop (i + 1) entries) (parts (drop (i + 1) counts) (drop (start + n) bs))
  listed-first a e f have =
      let one = subst (λ es. RegionsHave a es (parts (drop i counts) (drop start bs)))
      (drop-next entries i entry e) have in
      let two = subst (λ ns. RegionsHave a (entry ∷ drop (i + 1) entries)
      (parts ns (drop start bs))) (drop-next counts i n f) one in
      let count : n ≡ (start + n) - start = omega arith in (
        subst (λ k. RegionHas a entry (take k (drop start bs))) count two.0,
        subst (λ xs. RegionsHave a (drop (i + 1) entries) (parts (drop (i + 1) counts) xs))
            (drop-drop n start bs) two.1,
      )

  -- and the other way round
  pub listed-joined : (a : Assignment) → slice_get entries i ≡ Some entry
      → slice_get counts i ≡ Some n
      → RegionHas a entry (take ((start + n) - start) (drop start bs))
      → RegionsHave a (drop (i + 1) entries) (parts (drop (i + 1) counts) (drop (start + n) bs))
      → RegionsHave a (drop i entries) (parts (drop i counts) (drop start bs))
  listed-joined a e f here later =
      let count : (start + n) - start ≡ n = omega arith in
      let first = subst (λ k. RegionHas a entry (take k (drop start bs))) count here in
      let rest = subst (λ xs. RegionsHave a (drop (i + 1) entries) (parts (drop (i + 1) counts) xs))
      (sym (drop-drop n start bs)) later in
      let one = subst (λ ns. RegionsHave a (entry ∷ drop (i + 1) entries)
      (parts ns (drop start bs))) (sym (drop-next counts i n f)) (first, rest) in
      subst (λ es. RegionsHave a es (parts (drop i counts) (drop start bs)))
      (sym (drop-next entries i entry e)) one

-- where no region is left, nothing is asked
pub no-regions-left : (a : Assignment) (entries : List RegionEntry) (counts : List ℕ) (i : ℕ)
    (bs : List (List Value)) → drop i entries ≡ [] → drop i counts ≡ []
    → RegionsHave a (drop i entries) (parts (drop i counts) bs)
no-regions-left a entries counts i bs e f =
    let inner = subst (λ ns. RegionsHave a [] (parts ns bs)) (sym f) tt in
    subst (λ es. RegionsHave a es (parts (drop i counts) bs)) (sym e) inner

-- a part of each number is as many parts as numbers
pub parts-count : {A : Type 0} (counts : List ℕ) (xs : List A)
    → length (parts counts xs) ≡ length counts
parts-count [] xs = refl
parts-count (n ∷ counts) xs = ap suc (parts-count counts (drop n xs))

-- what is so of each item is so of those in front, and of those behind
all-taken : {X : Type 0} (P : X → Type 0) (k : ℕ) (xs : List X) → AllByRecursion P xs
    → AllByRecursion P (take k xs)
all-taken P zero xs all = tt
all-taken P (suc k) [] all = tt
all-taken P (suc k) (x ∷ xs) all = (all.0, all-taken P k xs all.1)

all-dropped : {X : Type 0} (P : X → Type 0) (n : ℕ) (xs : List X) → AllByRecursion P xs
    → AllByRecursion P (drop n xs)
all-dropped P zero xs all = all
all-dropped P (suc n) [] all = tt
all-dropped P (suc n) (x ∷ xs) all = all-dropped P n xs all.1

-- and of some in a row
pub all-between : {X : Type 0} (P : X → Type 0) (xs : List X) (n k : ℕ) → AllByRecursion P xs
    → AllByRecursion P (take k (drop n xs))
all-between P xs n k all = all-taken P k (drop n xs) (all-dropped P n xs all)

-- blocks in a row, with their types as values
pub blocks-between : (values : List Value) (args : List (List ValueId)) (n k : ℕ)
    → map (values_at values) (take k (drop n args))
    ≡ take k (drop n (map (values_at values) args))
blocks-between values args n k =
    sym (take-map (values_at values) k (drop n args))
    ∙ ap (take k) (sym (drop-map (values_at values) n args))
