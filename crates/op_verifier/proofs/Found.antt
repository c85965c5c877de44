-- A search by halves among keys that ascend finds the attribute of a key.
use Rattle.std.proofs.Common.{◌≡◌, ◌⊎◌, inl, inr, ℕ, zero, suc, ◌<◌, ◌≤◌, Bool, true, false}
use Rattle.std.proofs.Common.{◌||◌, ◌&&◌, List, [], ◌∷◌, length, get_or, refl, ap, sym, ◌∙◌}
use Rattle.std.proofs.Common.{subst, arith, Option, Some, None, option_map, cond}
use Rattle.std.proofs.lemmas.Bool.{cases_lt, cases_eq, ltb-true, eqb-true}
use Rattle.std.proofs.lemmas.Cmp.{nat_list_cmp_total}
use Rattle.std.proofs.lemmas.Map.Keys.{Less-from_sorted}
use Rattle.std.proofs.lemmas.Map.Text.{is_eq-slice_cmp}
use Rattle.std.specs.Cmp.{nat_cmp_is}
use Rattle.std.specs.Cmp.Lexicographic.{slice_cmp}
use Rattle.std.specs.List.{AllByRecursion, zip}
use Rattle.std.specs.List.Sorted.{IsStrictlySortedBy, IsNonDecreasingBy, IsPartitionPoint}
use Rattle.std.specs.Ordering.{nat_cmp, ordering_index, ordering_reverse, ordering_then, is_eq}
use Rattle.std.specs.Str.{bytes_eq}
use Rattle.std.specs.declared.cmp.Ordering.{Ordering}
use Rattle.std.specs.declared.cmp.Ordering.TheVariants.{Less, Equal, Greater}
use Rattle.attr_value.specs.Heads.{text_lt, Ascend}
use Rattle.attr_value.specs.Ids.{at, AreKnown}
use Rattle.attr_value.specs.Values.{Value}
use Rattle.attr_value.specs.declared.head.ValueId.{ValueId}
use Rattle.dialect_defs.specs.Operations.{attr_at}
use Rattle.constraint_solver.proofs.Filled.{all-at}
use Rattle.op_verifier.specs.Seen.{attrs_seen}

-- how two texts compare
abbrev pub compare_texts : List ℕ → List ℕ → Ordering
compare_texts a b = slice_cmp nat_cmp a b

or-cases : (p q : Bool) → (p || q) ≡ true → (p ≡ true) ⊎ (q ≡ true)
or-cases true q e = inl refl
or-cases false q e = inr e

both-true : (p q : Bool) → (p && q) ≡ true → (p ≡ true) × (q ≡ true)
both-true true q e = (refl, e)
both-true false q e = cc

text-lt-Less : (a b : List ℕ) → text_lt a b ≡ true → compare_texts a b ≡ Less
text-lt-Less [] [] e = cc
text-lt-Less [] (y ∷ ys) e = refl
text-lt-Less (x ∷ xs) [] e = cc
text-lt-Less (x ∷ xs) (y ∷ ys) e = elim (or-cases _ _ e) [
  | inl less ↦
      let first : Less ≡ nat_cmp x y = nat_cmp_is x y Less (ltb-true x y less) in
      ap (λ r. ordering_then r (compare_texts xs ys)) (sym first)
  | inr level ↦
      let both = both-true _ _ level in
      let first : Equal ≡ nat_cmp x y = nat_cmp_is x y Equal (eqb-true x y both.0) in
      ap (λ r. ordering_then r (compare_texts xs ys)) (sym first) ∙ text-lt-Less xs ys both.1
]

all-below : (a b : List ℕ) (keys : List (List ℕ)) → compare_texts a b ≡ Less
    → AllByRecursion (λ y. compare_texts b y ≡ Less) keys
    → AllByRecursion (λ y. compare_texts a y ≡ Less) keys
all-below a b [] less all = tt
all-below a b (y ∷ ys) less all =
    (nat_list_cmp_total.trans a b y less all.0, all-below a b ys less all.1)

-- keys that ascend are sorted
pub sorted : (keys : List (List ℕ)) → Ascend keys → IsStrictlySortedBy compare_texts keys
unfolding IsStrictlySortedBy
sorted [] h = tt
sorted (a ∷ []) h = (tt, tt)
sorted (a ∷ b ∷ rest) h =
    let later = sorted (b ∷ rest) h.1 in
    let less : compare_texts a b ≡ Less = text-lt-Less a b (search h.0) in
    ((less, all-below a b rest less later.0), later)

index-at-most : (r : Ordering) → ordering_index r ≤ 2
index-at-most Less = omega arith
index-at-most Equal = omega arith
index-at-most Greater = omega arith

-- what stands below compares no higher
below-by : (x y key : List ℕ) (r : Ordering) → compare_texts y key ≡ r
    → compare_texts x y ≡ Less
    → ordering_index (compare_texts x key) ≤ ordering_index r
below-by x y key Less is less =
    let first = nat_list_cmp_total.trans x y key less is in
    rw first (omega arith)
below-by x y key Equal is less =
    let level : compare_texts y x ≡ compare_texts key x = nat_list_cmp_total.congr y key x is in
    let first : compare_texts x key ≡ Less =
    nat_list_cmp_total.antisymm x key
    ∙ ap ordering_reverse (sym level)
    ∙ sym (nat_list_cmp_total.antisymm x y) ∙ less in
    rw first (omega arith)
below-by x y key Greater is less = index-at-most (compare_texts x key)

-- as keys ascend, how they compare with a key never falls
pub rises : (keys : List (List ℕ)) (key : List ℕ) → Ascend keys
    → IsNonDecreasingBy (λ y. ordering_index (compare_texts y key)) keys
rises keys key h i j d le within = elim (cases_eq i j) [
  | inl same ↦ subst (λ k. ordering_index (compare_texts (get_or keys i d) key)
      ≤ ordering_index (compare_texts (get_or keys k d) key)) same (omega arith)
  | inr differ ↦
      below-by (get_or keys i d) (get_or keys j d) key _ refl
      (Less-from_sorted compare_texts keys i j d (sorted keys h) (omega (arith, differ)) within)
]

not-equal : (own key : List ℕ) → compare_texts own key ≡ Less → bytes_eq own key ≡ false
not-equal own key less = sym (is_eq-slice_cmp own key) ∙ ap is_eq less

-- the key at a place is this one
pub found-at : (keys : List (List ℕ)) (ids : List ValueId) (key : List ℕ) (i : ℕ) (d : ValueId)
    → IsStrictlySortedBy compare_texts keys → length ids ≡ length keys → i < length keys
    → ((e : List ℕ) → compare_texts (get_or keys i e) key ≡ Equal)
    → attr_at (zip keys ids) key ≡ Some (get_or ids i d)
unfolding IsStrictlySortedBy
found-at [] ids key i d order counts within here = absurd (omega arith)
found-at (own ∷ keys) [] key i d order counts within here = absurd (omega arith)
found-at (own ∷ keys) (id ∷ ids) key zero d order counts within here =
    let same : bytes_eq own key ≡ true =
    sym (is_eq-slice_cmp own key) ∙ ap is_eq (here []) in
    ap (λ b. cond b (Some id) (attr_at (zip keys ids) key)) same
found-at (own ∷ keys) (id ∷ ids) key (suc i) d order counts within here =
    let later : i < length keys = omega arith in
    let below : compare_texts own (get_or keys i []) ≡ Less = all-at _ keys i [] later order.0 in
    let level : compare_texts (get_or keys i []) own ≡ compare_texts key own =
    nat_list_cmp_total.congr (get_or keys i []) key own (here []) in
    let less : compare_texts own key ≡ Less =
    nat_list_cmp_total.antisymm own key
    ∙ ap ordering_reverse (sym level)
    ∙ sym (nat_list_cmp_total.antisymm own (get_or keys i [])) ∙ below in
    ap (λ b. cond b (Some id) (attr_at (zip keys ids) key)) (not-equal own key less)
    ∙ found-at keys ids key i d order.1 (omega arith) later here

differs : (own key : List ℕ)
    → (compare_texts own key ≡ Less) ⊎ (compare_texts own key ≡ Greater)
    → bytes_eq own key ≡ false
differs own key (inl less) = not-equal own key less
differs own key (inr more) = sym (is_eq-slice_cmp own key) ∙ ap is_eq more

-- no key is this one
pub found-nowhere : (keys : List (List ℕ)) (ids : List ValueId) (key : List ℕ)
    → ((j : ℕ) → j < length keys → (compare_texts (get_or keys j []) key ≡ Less)
    ⊎ (compare_texts (get_or keys j []) key ≡ Greater))
    → attr_at (zip keys ids) key ≡ None
found-nowhere [] ids key each = refl
found-nowhere (own ∷ keys) [] key each = refl
found-nowhere (own ∷ keys) (id ∷ ids) key each =
    ap (λ b. cond b (Some id) (attr_at (zip keys ids) key)) (differs own key (each 0 (omega arith)))
    ∙ found-nowhere keys ids key (λ j less. each (suc j) (omega arith))

-- at a point that parts lesser keys from greater ones, no key is equal
pub apart : (keys : List (List ℕ)) (key : List ℕ) (i : ℕ)
    → IsPartitionPoint (λ y. compare_texts y key ≡ Less) (λ y. compare_texts y key ≡ Greater)
    keys i
    → (j : ℕ) → j < length keys → (compare_texts (get_or keys j []) key ≡ Less)
    ⊎ (compare_texts (get_or keys j []) key ≡ Greater)
apart keys key i point j within = elim (cases_lt j i) [
  | inl low ↦ inl (point.0 j [] (omega arith) low)
  | inr high ↦ inr (point.1 j [] high within)
]

-- the value of an id
abbrev pub value_of : List Value → Option ValueId → Option Value
value_of values o = option_map (λ (id : ValueId). at values id.0) o

-- the value of a key is that of its id
pub attr_at-attrs_seen : (values : List Value) (keys : List (List ℕ)) (ids : List ValueId)
    (key : List ℕ)
    → attr_at (attrs_seen values keys ids) key
    ≡ value_of values (attr_at (zip keys ids) key)
attr_at-attrs_seen values [] ids key = refl
attr_at-attrs_seen values (own ∷ keys) [] key = refl
attr_at-attrs_seen values (own ∷ keys) (id ∷ ids) key =
    if-mapped (bytes_eq own key) id _ (attr_at-attrs_seen values keys ids key)
  where
    if-mapped : (b : Bool) (id : ValueId) (other : Option ValueId) {seen : Option Value}
        → seen ≡ value_of values other
        → cond b (Some (at values id.0)) seen
        ≡ value_of values (cond b (Some id) other)
    if-mapped true id other e = refl
    if-mapped false id other e = e

-- the id of a key is one of the ids
pub key-known : (n : ℕ) (keys : List (List ℕ)) (ids : List ValueId) (key : List ℕ) (id : ValueId)
    → AreKnown n ids → attr_at (zip keys ids) key ≡ Some id → id.0 < n
key-known n [] ids key id known e = cc
key-known n (own ∷ keys) [] key id known e = cc
key-known n (own ∷ keys) (first ∷ ids) key id known e =
    by (bytes_eq own key) (attr_at (zip keys ids) key) e
    (λ later. key-known n keys ids key id known.1 later)
  where
    by : (b : Bool) (other : Option ValueId) → cond b (Some first) other ≡ Some id
        → (other ≡ Some id → id.0 < n) → id.0 < n
    by true other e later =
        let same : first ≡ id = cc in subst (λ (k : ValueId). k.0 < n) same known.0
    by false other e later = later e
