-- What entries ask, part by part.
use Rattle.std.proofs.Common.{◌≡◌, ℕ, ◌+◌, ◌-◌, Bool, List, []}
use Rattle.std.proofs.Common.{◌∷◌, length, sum, take, drop, slice_get, ap, sym}
use Rattle.std.proofs.Common.{◌∙◌, subst, arith, Option, Some, None, ℤ}
use Rattle.std.proofs.lemmas.List.{drop-drop}
use Rattle.std.proofs.lemmas.List.Sums.{sum_by-cons}
use Rattle.std.specs.List.{AllByRecursion}
use Rattle.arrayvec.specs.ArrayVec.{ArrayVec}
use Rattle.attr_value.specs.Values.{Value}
use Rattle.dialect_defs.specs.declared.entry.AttrEntry.{AttrEntry}
use Rattle.dialect_defs.specs.declared.entry.Entry.{Entry}
use Rattle.dialect_defs.specs.Assignments.{Assignment, Has}
use Rattle.dialect_defs.specs.Operations.{EntriesHave, AttrHas}
use Rattle.dialect_defs.specs.Segments.{Segments, parts}
use Rattle.op_verifier.specs.Asked.{Slots, Decides}
use Rattle.op_verifier.specs.Parts.{HasSegments}
use Rattle.op_verifier.proofs.Asking.{Decides-as, Decides-test}
use Rattle.op_verifier.proofs.Walks.{drop-next}

module _ (values : List Value) (entry : AttrEntry) where
  -- an attribute that is there is asked of its variable
  pub attr-there : (s t : Slots) (taken : Bool) (o : Option Value) (x : Value) → o ≡ Some x
      → Decides values s t taken (λ a. Has a entry.var x)
      → Decides values s t taken (λ a. AttrHas a entry o)
  attr-there s t taken o x e asked =
      Decides-as (λ a has. subst (AttrHas a entry) (sym e) has)
      (λ a has. subst (AttrHas a entry) e has) asked

  -- one that is missing has to be optional
  pub attr-missing : (s : Slots) (o : Option Value) → o ≡ None
      → Decides values s s entry.optional (λ a. AttrHas a entry o)
  attr-missing s o e =
      Decides-test (λ a. (
        λ yes. subst (AttrHas a entry) (sym e) yes,
        λ has. subst (AttrHas a entry) e has,
      ))

module _ (entries : List Entry) (sizes : List ℕ) (vs : List Value) (i start : ℕ) (entry : Entry)
    (n : ℕ) where
  -- the next segment, and those behind it
  pub segment-first : (a : Assignment) → slice_get entries i ≡ Some entry
      → slice_get sizes i ≡ Some n
      → EntriesHave a (drop i entries) (parts (drop i sizes) (drop start vs))
      → AllByRecursion (Has a entry.var) (take ((start + n) - start) (drop start vs))
      × EntriesHave a (drop (i + 1) entries)
      (parts (drop (i + 1) sizes) (drop (start + n) vs))
  segment-first a e f have =
      let one = subst (λ es. EntriesHave a es (parts (drop i sizes) (drop start vs)))
      (drop-next entries i entry e) have in
      let two = subst (λ ns. EntriesHave a (entry ∷ drop (i + 1) entries)
      (parts ns (drop start vs))) (drop-next sizes i n f) one in
      let count : n ≡ (start + n) - start = omega arith in (
        subst (λ k. AllByRecursion (Has a entry.var) (take k (drop start vs))) count two.0,
        subst (λ xs. EntriesHave a (drop (i + 1) entries) (parts (drop (i + 1) sizes) xs))
            (drop-drop n start vs) two.1,
      )

  -- and the other way round
  pub segment-joined : (a : Assignment) → slice_get entries i ≡ Some entry
      → slice_get sizes i ≡ Some n
      → AllByRecursion (Has a entry.var) (take ((start + n) - start) (drop start vs))
      → EntriesHave a (drop (i + 1) entries) (parts (drop (i + 1) sizes) (drop (start + n) vs))
      → EntriesHave a (drop i entries) (parts (drop i sizes) (drop start vs))
  segment-joined a e f here later =
      let count : (start + n) - start ≡ n = omega arith in
      let first = subst (λ k. AllByRecursion (Has a entry.var) (take k (drop start vs)))
      count here in
      let rest = subst (λ xs. EntriesHave a (drop (i + 1) entries) (parts (drop (i + 1) sizes) xs))
      (sym (drop-drop n start vs)) later in
      let one = subst (λ ns. EntriesHave a (entry ∷ drop (i + 1) entries)
      (parts ns (drop start vs))) (sym (drop-next sizes i n f)) (first, rest) in
      subst (λ es. EntriesHave a es (parts (drop i sizes) (drop start vs)))
      (sym (drop-next entries i entry e)) one

-- the sizes from a place on are the one there and those behind it
pub sum-next : (sizes : List ℕ) (i n : ℕ) → slice_get sizes i ≡ Some n
    → sum (drop i sizes) ≡ n + sum (drop (i + 1) sizes)
sum-next sizes i n e =
    ap sum (drop-next sizes i n e) ∙ sum_by-cons (λ x. x) n (drop (i + 1) sizes)

-- where no entry is left, nothing is asked
pub all-entries : (a : Assignment) (entries : List Entry) (sizes : List ℕ) (i : ℕ) (vs : List Value)
    → drop i entries ≡ [] → drop i sizes ≡ []
    → EntriesHave a (drop i entries) (parts (drop i sizes) vs)
all-entries a entries sizes i vs e f =
    let inner = subst (λ ns. EntriesHave a [] (parts ns vs)) (sym f) tt in
    subst (λ es. EntriesHave a es (parts (drop i sizes) vs)) (sym e) inner

module _ (values : List Value) (entries : List Entry) (vs : List Value) (given : Option (List ℤ))
  where
    -- the sizes that were found are those of any segments
    pub segments-asked : (s t : Slots) (taken : Bool) (n : ℕ) (found : ArrayVec ℕ)
        → n ≡ length vs → Segments entries n given found.items
        → ((sizes : List ℕ) → Segments entries n given sizes → found.items ≡ sizes)
        → Decides values s t taken (λ a. EntriesHave a entries (parts found.items vs))
        → Decides values s t taken (λ a. HasSegments a entries vs given)
    segments-asked s t taken n found count segments only asked =
        Decides-as
        (λ a have. record {
          sizes = found.items;
          segments = subst (λ m. Segments entries m given found.items) count segments;
          have = have;
        })
        (λ a h. subst (λ sizes. EntriesHave a entries (parts sizes vs))
        (sym (only h.sizes
        (subst (λ m. Segments entries m given h.sizes) (sym count) h.segments)))
        h.have) asked
