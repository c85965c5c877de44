-- The items of dense arrays, and the first fault of them.
use Rattle.std.proofs.Common.{◌≡◌, ◌≢◌, ℕ, ◌==◌, ◌⊎◌, inl, inr, Bool, true, false, List, [], ◌∷◌, ◌++◌, map, length, take, get_or, ◌+◌, ◌<◌, Contains, is_some, sym, ◌∙◌, ap, subst, arith, ℤ, if◌then◌else◌}
use Rattle.std.specs.Prelude.{Option, Some, None}
use Rattle.std.proofs.lemmas.Bool.Decides.{nat_tests}
use Rattle.std.proofs.lemmas.List.{map-append, take_more}
use Rattle.std.proofs.lemmas.List.Elements.{Contains-append_cases, Contains-append_left, Contains-push, Contains-push_cases}
use Rattle.attr_value.specs.declared.kind.IntKind.TheVariants.{Signless}
use Rattle.attr_value.specs.Values.{Value}
use Rattle.dialect_defs.specs.declared.definition.TypeDef.{TypeDef}
use Rattle.dialect_defs.specs.Assignments.{Tests}
use Rattle.first_fault.specs.declared.fault.Fault.{Fault}
use Rattle.first_fault.specs.Firsts.{earlier_of, IsFirst}
use Rattle.first_fault.proofs.Firsts.{first-same, first-either}
use Rattle.generic_syntax.specs.declared.cst.ItemCst.{ItemCst}
use Rattle.value_meaning.proofs.Gathered.{all_some-split}
use Rattle.value_meaning.specs.Faults.{Breaks, IsFaultOf, IsFaultAmong}
use Rattle.value_meaning.specs.Meaning.{Mark, claim_at, holds}
use Rattle.value_meaning.specs.Spelled.{all_some, dense_item, looked_up, residue, signed_number, truths}

-- ---- the number of an item

number-by : (one : Bool) (truth kept : Option ℤ) (n : ℤ) → one ≡ false → is_some truth ≡ false
    → kept ≡ Some n
    → Some n ≡ (if one then truth else elim truth [ Some t ↦ None | None ↦ kept ])
number-by true truth kept n e none is = absurd (cc)
number-by false (Some t) kept n e none is = absurd (cc)
number-by false None kept n e none is = sym is

-- of an item that is no truth value
pub dense_item-number : (width : ℕ) (item : ItemCst) (n : ℤ) → width ≢ 1
    → is_some (looked_up truths item.spelling) ≡ false
    → residue (Signless width) (signed_number item.negative item.spelling) ≡ Some n
    → Some n ≡ dense_item width item
dense_item-number width item n wider none is =
    let other : (width == 1) ≡ false = grind (arith, nat_tests) in
    number-by (width == 1) (looked_up truths item.spelling)
    (residue (Signless width) (signed_number item.negative item.spelling)) n other none is

-- ---- what a list contains

contains-none : {A : Type 0} {x : A} → Contains [] x → ⊥
contains-none is = let inside = is.1 in omega arith

contains-cons : {A : Type 0} (x : A) (xs : List A) (y : A) → Contains (x ∷ xs) y
    → (x ≡ y) ⊎ Contains xs y
contains-cons x xs y is = elim (Contains-append_cases (x ∷ []) xs y is) [
  | inl one ↦ elim (Contains-push_cases [] x y one) [
    | inl none ↦ absurd (contains-none none)
    | inr same ↦ inl same
  ]
  | inr more ↦ inr more
]

module _ (values : List Value) (tests : Tests) (types : List TypeDef) where
  -- ---- the first fault of marks

  -- without marks there is no fault
  pub first-of-none : IsFirst (IsFaultAmong values tests types []) None
  first-of-none = λ f is. contains-none is.among

  -- with one mark more, the first is the earlier of the first so far and the mark's own
  first-of-more : (ms : List Mark) (m : Mark) (a b : Option Fault)
      → IsFirst (IsFaultAmong values tests types ms) a
      → IsFirst (IsFaultOf values tests types m) b
      → IsFirst (IsFaultAmong values tests types (ms ++ m ∷ [])) (earlier_of a b)
  first-of-more ms m a b x y =
      first-same (λ f. IsFaultAmong values tests types ms f ⊎ IsFaultOf values tests types m f)
      (IsFaultAmong values tests types (ms ++ m ∷ [])) (earlier_of a b) to back
      (first-either (IsFaultAmong values tests types ms) (IsFaultOf values tests types m) a b x y)
    where
      to : (f : Fault) → IsFaultAmong values tests types ms f ⊎ IsFaultOf values tests types m f
          → IsFaultAmong values tests types (ms ++ m ∷ []) f
      to f (inl p) = record {
        mark = p.mark;
        among = Contains-append_left ms (m ∷ []) p.mark p.among;
        is = p.is;
      }
      to f (inr q) = record { mark = m; among = Contains-push ms m; is = q }

      back : (f : Fault) → IsFaultAmong values tests types (ms ++ m ∷ []) f
          → IsFaultAmong values tests types ms f ⊎ IsFaultOf values tests types m f
      back f z = elim (Contains-push_cases ms m z.mark z.among) [
        | inl among ↦ inl (record { mark = z.mark; among = among; is = z.is })
        | inr same ↦ inr (subst (λ k. IsFaultOf values tests types k f) (sym same) z.is)
      ]

  module _ (width : ℕ) where
    -- ---- the first fault of items

    -- the mark of an item
    abbrev mark_of : ItemCst → Mark
    mark_of item = claim_at item.place (holds width item)

    -- with one item more
    pub first-of-next : (items : List ItemCst) (i : ℕ) (item : ItemCst) (a b : Option Fault)
        → i < length items → item ≡ get_or items i item
        → IsFirst (IsFaultAmong values tests types (map mark_of (take i items))) a
        → IsFirst (IsFaultOf values tests types (mark_of item)) b
        → IsFirst (IsFaultAmong values tests types (map mark_of (take (i + 1) items)))
        (earlier_of a b)
    first-of-next items i item a b inside at x y =
        let next : map mark_of (take (i + 1) items)
        ≡ map mark_of (take i items) ++ mark_of item ∷ [] =
        ap (map mark_of) (take_more items i item inside
        ∙ ap (λ it. take i items ++ it ∷ []) (sym at))
        ∙ map-append mark_of (take i items) (item ∷ []) in
        rw next (first-of-more (map mark_of (take i items)) (mark_of item) a b x y)

    -- an item that may be written has no fault
    no-fault : (item : ItemCst) (n : ℤ) (m : Mark) (f : Fault) → dense_item width item ≡ Some n
        → mark_of item ≡ m → IsFaultOf values tests types m f → ⊥
    no-fault item n m f is same fault =
        let own = subst (λ k. Breaks values tests types k.claim f.code) (sym same) fault.breaks in
        let none : dense_item width item ≡ None = own.1 in
        cc

    no-faults : (items : List ItemCst) (ns : List ℤ)
        → all_some (map (dense_item width) items) ≡ Some ns
        → (m : Mark) (f : Fault) → Contains (map mark_of items) m
        → IsFaultOf values tests types m f → ⊥
    no-faults [] ns e m f among fault = contains-none among
    no-faults (item ∷ items) ns e m f among fault =
        let split = all_some-split (dense_item width item) (map (dense_item width) items) ns e in
        elim (contains-cons (mark_of item) (map mark_of items) m among) [
          | inl same ↦ no-fault item split.first m f split.is same fault
          | inr more ↦ no-faults items split.rest split.others m f more fault
        ]

    -- where each item may be written, there is no fault
    pub first-of-written : (items : List ItemCst) (ns : List ℤ)
        → Some ns ≡ all_some (map (dense_item width) items)
        → IsFirst (IsFaultAmong values tests types (map mark_of items)) None
    first-of-written items ns e =
        λ f is. no-faults items ns (sym e) is.mark f is.among is.is
