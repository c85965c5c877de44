-- The judgement of a dense array, by its width and its items.
use Rattle.std.proofs.Common.{◌≡◌, ℕ, true, false, arith, List, [], ◌∷◌, map, ℤ}
use Rattle.std.proofs.Common.{refl, sym, ◌∙◌, ap, subst, option_map}
use Rattle.std.proofs.lemmas.Bool.Decides.{nat_tests}
use Rattle.std.specs.declared.option.Option.{Option}
use Rattle.std.specs.declared.option.Option.TheVariants.{Some, None}
use Rattle.attr_value.specs.declared.head.Head.TheVariants as h
use Rattle.attr_value.specs.Heads.{IsDenseWidth}
use Rattle.attr_value.specs.Values.{Value}
use Rattle.first_fault.specs.declared.fault.Fault.{Fault}
use Rattle.first_fault.specs.Firsts.{earlier_of, IsFirst}
use Rattle.generic_syntax.specs.declared.cst.ItemCst.{ItemCst}
use Rattle.value_meaning.specs.declared.code.TheConstants.{INT_RANGE, SYNTAX}
use Rattle.value_meaning.specs.declared.judged.Judged.{Judged}
use Rattle.value_meaning.specs.Faults.{HasGood, IsFaultAmong}
use Rattle.value_meaning.specs.Judging.{Ground, IsGood, IsNoBadInteger, Judges}
use Rattle.value_meaning.specs.Meaning.{Mark, claim_at, holds, leaf, spells}
use Rattle.value_meaning.specs.Spelled.{all_some, dense_item, is_dense_width}
use Rattle.value_meaning.proofs.Among.{among-behind, among-here, first-cons, first-right}
use Rattle.value_meaning.proofs.Among.{first-wrong}
use Rattle.value_meaning.proofs.Leaves.{own-leaf}
use Rattle.value_meaning.proofs.Made.{good-leaf}
use Rattle.value_meaning.proofs.Mentions.{fault_at}
use Rattle.value_meaning.proofs.Nodes.{judged, judges-and, judges-wrong}
use Rattle.value_meaning.proofs.Right.{dense-right}

-- a width that dense arrays don't have
no-width : (width : ℕ) → is_dense_width width ≡ false → IsDenseWidth width → ⊥
no-width width e is = grind (arith, nat_tests, is)

-- what is made of nothing is nothing
option_map-none : {A B : Type 0} (f : A → B) (o : Option A) → option_map f o ≡ None → o ≡ None
option_map-none f None e = refl
option_map-none f (Some x) e = absurd (cc)

module _ (g : Ground) (width : ℕ) where
  -- the mark of an item
  abbrev mark_of : ItemCst → Mark
  mark_of item = claim_at item.place (holds width item)

  abbrev Among : List Mark → Fault → Type 0
  Among = IsFaultAmong g.table g.tests g.types

  -- where an item may not be written there is a fault
  some-fault : (items : List ItemCst) → all_some (map (dense_item width) items) ≡ None
      → IsFirst (Among (map mark_of items)) None → ⊥
  some-fault [] e first = absurd (cc)
  some-fault (item ∷ items) e first = go (dense_item width item) refl (some-fault items) e
    where
      go : (r : Option ℤ) → dense_item width item ≡ r
          → (all_some (map (dense_item width) items) ≡ None
          → IsFirst (Among (map mark_of items)) None → ⊥)
          → all_some (r ∷ map (dense_item width) items) ≡ None → ⊥
      go None is others e = first (fault_at item.place INT_RANGE)
          (among-here g.table g.tests g.types (mark_of item) (map mark_of items)
          (fault_at item.place INT_RANGE) (record { place = refl; breaks = (refl, is) }))
      go (Some n) is others e = others
          (option_map-none (λ ys. n ∷ ys) (all_some (map (dense_item width) items)) e)
          (λ f x. first f (among-behind g.table g.tests g.types (mark_of item) (map mark_of items)
          f x))

  -- what numbers spell as a dense array
  abbrev spelled_by : Option (List ℤ) → Option Value
  spelled_by = option_map (λ ns. leaf (h.Dense width ns))

  -- it is no integer type
  dense-other : (o : Option (List ℤ)) → IsNoBadInteger g (spelled_by o)
  dense-other None v kind e int = absurd (cc)
  dense-other (Some ns) v kind e int =
      let is : leaf (h.Dense width ns) ≡ v = cc in
      let never : h.Dense width ns ≡ h.Int kind = ap (λ x. x.head) is ∙ int in absurd (cc)

  -- it isn't good where dense arrays don't have the width
  pub dense-bad : (o : Option (List ℤ)) → is_dense_width width ≡ false
      → HasGood g.table g.tests g.types (spelled_by o) → ⊥
  dense-bad None other good = let never : None ≡ Some good.value = good.is in absurd (cc)
  dense-bad (Some ns) other good =
      let is : leaf (h.Dense width ns) ≡ good.value = let e = good.is in cc in
      no-width width other ((subst (IsGood g) (sym is) good.good).node.rule.right).0

  -- it is good where they have it, and where each item may be written
  pub dense-good : (items : List ItemCst) (ns : List ℤ) → is_dense_width width ≡ true
      → all_some (map (dense_item width) items) ≡ Some ns → IsGood g (leaf (h.Dense width ns))
  dense-good items ns has is = good-leaf g (h.Dense width ns)
      (own-leaf (h.Dense width ns) refl (dense-right width items ns has is)) tt

  module _ (n place : ℕ) (items : List ItemCst) (new : List Value) where
    abbrev mark : Mark
    mark = claim_at place (spells (is_dense_width width))

    abbrev Whole : Option (List ℤ) → Judged → Type 0
    Whole o = Judges g n (spelled_by o) (mark ∷ map mark_of items) new

    -- an array of a width that dense arrays don't have
    pub dense-refused : (a : Option Fault) → is_dense_width width ≡ false
        → IsFirst (Among (map mark_of items)) a
        → Whole (all_some (map (dense_item width) items))
        (judged None (earlier_of (Some (fault_at place SYNTAX)) a))
    dense-refused a other first =
        judges-wrong g n new (spelled_by (all_some (map (dense_item width) items))) mark
        (map mark_of items) (fault_at place SYNTAX) a
        (first-wrong g.table g.tests g.types mark (fault_at place SYNTAX)
        (record { place = refl; breaks = (refl, other) }) (λ code breaks. sym breaks.0))
        first (dense-bad (all_some (map (dense_item width) items)) other)
        (dense-other (all_some (map (dense_item width) items)))

    -- one whose items may be written
    pub dense-written : (ns : List ℤ) (j : Judged) → is_dense_width width ≡ true
        → Some ns ≡ all_some (map (dense_item width) items)
        → Judges g n (Some (leaf (h.Dense width ns))) (map mark_of items) new j
        → Whole (all_some (map (dense_item width) items)) j
    dense-written ns j has is x =
        subst (λ o. Whole o j) is
        (judges-and g n new (Some (leaf (h.Dense width ns))) mark (map mark_of items) None j
        (first-right g.table g.tests g.types mark
        (λ code breaks. let none = breaks.1 in absurd (cc))) x)

    -- and one of which an item may not be
    pub dense-unwritten : (a : Option Fault) → is_dense_width width ≡ true
        → None ≡ all_some (map (dense_item width) items)
        → IsFirst (Among (map mark_of items)) a
        → Whole (all_some (map (dense_item width) items)) (judged None a)
    dense-unwritten a has is first =
        subst (λ o. Whole o (judged None a)) is
        (record {
          some = tt;
          none = λ good. let never : None ≡ Some good.value = good.is in absurd (cc);
          first = first-cons g.table g.tests g.types mark (map mark_of items) None a
              (first-right g.table g.tests g.types mark
              (λ code breaks. let none = breaks.1 in absurd (cc))) first;
          right = λ e room. absurd (some-fault items (sym is)
              (subst (IsFirst (Among (map mark_of items))) e first));
          integer = λ v kind e int. absurd (cc);
        })
