-- Marks without a fault, and what a value that is good and has room where it stands is made of: its
-- kids are so too, one deeper.
use Rattle.std.proofs.Common.{◌≡◌, ◌≤◌, inl, inr, ℕ, ◌+◌}
use Rattle.std.proofs.Common.{List, [], ◌∷◌, ◌++◌, map, length, refl, subst, arith}
use Rattle.std.specs.List.{AllByRecursion, flat_map}
use Rattle.std.specs.Prelude.{option_map}
use Rattle.std.specs.declared.option.Option.{Option}
use Rattle.std.specs.declared.option.Option.TheVariants.{Some, None}
use Rattle.attr_value.specs.declared.head.Head.{Head}
use Rattle.attr_value.specs.declared.head.Head.TheVariants as h
use Rattle.attr_value.specs.declared.head.TheConstants.{DEPTH_LIMIT}
use Rattle.attr_value.specs.Values.{Value, Values, none, more, list_of, greatest_depth}
use Rattle.first_fault.specs.declared.fault.Fault.{Fault}
use Rattle.value_meaning.specs.Faults.{Breaks, IsFaultAmong}
use Rattle.value_meaning.specs.Judging.{Ground, IsGood, Fits, IsRight, HasRight, HaveRight}
use Rattle.value_meaning.specs.Meaning.{Mark, Seen, NodeSeen, claim_at}
use Rattle.value_meaning.specs.Meaning.{made_of, kids_of, stands}
use Rattle.value_meaning.specs.Meaning.{seen_at, seen_unit, seen_leaf}
use Rattle.value_meaning.specs.Spelled.{all_some}
use Rattle.value_meaning.proofs.Among.{among-nil, among-cons, among-append}
use Rattle.value_meaning.proofs.Made.{all_some-are, good-kids}

-- ---- values

-- values that nest no deeper together than there is room for do so each
kids-fit : (n : ℕ) (vs : List Value) → greatest_depth (kids_of vs) + n ≤ DEPTH_LIMIT + 1
    → AllByRecursion (Fits n) vs
kids-fit n [] less = tt
kids-fit n (v ∷ vs) less = (omega (arith, less), kids-fit n vs (omega (arith, less)))

-- a list without items has no kids
pub no-kids : (ks : Values) → length (list_of ks) ≡ 0 → greatest_depth ks ≡ 0
no-kids none e = refl
no-kids (more head kids rest) e = absurd (omega (arith, e))

module _ (g : Ground) where
  both-right : (n : ℕ) (vs : List Value) → AllByRecursion (IsGood g) vs
      → AllByRecursion (Fits n) vs → AllByRecursion (IsRight g n) vs
  both-right n [] good fit = tt
  both-right n (v ∷ vs) good fit =
      (record { good = good.0; fits = fit.0 }, both-right n vs good.1 fit.1)

  -- the kids of a right value are right, one deeper
  pub kids-right : (n : ℕ) (head : Head) (vs : List Value) → IsRight g n (made_of head vs)
      → AllByRecursion (IsRight g (n + 1)) vs
  kids-right n head vs right =
      let fits = right.fits in
      both-right (n + 1) vs (good-kids g head vs right.good)
      (kids-fit (n + 1) vs (omega (arith, fits)))

  -- what is made of what is spelled, where it is right
  pub record IsMadeRight (n : ℕ) (head : Head) (spelled : List (Option Value)) : Type 0 where
    pub vs : List Value
    pub are : spelled ≡ map Some vs
    pub right : IsRight g n (made_of head vs)

  pub whole-right : (n : ℕ) (head : Head) (spelled : List (Option Value))
      → HasRight g n (option_map (made_of head) (all_some spelled)) → IsMadeRight n head spelled
  whole-right n head spelled x = go (all_some spelled) refl x.spells
    where
      go : (r : Option (List Value)) → all_some spelled ≡ r
          → option_map (made_of head) r ≡ Some x.value → IsMadeRight n head spelled
      go None is e = absurd (cc)
      go (Some vs) is e =
          let same : x.value ≡ made_of head vs = cc in
          record {
            vs = vs;
            are = all_some-are spelled vs is;
            right = subst (IsRight g n) same x.right;
          }

  -- what it is made of is right, one deeper
  pub made-kids : (n : ℕ) (head : Head) (spelled : List (Option Value)) → IsMadeRight n head spelled
      → HaveRight g (n + 1) spelled
  made-kids n head spelled m = record {
    values_are = m.vs;
    spell = m.are;
    right = kids-right n head m.vs m.right;
  }

  -- the first of some that are right, and those behind it
  right-cons : (n : ℕ) (o : Option Value) (os : List (Option Value)) → HaveRight g n (o ∷ os)
      → HasRight g n o × HaveRight g n os
  right-cons n o os x = go x.values_are x.spell x.right
    where
      go : (vs : List Value) → o ∷ os ≡ map Some vs → AllByRecursion (IsRight g n) vs
          → HasRight g n o × HaveRight g n os
      go [] e all = absurd (cc)
      go (v ∷ vs) e all = (
        record { value = v; spells = cc; right = all.0 },
        record { values_are = vs; spell = cc; right = all.1 },
      )

  -- ---- marks

  abbrev pub Among : List Mark → Fault → Type 0
  Among = IsFaultAmong g.table g.tests g.types

  -- none of the marks has a fault
  abbrev pub AreClean : List Mark → Type 0
  AreClean ms = (f : Fault) → Among ms f → ⊥

  -- the claim of a mark breaks no rule
  abbrev pub Stays : Mark → Type 0
  Stays m = (code : ℕ) → Breaks g.table g.tests g.types m.claim code → ⊥

  pub clean-nil : AreClean []
  clean-nil f x = among-nil g.table g.tests g.types f x

  pub clean-cons : (m : Mark) (ms : List Mark) → Stays m → AreClean ms → AreClean (m ∷ ms)
  clean-cons m ms own rest f x = elim (among-cons g.table g.tests g.types m ms f x) [
    | inl here ↦ own f.code here.breaks
    | inr behind ↦ rest f behind
  ]

  clean-append : (ms ns : List Mark) → AreClean ms → AreClean ns → AreClean (ms ++ ns)
  clean-append ms ns first second f x = elim (among-append g.table g.tests g.types ms ns f x) [
    | inl left ↦ first f left
    | inr right ↦ second f right
  ]

  -- ---- trees and their kids

  -- where what is seen is right at a nesting, its marks there have no fault
  abbrev pub IsFaultless : Seen → Type 0
  IsFaultless s = (n : ℕ) → HasRight g n s.value → AreClean (s.marks n)

  -- the same of a form at a place
  abbrev pub IsFaultlessNode : NodeSeen → Type 0
  IsFaultlessNode s = (place n : ℕ) → HasRight g n s.value → AreClean (s.marks place n)

  pub kids-clean : (n : ℕ) (ss : List Seen) → AllByRecursion IsFaultless ss
      → HaveRight g n (map (λ s. s.value) ss) → AreClean (flat_map (λ s. s.marks n) ss)
  kids-clean n [] all right = clean-nil
  kids-clean n (s ∷ ss) all right =
      let cut = right-cons n s.value (map (λ s. s.value) ss) right in
      clean-append (s.marks n) (flat_map (λ s. s.marks n) ss) (all.0 n cut.0)
      (kids-clean n ss all.1 cut.1)

  -- a value where it stands
  pub at-clean : (place : ℕ) (node : NodeSeen) → IsFaultlessNode node
      → IsFaultless (seen_at place node)
  at-clean place node clean n right =
      let fits = right.right.fits in
      clean-cons (claim_at place (stands n)) (node.marks place n)
      (λ code breaks. let deep = breaks.1 in omega (arith, deep, fits)) (clean place n right)

  -- the unit attribute of a key
  pub unit-clean : (place : ℕ) → IsFaultless (seen_unit place)
  unit-clean place = at-clean place (seen_leaf h.Unit) (λ p n right. clean-nil)
