-- How more is found: one slot is filled, or none, and one step after the other.
use Rattle.std.proofs.Common.{◌≡◌, ◌≢◌, ◌∙◌, ◌⊎◌, inl, inr, ℕ, zero, suc, ◌+◌, ◌<◌, ◌≤◌, Bool, true, false}
use Rattle.std.proofs.Common.{List, [], ◌∷◌, length, Some, None, ap, sym, subst, refl, arith}
use Rattle.std.proofs.Common.{slice_get, slice_set, ◌||◌}
use Rattle.std.proofs.lemmas.Bool.{cases_eq}
use Rattle.std.proofs.lemmas.List.{length-set}
use Rattle.std.proofs.lemmas.List.Sums.{sum_by-cons}
use Rattle.attr_value.specs.declared.head.ValueId.{ValueId}
use Rattle.attr_value.specs.Ids.{at}
use Rattle.attr_value.specs.Values.{Value}
use Rattle.dialect_defs.specs.declared.body.VarId.{VarId}
use Rattle.dialect_defs.specs.declared.definition.TypeDef.{TypeDef}
use Rattle.dialect_defs.specs.Assignments.{Tests, Assignment, Has}
use Rattle.dialect_defs.specs.Goodness.{Good}
use Rattle.constraint_solver.specs.Definitions.{AreSoundDefs}
use Rattle.constraint_solver.specs.Grown.{Extends}
use Rattle.constraint_solver.proofs.Grows.{extends-trans, good-at-grows}
use Rattle.type_infer.specs.Asked.{Slots, AreKnownSlots}
use Rattle.type_infer.specs.Found.{AreGoodSlots, Filled, Finds, FoundMore, IsFound, empty, empty_slot}
use Rattle.type_infer.proofs.Finding.{finds-filled}
use Rattle.type_infer.proofs.Growing.{known-grew}
use Rattle.type_infer.proofs.Slots.{get-set_same, get-set_other}

empty-set : (s : Slots) (i : ℕ) (id : ValueId) → slice_get s i ≡ Some None
    → empty (slice_set s i (Some id)) + 1 ≡ empty s
empty-set [] i id free = absurd cc
empty-set (o ∷ s) zero id free =
    let none : o ≡ None = cc in
    let one : empty_slot o ≡ 1 = ap empty_slot none in
    let new = sum_by-cons empty_slot (Some id) s in
    let old = sum_by-cons empty_slot o s in
    omega (arith, one, new, old)
empty-set (o ∷ s) (suc i) id free =
    let rest = empty-set s i id free in
    let new = sum_by-cons empty_slot o (slice_set s i (Some id)) in
    let old = sum_by-cons empty_slot o s in
    omega (arith, rest, new, old)

module _ (before after : Slots) (changed : Bool) (v : VarId) (id : ValueId)
    (filled : Filled before after changed v id) where
  pub filled-size : length after ≡ length before
  filled-size = by changed filled
    where
      by : (changed : Bool) → Filled before after changed v id → length after ≡ length before
      by true f = ap length (f.fresh refl).1 ∙ length-set before v.0 (Some id)
      by false f = ap length (f.same refl).0

  filled-kept : (i : ℕ) (x : ValueId) → slice_get before i ≡ Some (Some x)
      → slice_get after i ≡ Some (Some x)
  filled-kept i x is = by changed filled (cases_eq v.0 i)
    where
      by : (changed : Bool) → Filled before after changed v id → (v.0 ≡ i) ⊎ (v.0 ≢ i)
          → slice_get after i ≡ Some (Some x)
      by false f either = ap (λ s. slice_get s i) (f.same refl).0 ∙ is
      by true f (inl same) =
          let free : slice_get before i ≡ Some None =
          subst (λ k. slice_get before k ≡ Some None) same (f.fresh refl).0 in
          absurd cc
      by true f (inr differ) =
          ap (λ s. slice_get s i) (f.fresh refl).1 ∙ get-set_other before v.0 i (Some id) differ ∙ is

  -- what stands in a slot stood there, or is the new id
  filled-only : v.0 < length before → (i : ℕ) (x : ValueId) → slice_get after i ≡ Some (Some x)
      → (slice_get before i ≡ Some (Some x)) ⊎ (x ≡ id)
  filled-only within i x is = by changed filled (cases_eq v.0 i)
    where
      by : (changed : Bool) → Filled before after changed v id → (v.0 ≡ i) ⊎ (v.0 ≢ i)
          → (slice_get before i ≡ Some (Some x)) ⊎ (x ≡ id)
      by false f either = inl (ap (λ s. slice_get s i) (sym (f.same refl).0) ∙ is)
      by true f (inl same) =
          let new : slice_get after i ≡ Some (Some id) =
          ap (λ s. slice_get s i) (f.fresh refl).1
          ∙ subst (λ k. slice_get (slice_set before v.0 (Some id)) k ≡ Some (Some id)) same
          (get-set_same before v.0 (Some id) within) in
          let one : x ≡ id = cc in
          inr one
      by true f (inr differ) =
          inl (sym (get-set_other before v.0 i (Some id) differ)
          ∙ ap (λ s. slice_get s i) (sym (f.fresh refl).1) ∙ is)

  filled-fewer : changed ≡ true → empty after < empty before
  filled-fewer new =
      let f = filled.fresh new in
      let less = empty-set before v.0 id f.0 in
      let same : empty after ≡ empty (slice_set before v.0 (Some id)) = ap empty f.1 in
      omega (arith, less, same)

  filled-no_more : empty after ≤ empty before
  filled-no_more = by changed filled filled-fewer
    where
      by : (changed : Bool) → Filled before after changed v id
          → (changed ≡ true → empty after < empty before) → empty after ≤ empty before
      by true f fewer = omega (arith, fewer refl)
      by false f fewer =
          let same : empty after ≡ empty before = ap empty (f.same refl).0 in omega (arith, same)

-- something is found of the variable then
pub filled-found : (before after : Slots) (changed : Bool) (v : VarId) (id : ValueId)
    → v.0 < length before → Filled before after changed v id → IsFound after v
filled-found before after true v id within f =
    (id, ap (λ s. slice_get s v.0) (f.fresh refl).1 ∙ get-set_same before v.0 (Some id) within)
filled-found before after false v id within f =
    let there = (f.same refl).1 in
    (there.0, ap (λ s. slice_get s v.0) (f.same refl).0 ∙ there.1)

-- values that were found stay good
pub slots-good-grow : {old new : List Value} {count : ℕ} {types : List TypeDef} → Extends old new
    → AreSoundDefs (length old) count types → (tests : Tests) (slots : Slots)
    → AreKnownSlots (length old) slots → AreGoodSlots old tests types slots
    → AreGoodSlots new tests types slots
slots-good-grow grew sound tests slots known good = record {
  each = λ i id is. good-at-grows grew sound tests id.0 (known i id is) (good.each i id is);
}

module _ (tests : Tests) (types : List TypeDef) where
  -- nothing was found, though the table may have grown
  pub more-none : (A : List Value → Assignment → Type 0) (old new : List Value) (found : Slots)
      → Extends old new → AreKnownSlots (length old) found → AreGoodSlots new tests types found
      → FoundMore tests types A old new found found false
  more-none A old new found grew known good = record {
    grew = grew;
    size = refl;
    known = known-grew old new grew found known;
    good = good;
    kept = λ i id is. is;
    same = λ none. refl;
    fewer = λ some. absurd cc;
    no_more = omega arith;
    finds = λ final a later is finds. finds;
  }

  -- a good value of the table was found, the only one that the variable can have
  pub more-filled : (A : List Value → Assignment → Type 0) (old new : List Value)
      (before after : Slots) (changed : Bool) (v : VarId) (id : ValueId) → Extends old new
      → AreKnownSlots (length old) before → AreGoodSlots new tests types before
      → id.0 < length new → Good new tests types (at new id.0) → v.0 < length before
      → Filled before after changed v id
      → ((final : List Value) (a : Assignment) → Extends new final → A final a
      → Finds final before a → (y : Value) → Has a v y → y ≡ at final id.0)
      → FoundMore tests types A old new before after changed
  more-filled A old new before after changed v id grew known good small right within filled told =
      record {
        grew = grew;
        size = filled-size before after changed v id filled;
        known = λ i x is. known_by i x (filled-only before after changed v id filled within i x is);
        good = record {
          each = λ i x is. good_by i x (filled-only before after changed v id filled within i x is);
        };
        kept = filled-kept before after changed v id filled;
        same = λ none. (filled.same none).0;
        fewer = filled-fewer before after changed v id filled;
        no_more = filled-no_more before after changed v id filled;
        finds = λ final a later is finds.
            finds-filled final before after changed v id a within filled finds
            (told final a later is finds);
      }
    where
      known_by : (i : ℕ) (x : ValueId) → (slice_get before i ≡ Some (Some x)) ⊎ (x ≡ id)
          → x.0 < length new
      known_by i x (inl old_is) = known-grew old new grew before known i x old_is
      known_by i x (inr same) = subst (λ (k : ValueId). k.0 < length new) (sym same) small

      good_by : (i : ℕ) (x : ValueId) → (slice_get before i ≡ Some (Some x)) ⊎ (x ≡ id)
          → Good new tests types (at new x.0)
      good_by i x (inl old_is) = good.each i x old_is
      good_by i x (inr same) =
          subst (λ (k : ValueId). Good new tests types (at new k.0)) (sym same) right

  -- one step after the other
  pub more-then : {A B C : List Value → Assignment → Type 0} {old mid new : List Value}
      {before between after : Slots} {x y z : Bool} → z ≡ (x || y)
      → FoundMore tests types A old mid before between x
      → FoundMore tests types B mid new between after y
      → ((final : List Value) (a : Assignment) → Extends new final → C final a → A final a)
      → ((final : List Value) (a : Assignment) → Extends new final → C final a → B final a)
      → FoundMore tests types C old new before after z
  more-then {A} {B} {C} {old} {mid} {new} {before} {between} {after} {x} {y} {z} is first second
      left right = record {
        grew = extends-trans first.grew second.grew;
        size = second.size ∙ first.size;
        known = second.known;
        good = second.good;
        kept = λ i id told. second.kept i id (first.kept i id told);
        same = λ none. by_same x y is none first.same second.same;
        fewer = λ some. by_fewer x y is some first.fewer second.fewer;
        no_more = omega (arith, first.no_more, second.no_more);
        finds = λ final a later c finds.
            second.finds final a later (right final a later c)
            (first.finds final a (extends-trans second.grew later) (left final a later c) finds);
      }
    where
      by_same : (x y : Bool) → z ≡ (x || y) → z ≡ false → (x ≡ false → between ≡ before)
          → (y ≡ false → after ≡ between) → after ≡ before
      by_same true y is none one two = absurd cc
      by_same false true is none one two = absurd cc
      by_same false false is none one two = two refl ∙ one refl

      by_fewer : (x y : Bool) → z ≡ (x || y) → z ≡ true
          → (x ≡ true → empty between < empty before) → (y ≡ true → empty after < empty between)
          → empty after < empty before
      by_fewer true y is some one two = omega (arith, one refl, second.no_more)
      by_fewer false true is some one two = omega (arith, two refl, first.no_more)
      by_fewer false false is some one two = absurd cc

  -- the same of fewer assignments
  pub more-as : {A B : List Value → Assignment → Type 0} {old new : List Value}
      {before after : Slots} {x : Bool} → FoundMore tests types A old new before after x
      → ((final : List Value) (a : Assignment) → Extends new final → B final a → A final a)
      → FoundMore tests types B old new before after x
  more-as more less = record {
    grew = more.grew;
    size = more.size;
    known = more.known;
    good = more.good;
    kept = more.kept;
    same = more.same;
    fewer = more.fewer;
    no_more = more.no_more;
    finds = λ final a later b finds. more.finds final a later (less final a later b) finds;
  }

-- what is found stays found
pub stays-found : {tests : Tests} {types : List TypeDef} {A : List Value → Assignment → Type 0}
    {old new : List Value} {before after : Slots} {changed : Bool}
    → FoundMore tests types A old new before after changed → (v : VarId) → IsFound before v
    → IsFound after v
stays-found more v found = (found.0, more.kept v.0 found.0 found.1)
