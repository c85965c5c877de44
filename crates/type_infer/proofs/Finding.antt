-- What is found of variables, step by step.
use Rattle.std.proofs.Common.{◌≡◌, ◌≢◌, ◌∙◌, ◌⊎◌, inl, inr, ℕ, ◌<◌, Bool, true, false, List, [], ◌∷◌, ◌++◌, length, refl, Some}
use Rattle.std.proofs.Common.{option_map, ap, sym, subst, slice_get, slice_set}
use Rattle.std.proofs.lemmas.Bool.{cases_eq}
use Rattle.std.proofs.lemmas.Option.{slice_get-map}
use Rattle.std.specs.List.{Contains}
use Rattle.attr_value.specs.declared.head.Head.TheVariants as h
use Rattle.attr_value.specs.declared.head.ValueId.{ValueId}
use Rattle.attr_value.specs.Ids.{at}
use Rattle.attr_value.specs.Values.{Value, value, list_of}
use Rattle.dialect_defs.specs.declared.body.Constraint.{Constraint}
use Rattle.dialect_defs.specs.declared.body.Constraint.TheVariants.{Parametric, AllOf}
use Rattle.dialect_defs.specs.declared.body.VarId.{VarId}
use Rattle.dialect_defs.specs.Assignments.{Tests, Assignment, Has, HaveEach, Keeps}
use Rattle.constraint_solver.proofs.Given.{has-one}
use Rattle.constraint_solver.specs.Roots.{assigned}
use Rattle.type_infer.specs.Asked.{Slots, Within}
use Rattle.type_infer.specs.Completes.{values_at}
use Rattle.type_infer.specs.Found.{Finds, Filled, HaveIds, HasKept, KeepsAt}
use Rattle.type_infer.proofs.Agree.{kids-same}
use Rattle.type_infer.proofs.Lists.{values_of, all-of, values-list}
use Rattle.type_infer.proofs.Slots.{asked-get, get-set_same, get-set_other}

-- at first what was asked is found
pub finds-first : (values : List Value) (asked : Slots) (a : Assignment)
    → Within (assigned values asked) a → Finds values asked a
finds-first values asked a within = record {
  same = λ v x y found has. has-one a v y x has (within v x found);
}

module _ (values : List Value) (found : Slots) (a : Assignment) (finds : Finds values found a) where
  -- a value is found of one more variable
  pub finds-more : (v : VarId) (id : ValueId) → v.0 < length found
      → ((y : Value) → Has a v y → y ≡ at values id.0)
      → Finds values (slice_set found v.0 (Some id)) a
  finds-more v id within told = record { same = λ w x y is has. by w x y is has (cases_eq v.0 w.0) }
    where
      new : slice_get (assigned values (slice_set found v.0 (Some id))) v.0
          ≡ Some (Some (at values id.0))
      new = asked-get values (slice_set found v.0 (Some id)) v.0 id
          (get-set_same found v.0 (Some id) within)

      by : (w : VarId) (x y : Value) → Has (assigned values (slice_set found v.0 (Some id))) w x
          → Has a w y → (v.0 ≡ w.0) ⊎ (v.0 ≢ w.0) → y ≡ x
      by w x y is has (inl same) =
          let here : slice_get (assigned values (slice_set found v.0 (Some id))) w.0
          ≡ Some (Some (at values id.0)) =
          subst (λ k. slice_get (assigned values (slice_set found v.0 (Some id))) k
          ≡ Some (Some (at values id.0))) same new in
          let mid : at values id.0 ≡ x = cc in
          let there : Has a v y = subst (λ k. slice_get a k ≡ Some (Some y)) (sym same) has in
          told y there ∙ mid
      by w x y is has (inr differ) =
          let old : slice_get (assigned values (slice_set found v.0 (Some id))) w.0
          ≡ slice_get (assigned values found) w.0 =
          slice_get-map (option_map (λ (id : ValueId). at values id.0))
          (slice_set found v.0 (Some id)) w.0
          ∙ ap (option_map (option_map (λ (id : ValueId). at values id.0)))
          (get-set_other found v.0 w.0 (Some id) differ)
          ∙ sym (slice_get-map (option_map (λ (id : ValueId). at values id.0)) found w.0) in
          finds.same w x y (sym old ∙ is) has

  module _ (tests : Tests) where
    -- upwards: a parametric of which all parts are found
    pub found-whole : (v : VarId) (is_type : Bool) (name : List ℕ) (parts : List VarId)
        (xs : List Value) → KeepsAt tests v (Parametric is_type name parts) values a
        → HaveEach (assigned values found) parts xs → (y : Value) → Has a v y
        → y ≡ value (h.Dialect is_type name) (values_of xs)
    found-whole v is_type name parts xs keeps_at have y has =
        let keeps = keeps_at y has in
        let lists : list_of y.kids ≡ xs =
        kids-same a (assigned values found) parts (list_of y.kids) xs keeps.1 have
        (λ part among p q one two. finds.same part q p two one) in
        let kids : y.kids ≡ values_of xs = sym (values-list y.kids) ∙ ap values_of lists in
        let head : y.head ≡ h.Dialect is_type name = keeps.0 in
        λ i. record { head = head i; kids = kids i }

    -- upwards: an all_of of which a member is found
    pub found-same : (v member : VarId) (members : List VarId) (x : Value)
        → KeepsAt tests v (AllOf members) values a → Contains members member
        → Has (assigned values found) member x → (y : Value) → Has a v y → y ≡ x
    found-same v member members x keeps_at among found y has =
        finds.same member x y found
        (all-of (λ w. Has a w y) members member (keeps_at y has) among)

    -- downwards: what is found keeps to the constraint
    pub found-kept : (whole : VarId) (c : Constraint) (x : Value) → HasKept tests whole c values a
        → Has (assigned values found) whole x → Keeps values tests a c x
    found-kept whole c x kept found =
        subst (Keeps values tests a c) (finds.same whole x kept.it found kept.has) kept.keeps

-- ids that were found, as values
pub ids-have : (values : List Value) (found : Slots) (vs : List VarId) (ids : List ValueId)
    → HaveIds found vs ids → HaveEach (assigned values found) vs (values_at values ids)
ids-have values found [] [] have = tt
ids-have values found [] (id ∷ ids) have = absurd have
ids-have values found (v ∷ vs) [] have = absurd have
ids-have values found (v ∷ vs) (id ∷ ids) have =
    (asked-get values found v.0 id have.0, ids-have values found vs ids have.1)

-- one more id was found
pub ids-push : (found : Slots) (vs : List VarId) (ids : List ValueId) (v : VarId) (id : ValueId)
    → HaveIds found vs ids → slice_get found v.0 ≡ Some (Some id)
    → HaveIds found (vs ++ v ∷ []) (ids ++ id ∷ [])
ids-push found [] [] v id have is = (is, tt)
ids-push found [] (x ∷ ids) v id have is = absurd have
ids-push found (w ∷ vs) [] v id have is = absurd have
ids-push found (w ∷ vs) (x ∷ ids) v id have is = (have.0, ids-push found vs ids v id have.1 is)

-- a value that was found, if it is the only one that the variable can have
pub finds-filled : (values : List Value) (old new : Slots) (changed : Bool) (v : VarId) (id : ValueId)
    (a : Assignment) → v.0 < length old → Filled old new changed v id → Finds values old a
    → ((y : Value) → Has a v y → y ≡ at values id.0) → Finds values new a
finds-filled values old new true v id a within filled finds told =
    let is = (filled.fresh refl).1 in
    subst (λ s. Finds values s a) (sym is) (finds-more values old a finds v id within told)
finds-filled values old new false v id a within filled finds told =
    subst (λ s. Finds values s a) (sym (filled.same refl).0) finds
