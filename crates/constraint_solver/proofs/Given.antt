-- The values that variables have by the ids that were given to them.
use Rattle.std.proofs.Common.{◌≡◌, ◌∙◌, ℕ, ◌<◌, ◌⊎◌, inl, inr, List, length}
use Rattle.std.proofs.Common.{Bool, true, false, true≢false}
use Rattle.std.proofs.Common.{set, replicate, zero, suc}
use Rattle.std.proofs.Common.{refl, ap, sym, subst, arith, get_or}
use Rattle.std.proofs.lemmas.Bool.{cases_eq}
use Rattle.std.proofs.lemmas.List.{get_or-set_same, get_or-set_other}
use Rattle.std.proofs.lemmas.Option.{slice_get-map, get_or_from_slice_get, unwrap_or-slice_get}
use Rattle.std.specs.Option.{option_map, unwrap_or}
use Rattle.std.specs.Prelude.{slice_get, slice_index_or}
use Rattle.std.specs.declared.option.Option.{Option}
use Rattle.std.specs.declared.option.Option.TheVariants.{Some, None}
use Rattle.attr_value.specs.declared.head.ValueId.{ValueId}
use Rattle.attr_value.specs.Ids.{at}
use Rattle.attr_value.specs.Values.{Value}
use Rattle.dialect_defs.specs.declared.body.VarId.{VarId}
use Rattle.dialect_defs.specs.Assignments.{Assignment, Has, IsWithin}
use Rattle.constraint_solver.specs.Roots.{assigned, AreKnownIds}
use Rattle.constraint_solver.specs.Search.{Forced, Refuted, Forces}

-- a variable has one value
pub has-one : (a : Assignment) (v : VarId) (x y : Value) → Has a v x → Has a v y → x ≡ y
has-one a v x y first second = let same : Some (Some x) ≡ Some (Some y) = sym first ∙ second in cc

-- variables of one number have the same value
pub has-same : (a : Assignment) (v w : VarId) (x : Value) → v.0 ≡ w.0 → Has a v x → Has a w x
has-same a v w x same has = subst (λ k. slice_get a k ≡ Some (Some x)) same has

slot-is : (ids : List (Option ValueId)) (v : ℕ) (id : ValueId)
    → slice_index_or ids v None ≡ Some id → slice_get ids v ≡ Some (Some id)
slot-is ids v id is = by (slice_get ids v) refl
  where
    read : unwrap_or (slice_get ids v) None ≡ Some id
    read = unwrap_or-slice_get ids v None ∙ is

    by : (o : Option (Option ValueId)) → slice_get ids v ≡ o → slice_get ids v ≡ Some (Some id)
    by None there = let m = subst (λ o. unwrap_or o None ≡ Some id) there read in cc
    by (Some p) there =
        let m : p ≡ Some id = subst (λ o. unwrap_or o None ≡ Some id) there read in
        there ∙ ap Some m

module _ (values : List Value) where
  -- the value of an id that a variable has
  pub has-slot : (ids : List (Option ValueId)) (v : VarId) (id : ValueId)
      → slice_index_or ids v.0 None ≡ Some id → Has (assigned values ids) v (at values id.0)
  has-slot ids v id is = slice_get-map (option_map (λ i. at values i.0)) ids v.0
      ∙ ap (option_map (option_map (λ i. at values i.0))) (slot-is ids v.0 id is)

  -- the id of a value that a variable has
  pub record SlotOf (ids : List (Option ValueId)) (v : ℕ) (x : Value) : Type 0 where
    pub id : ValueId
    pub stands : slice_index_or ids v None ≡ Some id
    pub value : at values id.0 ≡ x

  -- a value of a variable is that of its id
  pub slot-has : (ids : List (Option ValueId)) (v : VarId) (x : Value)
      → Has (assigned values ids) v x → SlotOf ids v.0 x
  slot-has ids v x has = by (slice_get ids v.0) refl
    where
      shown : option_map (option_map (λ i. at values i.0)) (slice_get ids v.0) ≡ Some (Some x)
      shown = sym (slice_get-map (option_map (λ i. at values i.0)) ids v.0) ∙ has

      by : (o : Option (Option ValueId)) → slice_get ids v.0 ≡ o → SlotOf ids v.0 x
      by None there =
          let m = subst (λ o. option_map (option_map (λ i. at values i.0)) o ≡ Some (Some x))
          there shown in
          absurd cc
      by (Some None) there =
          let m = subst (λ o. option_map (option_map (λ i. at values i.0)) o ≡ Some (Some x))
          there shown in
          absurd cc
      by (Some (Some i)) there =
          let m : Some (Some (at values i.0)) ≡ Some (Some x) =
          subst (λ o. option_map (option_map (λ i. at values i.0)) o ≡ Some (Some x))
          there shown in
          let value : at values i.0 ≡ x = cc in
          record {
            id = i;
            stands = get_or_from_slice_get ids v.0 (Some i) None there;
            value = value;
          }

  -- a variable without a value is given one
  module _ (ids : List (Option ValueId)) (v : VarId) (id : ValueId)
      (bare : slice_index_or ids v.0 None ≡ None) (within : v.0 < length ids) where
    other : (w : VarId) (x : Value) → Has (assigned values (set ids v.0 (Some id))) w x
        → (w.0 ≡ v.0 → ⊥) → Has (assigned values ids) w x
    other w x has differ =
        let slot = slot-has (set ids v.0 (Some id)) w x has in
        let stood : slice_index_or ids w.0 None ≡ Some slot.id =
        sym (get_or-set_other ids v.0 w.0 (Some id) None differ) ∙ slot.stands in
        subst (Has (assigned values ids) w) slot.value (has-slot ids w slot.id stood)

    mine : (w : VarId) (x : Value) → Has (assigned values (set ids v.0 (Some id))) w x
        → w.0 ≡ v.0 → at values id.0 ≡ x
    mine w x has same =
        let slot = slot-has (set ids v.0 (Some id)) w x has in
        let stands : slice_index_or (set ids v.0 (Some id)) v.0 None ≡ Some slot.id =
        subst (λ k. slice_index_or (set ids v.0 (Some id)) k None ≡ Some slot.id) same
        slot.stands in
        let is : Some id ≡ Some slot.id =
        sym (get_or-set_same ids v.0 (Some id) None within) ∙ stands in
        let ids : id ≡ slot.id = cc in
        ap (λ i. at values i.0) ids ∙ slot.value

    -- that value is the least that gives the variable its own
    pub forced-set : (n : ℕ) → v.0 < n
        → Forced n (assigned values ids) (assigned values (set ids v.0 (Some id)))
        (λ a. Has a v (at values id.0))
    forced-set n below = record {
      grown = λ w x has.
          let slot = slot-has ids w x has in
          let differ : w.0 ≡ v.0 → ⊥ = λ same.
          let m : slice_index_or ids v.0 None ≡ Some slot.id =
          subst (λ k. slice_index_or ids k None ≡ Some slot.id) same slot.stands in
          cc in
          subst (Has (assigned values (set ids v.0 (Some id))) w) slot.value
          (has-slot (set ids v.0 (Some id)) w slot.id
          (get_or-set_other ids v.0 w.0 (Some id) None differ ∙ slot.stands));
      holds = has-slot (set ids v.0 (Some id)) v id
          (get_or-set_same ids v.0 (Some id) None within);
      least = λ a under has w x new. from a under has w x new (cases_eq w.0 v.0);
      above = λ w x from new. other w x new (λ same. omega (arith, below, from, same));
    }
      where
        from : (a : Assignment) → IsWithin (assigned values ids) a → Has a v (at values id.0)
            → (w : VarId) (x : Value) → Has (assigned values (set ids v.0 (Some id))) w x
            → (w.0 ≡ v.0) ⊎ (w.0 ≡ v.0 → ⊥) → Has a w x
        from a under has w x new (inl same) =
            has-same a v w x (sym same) (subst (Has a v) (mine w x new same) has)
        from a under has w x new (inr differ) = under w x (other w x new differ)

  -- a variable has the value already
  pub forced-same : (n : ℕ) (ids : List (Option ValueId)) (v : VarId) (old id : ValueId)
      → slice_index_or ids v.0 None ≡ Some old → at values old.0 ≡ at values id.0
      → Forced n (assigned values ids) (assigned values ids) (λ a. Has a v (at values id.0))
  forced-same n ids v old id is same = record {
    grown = λ w x has. has;
    holds = subst (Has (assigned values ids) v) same (has-slot ids v old is);
    least = λ a under has. under;
    above = λ w x from has. has;
  }

  -- a variable has another value
  pub refuted : (ids : List (Option ValueId)) (v : VarId) (old id : ValueId)
      → slice_index_or ids v.0 None ≡ Some old → (at values old.0 ≡ at values id.0 → ⊥)
      → Refuted (assigned values ids) (λ a. Has a v (at values id.0))
  refuted ids v old id is differ a under has =
      differ (has-one a v _ _ (under v _ (has-slot ids v old is)) has)

-- the ids stay known where a variable is given one that is
pub AreKnownIds-set : (len : ℕ) (ids : List (Option ValueId)) (v : ℕ) (id : ValueId)
    → v < length ids → AreKnownIds len ids → id.0 < len → AreKnownIds len (set ids v (Some id))
AreKnownIds-set len ids v id within known here w other is = by (cases_eq w v)
  where
    by : (w ≡ v) ⊎ (w ≡ v → ⊥) → other.0 < len
    by (inl same) =
        let stands : slice_index_or (set ids v (Some id)) v None ≡ Some other =
        subst (λ k. slice_index_or (set ids v (Some id)) k None ≡ Some other) same is in
        let found : Some id ≡ Some other =
        sym (get_or-set_same ids v (Some id) None within) ∙ stands in
        let one : id ≡ other = cc in
        subst (λ (k : ValueId). k.0 < len) one here
    by (inr differ) =
        known w other (sym (get_or-set_other ids v w (Some id) None differ) ∙ is)

-- the least values are there
pub Forces-true : {n : ℕ} {values : List Value} {old new : List (Option ValueId)}
    {P : Assignment → Type 0} → Forced n (assigned values old) (assigned values new) P
    → AreKnownIds (length values) new → Forces n values old new true P
Forces-true f known = record {
  forced = λ yes. f;
  known = λ yes. known;
  refuted = λ no. absurd (true≢false no);
}

-- no more values make it hold
pub Forces-false : {n : ℕ} {values : List Value} {old new : List (Option ValueId)}
    {P : Assignment → Type 0} → Refuted (assigned values old) P → Forces n values old new false P
Forces-false r = record {
  forced = λ yes. absurd (true≢false (sym yes));
  known = λ yes. absurd (true≢false (sym yes));
  refuted = λ no. r;
}

-- another property that the same assignments have
pub Forces-as : {n : ℕ} {values : List Value} {old new : List (Option ValueId)} {took : Bool}
    {P Q : Assignment → Type 0} → ((a : Assignment) → P a → Q a)
    → ((a : Assignment) → Q a → P a) → Forces n values old new took P
    → Forces n values old new took Q
Forces-as there back f = record {
  forced = λ yes.
      let one = f.forced yes in
      record {
        grown = one.grown;
        holds = there _ one.holds;
        least = λ a under q. one.least a under (back a q);
        above = one.above;
      };
  known = f.known;
  refuted = λ no a under q. f.refuted no a under (back a q);
}

-- nothing stands in a list of nothing
pub get-or-replicate : {A : Type 0} (n : ℕ) (d : A) (v : ℕ) → get_or (replicate n d) v d ≡ d
get-or-replicate zero d v = refl
get-or-replicate (suc n) d zero = refl
get-or-replicate (suc n) d (suc v) = get-or-replicate n d v
