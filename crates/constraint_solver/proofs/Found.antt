-- What a search from no values shows.
use Rattle.std.proofs.Common.{◌≡◌, ◌∙◌, ℕ, ◌<◌, ◌≤◌, ◌⊎◌, inl, inr, List, [], ◌∷◌}
use Rattle.std.proofs.Common.{length, take}
use Rattle.std.proofs.Common.{sym, subst, arith}
use Rattle.std.proofs.lemmas.Bool.{cases_lt}
use Rattle.std.proofs.lemmas.List.{length-map, length-take, get_or-take, get_or_past}
use Rattle.std.proofs.lemmas.Option.{slice_get_within}
use Rattle.std.specs.Option.{option_map}
use Rattle.std.specs.Prelude.{slice_index_or}
use Rattle.std.specs.declared.option.Option.{Option}
use Rattle.std.specs.declared.option.Option.TheVariants.{Some, None}
use Rattle.attr_value.specs.declared.head.ValueId.{ValueId}
use Rattle.attr_value.specs.Ids.{at}
use Rattle.attr_value.specs.Values.{Value}
use Rattle.dialect_defs.specs.declared.body.Body.{Body}
use Rattle.dialect_defs.specs.declared.body.VarId.{VarId}
use Rattle.dialect_defs.specs.Assignments.{Tests, Assignment, Has, MeetsBody, IsWithin}
use Rattle.constraint_solver.specs.Roots.{assigned, AreKnownIds, HasRoots}
use Rattle.constraint_solver.specs.Search.{Forced, Refuted, MeetsBelow, Solved}
use Rattle.constraint_solver.proofs.Given.{has-slot, slot-has, SlotOf}
use Rattle.constraint_solver.proofs.Settled.{keeps-grows}

-- the ids of a search that began with no values, and those that it ends with
module _ (values : List Value) (tests : Tests) (body : Body) (n : ℕ) (empty : List (Option ValueId))
    (none : (v : ℕ) → slice_index_or empty v None ≡ None) (P : Assignment → Type 0) where
  -- no variable has a value at first
  bare : (v : VarId) (x : Value) → Has (assigned values empty) v x → ⊥
  bare v x has =
      let slot = slot-has values empty v x has in
      let is : slice_index_or empty v.0 None ≡ Some slot.id = slot.stands in
      let not : slice_index_or empty v.0 None ≡ None = none v.0 in
      cc

  -- what no assignment above nothing has, no assignment has
  pub found-nothing : Refuted (assigned values empty) P → (a : Assignment) → P a → ⊥
  found-nothing r a p = r a (λ v x has. absurd (bare v x has)) p

  module _ (mid : Assignment) (f : Forced n (assigned values empty) mid P) where
    -- where nothing more settles the variables, no assignment meets the body and has P
    pub found-none : Refuted mid (MeetsBelow n values tests body) → (a : Assignment)
        → MeetsBody values tests body a → P a → ⊥
    found-none r a met p = r a (f.least a (λ v x has. absurd (bare v x has)) p)
        (λ v c x below is has. met.each v c x is has)

    module _ (ids : List (Option ValueId)) (firsts-is : length (take n ids) ≡ n)
        (same : n ≡ length body.vars)
        (s : Solved n values tests body mid (assigned values ids)) where
      -- the values are those of the first n variables
      there : IsWithin (assigned values ids) (assigned values (take n ids))
      there v x has = by (cases_lt v.0 n)
        where
          by : (v.0 < n) ⊎ (n ≤ v.0) → Has (assigned values (take n ids)) v x
          by (inl below) =
              let slot = slot-has values ids v x has in
              subst (Has (assigned values (take n ids)) v) slot.value
              (has-slot values (take n ids) v slot.id
              (get_or-take n ids v.0 None below ∙ slot.stands))
          by (inr from) = absurd (bare v x (f.above v x from (s.above v x from has)))

      back : IsWithin (assigned values (take n ids)) (assigned values ids)
      back v x has = by (slot-has values (take n ids) v x has) (cases_lt v.0 n)
        where
          by : SlotOf values (take n ids) v.0 x → (v.0 < n) ⊎ (n ≤ v.0)
              → Has (assigned values ids) v x
          by slot (inl below) = subst (Has (assigned values ids) v) slot.value
              (has-slot values ids v slot.id (sym (get_or-take n ids v.0 None below) ∙ slot.stands))
          by slot (inr from) =
              let past : slice_index_or (take n ids) v.0 None ≡ None =
              get_or_past (take n ids) v.0 None (omega (arith, firsts-is, from)) in
              let is : slice_index_or (take n ids) v.0 None ≡ Some slot.id = slot.stands in
              absurd cc

      -- the values that are found meet the body
      pub found-meets : MeetsBody values tests body (assigned values (take n ids))
      found-meets = record {
        size = length-map (take n ids) (option_map (λ id. at values id.0)) ∙ firsts-is ∙ same;
        each = λ v c x is has.
            keeps-grows values tests c (assigned values ids) (assigned values (take n ids)) x there
            (s.met v c x (omega (arith, same, slice_get_within body.vars v.0 c is)) is
            (back v x has));
      }

      -- and have what was forced at first
      pub found-has : ((a b : Assignment) → IsWithin a b → P a → P b)
          → P (assigned values (take n ids))
      found-has grows = grows (assigned values ids) (assigned values (take n ids)) there
          (grows mid (assigned values ids) s.grown f.holds)

-- the first of known ids are known
pub known-take : (len n : ℕ) (ids : List (Option ValueId)) → AreKnownIds len ids
    → AreKnownIds len (take n ids)
known-take len n ids known v id is = by (cases_lt v n)
  where
    by : (v < n) ⊎ (n ≤ v) → id.0 < len
    by (inl below) = known v id (sym (get_or-take n ids v None below) ∙ is)
    by (inr from) =
        let past : slice_index_or (take n ids) v None ≡ None =
        get_or_past (take n ids) v None (omega (arith, length-take n ids, from)) in
        absurd cc

-- roots that are there stay as the assignment grows
pub roots-grow : (values : List Value) (roots : List (VarId × ValueId)) (a b : Assignment)
    → IsWithin a b → HasRoots values roots a → HasRoots values roots b
roots-grow values [] a b grown has = tt
roots-grow values (root ∷ roots) a b grown has =
    (grown root.0 (at values root.1.0) has.0, roots-grow values roots a b grown has.1)
