-- Rounds over the body: what is found at one variable after the other, until nothing is.
use Rattle.std.proofs.Common.{◌≡◌, ◌⊎◌, inl, inr, ℕ, ◌+◌, ◌<◌, ◌≤◌, Bool, true, false, List, length, ◌||◌}
use Rattle.std.proofs.Common.{refl, sym, subst, arith}
use Rattle.std.proofs.lemmas.Bool.{cases_lt}
use Rattle.std.specs.List.{Contains}
use Rattle.attr_value.specs.Values.{Value}
use Rattle.dialect_defs.specs.declared.body.Constraint.{Constraint}
use Rattle.dialect_defs.specs.declared.body.Constraint.TheVariants.{Is, Any, Base, Parametric}
use Rattle.dialect_defs.specs.declared.body.Constraint.TheVariants.{AnyOf, AllOf, Native}
use Rattle.dialect_defs.specs.declared.body.VarId.{VarId}
use Rattle.dialect_defs.specs.declared.definition.OpDef.{OpDef}
use Rattle.dialect_defs.specs.declared.definition.TypeDef.{TypeDef}
use Rattle.dialect_defs.specs.Assignments.{Tests, Assignment}
use Rattle.constraint_solver.specs.Definitions.{AreSoundDefs}
use Rattle.constraint_solver.specs.Grown.{Extends}
use Rattle.constraint_solver.proofs.Grows.{extends-refl, extends-trans, good-at-grows}
use Rattle.constraint_solver.proofs.Grows.{length-grows}
use Rattle.type_infer.specs.Asked.{Slots, AreKnownSlots}
use Rattle.type_infer.specs.Determined.{Forced, IsOf, named_in}
use Rattle.type_infer.specs.Found.{AreGoodSlots, Finds, FoundAll, FoundAt, FoundDown, FoundForced}
use Rattle.type_infer.specs.Found.{FoundMore, FoundRound, FoundUp, HasGood, HasKept, IsCandidate}
use Rattle.type_infer.specs.Found.{IsClosedFor, IsFound, IsGoodConstant, StandsAt}
use Rattle.type_infer.specs.Marks.{In}
use Rattle.type_infer.specs.Rule.{Follows}
use Rattle.type_infer.proofs.Filling.{more-as, more-none, more-then, stays-found}
use Rattle.type_infer.proofs.Marking.{same-var}

module _ (tests : Tests) (types : List TypeDef) where
  -- a variable outside of the set leads to nothing
  pub forced-none : (values : List Value) (found : Slots) (forced : List Bool) (v : VarId)
      (c : Constraint) → AreKnownSlots (length values) found
      → AreGoodSlots values tests types found → (In forced v → ⊥)
      → FoundForced tests types values found found false forced v c
  forced-none values found forced v c known good outside = record {
    more = more-none tests types (λ final a. In forced v → HasKept tests v c final a) values values
        found (extends-refl values) known good;
    down = λ final a later kept finds inside has w among. absurd (outside inside);
  }

  -- one inside leads to what it names
  pub forced-down : (values : List Value) (before after : Slots) (x : Bool) (forced : List Bool)
      (v : VarId) (c : Constraint) → In forced v
      → FoundDown tests types values before after x v c
      → FoundForced tests types values before after x forced v c
  forced-down values before after x forced v c inside found = record {
    more = more-as tests types found.more (λ final a later kept. kept inside);
    down = λ final a later kept finds there has w among.
        found.down final a later (kept inside) finds has w among;
  }

  -- upwards, and then downwards
  pub at-found : (old new : List Value) (before between after : Slots) (x y : Bool)
      (forced : List Bool) (v : VarId) (c : Constraint)
      → FoundUp tests types old new before between x v c
      → FoundForced tests types new between after y forced v c
      → FoundAt tests types old new before after (x || y) forced v c
  at-found old new before between after x y forced v c up down = record {
    more = more-then tests types refl up.more down.more (λ final a later stands. stands.keeps)
        (λ final a later stands. kept final a stands);
    up = λ final a later stands finds has follows.
        stays-found down.more v (up.up final a later stands.keeps finds has follows);
    down = λ final a later stands finds inside found w among.
        down.down final a later (kept final a stands)
        (up.more.finds final a later stands.keeps finds) inside (stays-found up.more v found) w
        among;
  }
    where
      kept : (final : List Value) (a : Assignment) → StandsAt tests types forced v c final a
          → In forced v → HasKept tests v c final a
      kept final a stands inside =
          let has = stands.forced_has inside in
          record { it = has.it; has = has.has; keeps = stands.keeps has.it has.has }

  module _ (d : OpDef) where
    -- before the first variable nothing was found
    pub found-start : (values : List Value) (found : Slots) → AreKnownSlots (length values) found
        → AreGoodSlots values tests types found
        → FoundRound tests types d values values found found false 0
    found-start values found known good = record {
      more = more-none tests types (λ final a. IsCandidate final tests types d a) values values found
          (extends-refl values) known good;
      closed = λ still final a later is finds. record {
        up = λ v c within. absurd (omega arith);
        down = λ v whole c within. absurd (omega arith);
      };
    }

    module _ (forced : List Bool) (must : (v : VarId) → In forced v → Forced d v)
        (all : (v : VarId) → Forced d v → In forced v) where
      stands-at : (v : VarId) (c : Constraint) (final : List Value) (a : Assignment) → IsOf d v c
          → IsCandidate final tests types d a → StandsAt tests types forced v c final a
      stands-at v c final a is candidate = record {
        keeps = λ x has. candidate.body.each v c x is has;
        forced_has = λ inside. candidate.forced v (must v inside);
      }

      -- one variable more
      pub found-step : (old mid new : List Value) (before between after : Slots) (x y : Bool)
          (v : VarId) (c : Constraint) → IsOf d v c
          → FoundRound tests types d old mid before between x v.0
          → FoundAt tests types mid new between after y forced v c
          → FoundRound tests types d old new before after (x || y) (v.0 + 1)
      found-step old mid new before between after x y v c is r m = record {
        more = more-then tests types refl r.more m.more (λ final a later candidate. candidate)
            (λ final a later candidate. stands-at v c final a is candidate);
        closed = by_closed x y r.closed m.more.same;
      }
        where
          step : (final : List Value) (a : Assignment) → Extends new final
              → IsCandidate final tests types d a → Finds final between a → after ≡ between
              → IsClosedFor final tests types d between a v.0
              → IsClosedFor final tests types d between a (v.0 + 1)
          step final a later candidate finds same earlier = record {
            up = λ w e within at_w has follows. up_at w e within at_w has follows (cases_lt w.0 v.0);
            down = λ w whole e within at_w be has among.
                down_at w whole e within at_w be has among (cases_lt whole.0 v.0);
          }
            where
              up_at : (w : VarId) (e : Constraint) → w.0 < v.0 + 1 → IsOf d w e
                  → HasGood final tests types a w → Follows e (IsFound between)
                  → (w.0 < v.0) ⊎ (v.0 ≤ w.0) → IsFound between w
              up_at w e within at_w has follows (inl before_v) =
                  earlier.up w e before_v at_w has follows
              up_at w e within at_w has follows (inr from) =
                  let here : w ≡ v = same-var w v (omega (arith, within, from)) in
                  let is_e : IsOf d v e = subst (λ u. IsOf d u e) here at_w in
                  let one : e ≡ c = cc in
                  let good : HasGood final tests types a v =
                  subst (HasGood final tests types a) here has in
                  subst (λ u. IsFound between u) (sym here)
                  (subst (λ s. IsFound s v) same
                  (m.up final a later (stands-at v c final a is candidate) finds good
                  (subst (λ k. Follows k (IsFound between)) one follows)))

              down_at : (w whole : VarId) (e : Constraint) → whole.0 < v.0 + 1 → IsOf d whole e
                  → Forced d whole → IsFound between whole → Contains (named_in e) w
                  → (whole.0 < v.0) ⊎ (v.0 ≤ whole.0) → IsFound between w
              down_at w whole e within at_w be has among (inl before_v) =
                  earlier.down w whole e before_v at_w be has among
              down_at w whole e within at_w be has among (inr from) =
                  let here : whole ≡ v = same-var whole v (omega (arith, within, from)) in
                  let is_e : IsOf d v e = subst (λ u. IsOf d u e) here at_w in
                  let one : e ≡ c = cc in
                  subst (λ s. IsFound s w) same
                  (m.down final a later (stands-at v c final a is candidate) finds
                  (subst (In forced) here (all whole be))
                  (subst (λ u. IsFound between u) here has) w
                  (subst (λ k. Contains (named_in k) w) one among))

          by_closed : (x y : Bool)
              → (x ≡ false → (final : List Value) (a : Assignment) → Extends mid final
              → IsCandidate final tests types d a → Finds final between a
              → IsClosedFor final tests types d between a v.0)
              → (y ≡ false → after ≡ between) → (x || y) ≡ false
              → (final : List Value) (a : Assignment) → Extends new final
              → IsCandidate final tests types d a → Finds final after a
              → IsClosedFor final tests types d after a (v.0 + 1)
          by_closed true y one two e = absurd cc
          by_closed false true one two e = absurd cc
          by_closed false false one two e = λ final a later candidate finds.
              let same = two refl in
              let now : Finds final between a = subst (λ s. Finds final s a) same finds in
              subst (λ s. IsClosedFor final tests types d s a (v.0 + 1)) (sym same)
              (step final a later candidate now same
              (one refl final a (extends-trans m.more.grew later) candidate now))

    -- a round in which nothing was found is the last
    pub found-last : (old mid new : List Value) (before between after : Slots) (x : Bool) (n : ℕ)
        → length d.body.vars ≤ n
        → FoundMore tests types (λ final a. IsCandidate final tests types d a) old mid before
        between x
        → FoundRound tests types d mid new between after false n
        → FoundAll tests types d old new before after
    found-last old mid new before between after x n many first last = record {
      changed = x || false;
      more = more-then tests types refl first last.more (λ final a later candidate. candidate)
          (λ final a later candidate. candidate);
      closed = λ final a later candidate finds.
          let closed = last.closed refl final a later candidate finds in
          record {
            up = λ v c within. closed.up v c (omega (arith, within, many));
            down = λ v whole c within. closed.down v whole c (omega (arith, within, many));
          };
    }

-- a constant stays good where the table grows
pub constant-grows : {old new : List Value} {count : ℕ} {types : List TypeDef} → Extends old new
    → AreSoundDefs (length old) count types → (tests : Tests) (c : Constraint)
    → IsGoodConstant old tests types c → IsGoodConstant new tests types c
constant-grows grew sound tests (Is id) good =
    (omega (arith, good.0, length-grows grew), good-at-grows grew sound tests id.0 good.0 good.1)
constant-grows grew sound tests Any good = tt
constant-grows grew sound tests (Base base) good = tt
constant-grows grew sound tests (Parametric is_type name parts) good = tt
constant-grows grew sound tests (AnyOf members) good = tt
constant-grows grew sound tests (AllOf members) good = tt
constant-grows grew sound tests (Native i) good = tt
