-- Values that are found of variables: what is shown leaves no other.
--
-- A value is found of a variable from what its constraint names, upwards, and of what its
-- constraint names from its own, downwards. Where values are kept to be found, the table of values
-- grows; what is said of assignments is said over every table `final` that extends it.
--
--   HasGood values .. a v         the variable has a good value
--   IsCandidate values .. d a     an assignment that may be that of a completion: it meets the body,
--                                 and has a good value for each forced variable
--   Finds values found a          it has no other value for a variable of which one is found
--   Filled old new changed v id   a value was found of a variable, if none was before
--   HaveIds found vs ids          these were found of the variables
--   IsFound found v               a value was found of the variable
--   empty slots                   how many variables have none
--   FoundMore .. A ..             more was found: it is what the assignments of A have
--   FoundUp, FoundDown, FoundAt   all was found that follows at one variable
--   IsClosedFor .. found a        nothing more follows, as far as an assignment has good values
use Rattle.std.specs.Prelude.{◌≡◌, ℕ, ◌<◌, ◌≤◌, length, Bool, true, false, List, [], ◌∷◌}
use Rattle.std.specs.Prelude.{slice_get, slice_set, sum_by, Contains}
use Rattle.std.specs.declared.option.Option.{Option}
use Rattle.std.specs.declared.option.Option.TheVariants.{Some, None}
use Rattle.attr_value.specs.declared.head.ValueId.{ValueId}
use Rattle.attr_value.specs.Ids.{at}
use Rattle.attr_value.specs.Values.{Value}
use Rattle.dialect_defs.specs.declared.body.Constraint.{Constraint}
use Rattle.dialect_defs.specs.declared.body.Constraint.TheVariants.{Is}
use Rattle.dialect_defs.specs.declared.body.VarId.{VarId}
use Rattle.dialect_defs.specs.declared.definition.OpDef.{OpDef}
use Rattle.dialect_defs.specs.declared.definition.TypeDef.{TypeDef}
use Rattle.dialect_defs.specs.Assignments.{Tests, Assignment, Has, Keeps, MeetsBody}
use Rattle.dialect_defs.specs.Goodness.{Good}
use Rattle.constraint_solver.specs.Grown.{Extends}
use Rattle.constraint_solver.specs.Roots.{assigned}
use Rattle.type_infer.specs.Asked.{Slots, AreKnownSlots}
use Rattle.type_infer.specs.Determined.{Forced, IsOf, named_in}
use Rattle.type_infer.specs.Marks.{In}
use Rattle.type_infer.specs.Rule.{Follows}

-- a variable has a good value
pub record HasGood (values : List Value) (tests : Tests) (types : List TypeDef) (a : Assignment)
    (v : VarId) : Type 0 where
  pub it : Value
  pub has : Has a v it
  pub good : Good values tests types it

-- an assignment that meets the body, in which each forced variable has a good value
pub record IsCandidate (values : List Value) (tests : Tests) (types : List TypeDef) (d : OpDef)
    (a : Assignment) : Type 0 where
  pub body : MeetsBody values tests d.body a
  pub forced : (v : VarId) → Forced d v → HasGood values tests types a v

-- The assignment may have no value for the variable, but no other one.
pub record Finds (values : List Value) (found : Slots) (a : Assignment) : Type 0 where
  pub same : (v : VarId) (x y : Value) → Has (assigned values found) v x → Has a v y → y ≡ x

-- The variable gets the id, if it has none; changed says whether it had none.
pub record Filled (old new : Slots) (changed : Bool) (v : VarId) (id : ValueId) : Type 0 where
  pub fresh : changed ≡ true → (slice_get old v.0 ≡ Some None) × (new ≡ slice_set old v.0 (Some id))
  pub same : changed ≡ false → (new ≡ old) × ((x : ValueId) × (slice_get old v.0 ≡ Some (Some x)))

-- these ids were found of the variables, one by one
abbrev pub HaveIds : Slots → List VarId → List ValueId → Type 0
HaveIds found [] [] = Unit {0}
HaveIds found (v ∷ vs) (id ∷ ids) = (slice_get found v.0 ≡ Some (Some id)) × HaveIds found vs ids
HaveIds found [] (id ∷ ids) = ⊥
HaveIds found (v ∷ vs) [] = ⊥

-- a value was found of the variable
abbrev pub IsFound : Slots → VarId → Type 0
IsFound found v = (id : ValueId) × (slice_get found v.0 ≡ Some (Some id))

-- each value that was found is good
pub record AreGoodSlots (values : List Value) (tests : Tests) (types : List TypeDef) (slots : Slots)
    : Type 0 where
  pub each : (i : ℕ) (id : ValueId) → slice_get slots i ≡ Some (Some id)
      → Good values tests types (at values id.0)

-- each id of a list is that of a good value
abbrev pub AreGoodIds : List Value → Tests → List TypeDef → List ValueId → Type 0
AreGoodIds values tests types [] = Unit {0}
AreGoodIds values tests types (id ∷ ids) =
    Good values tests types (at values id.0) × AreGoodIds values tests types ids

-- one where the slot is empty
abbrev pub empty_slot : Option ValueId → ℕ
empty_slot None = 1
empty_slot (Some id) = 0

-- how many slots are empty
abbrev pub empty : Slots → ℕ
empty slots = sum_by empty_slot slots

-- a constant is that of a good value
abbrev pub IsGoodConstant : List Value → Tests → List TypeDef → Constraint → Type 0
IsGoodConstant values tests types (Is id) =
    (id.0 < length values) × Good values tests types (at values id.0)
IsGoodConstant values tests types _ = Unit {0}

-- each constant of the body is
abbrev pub HasGoodConstants : List Value → Tests → List TypeDef → OpDef → Type 0
HasGoodConstants values tests types d =
    (v : VarId) (c : Constraint) → IsOf d v c → IsGoodConstant values tests types c

-- More was found, and no slot was emptied; changed says whether any was filled. An assignment of A
-- that had no other values before has none now.
pub record FoundMore (tests : Tests) (types : List TypeDef) (A : List Value → Assignment → Type 0)
    (old new : List Value) (before after : Slots) (changed : Bool) : Type 0 where
  pub grew : Extends old new
  pub size : length after ≡ length before
  pub known : AreKnownSlots (length new) after
  pub good : AreGoodSlots new tests types after
  pub kept : (i : ℕ) (id : ValueId) → slice_get before i ≡ Some (Some id)
      → slice_get after i ≡ Some (Some id)
  pub same : changed ≡ false → after ≡ before
  pub fewer : changed ≡ true → empty after < empty before
  pub no_more : empty after ≤ empty before
  pub finds : (final : List Value) (a : Assignment) → Extends new final → A final a
      → Finds final before a → Finds final after a

-- a variable that has a value keeps to its constraint
abbrev pub KeepsAt : Tests → VarId → Constraint → List Value → Assignment → Type 0
KeepsAt tests v c values a = (x : Value) → Has a v x → Keeps values tests a c x

-- a variable has a value that keeps to its constraint
pub record HasKept (tests : Tests) (v : VarId) (c : Constraint) (values : List Value)
    (a : Assignment) : Type 0 where
  pub it : Value
  pub has : Has a v it
  pub keeps : Keeps values tests a c it

-- what follows upwards at a variable was found, where it is good
pub record FoundUp (tests : Tests) (types : List TypeDef) (old new : List Value)
    (before after : Slots) (changed : Bool) (v : VarId) (c : Constraint) : Type 0 where
  pub more : FoundMore tests types (KeepsAt tests v c) old new before after changed
  pub up : (final : List Value) (a : Assignment) → Extends new final → KeepsAt tests v c final a
      → Finds final before a → HasGood final tests types a v → Follows c (IsFound before)
      → IsFound after v

-- values were found of the first n of some variables
pub record FoundEach (tests : Tests) (types : List TypeDef) (values : List Value)
    (A : List Value → Assignment → Type 0) (before after : Slots) (changed : Bool)
    (vars : List VarId) (n : ℕ) : Type 0 where
  pub more : FoundMore tests types A values values before after changed
  pub each : (k : ℕ) (v : VarId) → k < n → slice_get vars k ≡ Some v → IsFound after v

-- what follows downwards from a value of a constraint was found
pub record FoundUnder (tests : Tests) (types : List TypeDef) (values : List Value)
    (before after : Slots) (changed : Bool) (id : ValueId) (c : Constraint) : Type 0 where
  pub more : FoundMore tests types (λ final a. Keeps final tests a c (at final id.0)) values values
      before after changed
  pub each : (final : List Value) (a : Assignment) → Extends values final
      → Keeps final tests a c (at final id.0) → (v : VarId) → Contains (named_in c) v
      → IsFound after v

-- what follows downwards from a variable was found
pub record FoundDown (tests : Tests) (types : List TypeDef) (values : List Value)
    (before after : Slots) (changed : Bool) (whole : VarId) (c : Constraint) : Type 0 where
  pub more : FoundMore tests types (HasKept tests whole c) values values before after changed
  pub down : (final : List Value) (a : Assignment) → Extends values final
      → HasKept tests whole c final a → Finds final before a → IsFound before whole
      → (v : VarId) → Contains (named_in c) v → IsFound after v

-- a variable keeps to its constraint, and has a good value where it is in a set
pub record StandsAt (tests : Tests) (types : List TypeDef) (forced : List Bool) (v : VarId)
    (c : Constraint) (values : List Value) (a : Assignment) : Type 0 where
  pub keeps : KeepsAt tests v c values a
  pub forced_has : In forced v → HasGood values tests types a v

-- what follows downwards from a variable was found, where it is in a set
pub record FoundForced (tests : Tests) (types : List TypeDef) (values : List Value)
    (before after : Slots) (changed : Bool) (forced : List Bool) (whole : VarId) (c : Constraint)
    : Type 0 where
  pub more : FoundMore tests types (λ final a. In forced whole → HasKept tests whole c final a)
      values values before after changed
  pub down : (final : List Value) (a : Assignment) → Extends values final
      → (In forced whole → HasKept tests whole c final a) → Finds final before a → In forced whole
      → IsFound before whole → (v : VarId) → Contains (named_in c) v → IsFound after v

-- what follows at a variable was found, upwards, and downwards where it is in the set
pub record FoundAt (tests : Tests) (types : List TypeDef) (old new : List Value)
    (before after : Slots) (changed : Bool) (forced : List Bool) (v : VarId) (c : Constraint)
    : Type 0 where
  pub more : FoundMore tests types (StandsAt tests types forced v c) old new before after changed
  pub up : (final : List Value) (a : Assignment) → Extends new final
      → StandsAt tests types forced v c final a → Finds final before a
      → HasGood final tests types a v → Follows c (IsFound before) → IsFound after v
  pub down : (final : List Value) (a : Assignment) → Extends new final
      → StandsAt tests types forced v c final a → Finds final before a → In forced v
      → IsFound before v → (w : VarId) → Contains (named_in c) w → IsFound after w

-- nothing more follows at the variables below n, as far as an assignment has good values
pub record IsClosedFor (values : List Value) (tests : Tests) (types : List TypeDef) (d : OpDef)
    (found : Slots) (a : Assignment) (n : ℕ) : Type 0 where
  pub up : (v : VarId) (c : Constraint) → v.0 < n → IsOf d v c → HasGood values tests types a v
      → Follows c (IsFound found) → IsFound found v
  pub down : (v whole : VarId) (c : Constraint) → whole.0 < n → IsOf d whole c → Forced d whole
      → IsFound found whole → Contains (named_in c) v → IsFound found v

-- More was found at the first n variables of the body, and where nothing was, nothing more follows
-- there.
pub record FoundRound (tests : Tests) (types : List TypeDef) (d : OpDef) (old new : List Value)
    (before after : Slots) (changed : Bool) (n : ℕ) : Type 0 where
  pub more : FoundMore tests types (λ values a. IsCandidate values tests types d a) old new before
      after changed
  pub closed : changed ≡ false → (final : List Value) (a : Assignment) → Extends new final
      → IsCandidate final tests types d a → Finds final after a
      → IsClosedFor final tests types d after a n

-- more was found, until nothing more follows
pub record FoundAll (tests : Tests) (types : List TypeDef) (d : OpDef) (old new : List Value)
    (before after : Slots) : Type 0 where
  pub changed : Bool
  pub more : FoundMore tests types (λ values a. IsCandidate values tests types d a) old new before
      after changed
  pub closed : (final : List Value) (a : Assignment) → Extends new final
      → IsCandidate final tests types d a → Finds final after a
      → IsClosedFor final tests types d after a (length d.body.vars)
