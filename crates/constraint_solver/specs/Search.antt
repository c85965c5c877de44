-- How the search goes: what a step of it shows of all assignments.
--
-- The search settles variables from the last to the first. What one has asks something of earlier
-- ones alone, so a constraint that was kept stays kept.
--
--   SameFrom n a b              the values of b from the variable n on are values of a
--   Forced n old new P          new is the least assignment above old with the property P
--   Refuted old P               no assignment above old has the property P
--   Forces n .. old new took P  a call that gives values until P holds did so, or P can't be had
--   MeetsBelow n .. body a      each variable below n keeps to its constraint
--   Solved n .. old new         new is above old, and each variable below n keeps to its constraint
--   IsDirect c                  the constraint c leaves no choice
--
-- Inside: no public clause rests on this.
use Rattle.std.specs.Prelude.{◌≡◌, ℕ, ◌<◌, ◌≤◌, Bool, false, IsTrue, List, length, slice_get}
use Rattle.std.specs.declared.option.Option.{Option}
use Rattle.std.specs.declared.option.Option.TheVariants.{Some}
use Rattle.attr_value.specs.declared.head.ValueId.{ValueId}
use Rattle.attr_value.specs.Values.{Value}
use Rattle.dialect_defs.specs.declared.body.Body.{Body}
use Rattle.dialect_defs.specs.declared.body.Constraint.{Constraint}
use Rattle.dialect_defs.specs.declared.body.Constraint.TheVariants.{AnyOf}
use Rattle.dialect_defs.specs.declared.body.VarId.{VarId}
use Rattle.dialect_defs.specs.Assignments.{Tests, Assignment, Has, IsWithin, Keeps}
use Rattle.constraint_solver.specs.Roots.{assigned, AreKnownIds}

-- from the variable n on, the second has no value that the first hasn't
abbrev pub SameFrom : ℕ → Assignment → Assignment → Type 0
SameFrom n a b = (v : VarId) (x : Value) → n ≤ v.0 → Has b v x → Has a v x

-- new is the least assignment above old with the property, and as old from the variable n on
pub record Forced (n : ℕ) (old new : Assignment) (P : Assignment → Type 0) : Type 0 where
  pub grown : IsWithin old new
  pub holds : P new
  pub least : (a : Assignment) → IsWithin old a → P a → IsWithin new a
  pub above : SameFrom n old new

-- no assignment above old has the property
abbrev pub Refuted : Assignment → (Assignment → Type 0) → Type 0
Refuted old P = (a : Assignment) → IsWithin old a → P a → ⊥

-- What a call shows that gives values to variables below n so that P holds: where it answers true,
-- it gave the least such values, each that of an id that is there; where it answers false, no more
-- values make P hold.
pub record Forces (n : ℕ) (values : List Value) (old new : List (Option ValueId)) (took : Bool)
    (P : Assignment → Type 0) : Type 0 where
  pub forced : IsTrue took → Forced n (assigned values old) (assigned values new) P
  pub known : IsTrue took → AreKnownIds (length values) new
  pub refuted : took ≡ false → Refuted (assigned values old) P

-- each variable below n that has a value keeps to its constraint
abbrev pub MeetsBelow : ℕ → List Value → Tests → Body → Assignment → Type 0
MeetsBelow n values tests body a = (v : VarId) (c : Constraint) (x : Value) → v.0 < n
    → slice_get body.vars v.0 ≡ Some c → Has a v x → Keeps values tests a c x

-- new is above old, as old from the variable n on, and met below it
pub record Solved (n : ℕ) (values : List Value) (tests : Tests) (body : Body)
    (old new : Assignment) : Type 0 where
  pub grown : IsWithin old new
  pub met : MeetsBelow n values tests body new
  pub above : SameFrom n old new

-- the constraint leaves no choice
abbrev pub IsDirect : Constraint → Type 0
IsDirect (AnyOf members) = ⊥
IsDirect _ = Unit {0}
