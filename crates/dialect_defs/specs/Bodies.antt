-- What a body of constraints has to keep to so that its variables can be settled one by one.
--
--   AreBelow n vs                 each variable has a number below n
--   IsSoundAt len count v c       c may be the constraint of the variable v
--   IsSoundBody len count body    the body has few variables, each of which names earlier ones
--                                 alone; len values and count predicates are there
use Rattle.std.specs.Prelude.{◌≡◌, ℕ, ◌<◌, ◌≤◌, List, length, slice_get}
use Rattle.std.specs.List.{AllByRecursion}
use Rattle.std.specs.declared.option.Option.TheVariants.{Some}
use Rattle.dialect_defs.specs.declared.body.TheConstants.{VARIABLE_LIMIT}
use Rattle.dialect_defs.specs.declared.body.Body.{Body}
use Rattle.dialect_defs.specs.declared.body.Constraint.{Constraint}
use Rattle.dialect_defs.specs.declared.body.Constraint.TheVariants.{Is, Any, Base, Parametric}
use Rattle.dialect_defs.specs.declared.body.Constraint.TheVariants.{AnyOf, AllOf, Native}
use Rattle.dialect_defs.specs.declared.body.VarId.{VarId}

-- each variable has a number below n
abbrev pub AreBelow : ℕ → List VarId → Type 0
AreBelow n vs = AllByRecursion (λ v. v.0 < n) vs

-- Parts and members are earlier variables, a constant is a value that is there, and so is a
-- predicate.
abbrev pub IsSoundAt : ℕ → ℕ → ℕ → Constraint → Type 0
IsSoundAt len count v (Is id) = id.0 < len
IsSoundAt len count v Any = Unit {0}
IsSoundAt len count v (Base base) = Unit {0}
IsSoundAt len count v (Parametric is_type name parts) = AreBelow v parts
IsSoundAt len count v (AnyOf members) = AreBelow v members
IsSoundAt len count v (AllOf members) = AreBelow v members
IsSoundAt len count v (Native i) = i < count

-- A body of no more variables than the limit, each with a constraint that may be its own, where a
-- table of len values and count predicates are there.
pub record IsSoundBody (len count : ℕ) (body : Body) : Type 0 where
  pub few : length body.vars ≤ VARIABLE_LIMIT
  pub each : (v : ℕ) (c : Constraint) → slice_get body.vars v ≡ Some c
      → IsSoundAt len count v c
