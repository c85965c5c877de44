use Rattle.std.proofs.Common.{◌≡◌, ℕ, ◌<◌, Some}
use Rattle.std.specs.Prelude.{slice_get}
use Rattle.dialect_defs.specs.declared.body.Constraint.{Constraint}
use Rattle.dialect_defs.specs.declared.body.Constraint.TheVariants.{Any}
use Rattle.constraint_solver.proofs.sound.are_free.Given as goal

-- the variables before keep to nothing
abbrev pub invariant-loop-constraint : goal.invariant-loop-constraint
invariant-loop-constraint l =
    (v : ℕ) (c : Constraint) → v < l.constraint-index → slice_get l.vars v ≡ Some c → c ≡ Any
