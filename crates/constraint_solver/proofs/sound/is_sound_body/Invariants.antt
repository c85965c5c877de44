use Rattle.std.proofs.Common.{◌≡◌, ℕ, ◌<◌, Some}
use Rattle.std.specs.Prelude.{slice_get}
use Rattle.dialect_defs.specs.declared.body.Constraint.{Constraint}
use Rattle.dialect_defs.specs.Bodies.{IsSoundAt}
use Rattle.constraint_solver.proofs.sound.is_sound_body.Given as goal

-- the constraints before may be those of their variables
abbrev pub invariant-loop-v : goal.invariant-loop-v
invariant-loop-v l =
    (w : ℕ) (c : Constraint) → w < l.v → slice_get l.vars w ≡ Some c → IsSoundAt l.len l.count w c
