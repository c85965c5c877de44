use Rattle.std.proofs.Common.{◌≡◌, ℕ, ◌<◌, Some}
use Rattle.std.specs.Prelude.{slice_get}
use Rattle.dialect_defs.specs.declared.body.Constraint.{Constraint}
use Rattle.dialect_defs.specs.Bodies.{AreBelow}
use Rattle.type_infer.specs.Determined.{named_in}
use Rattle.type_infer.proofs.ordered.are_ordered.Given as goal

-- the constraints before name earlier variables alone
abbrev pub invariant-loop-v : goal.invariant-loop-v
invariant-loop-v l =
    (w : ℕ) (c : Constraint) → w < l.v → slice_get l.vars w ≡ Some c → AreBelow w (named_in c)
