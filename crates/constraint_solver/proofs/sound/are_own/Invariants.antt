use Rattle.std.proofs.Common.{◌≡◌, ℕ, ◌<◌, Some}
use Rattle.std.specs.Prelude.{slice_get}
use Rattle.dialect_defs.specs.declared.entry.Entry.{Entry}
use Rattle.constraint_solver.proofs.sound.are_own.Given as goal

-- the parameters before are the variables of their numbers
abbrev pub invariant-loop-i : goal.invariant-loop-i
invariant-loop-i l =
    (k : ℕ) (param : Entry) → k < l.i → slice_get l.params k ≡ Some param → param.var.0 ≡ k
