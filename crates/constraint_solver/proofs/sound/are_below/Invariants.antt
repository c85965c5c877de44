use Rattle.std.proofs.Common.{ℕ, ◌<◌}
use Rattle.constraint_solver.proofs.Filled.{var_at}
use Rattle.constraint_solver.proofs.sound.are_below.Given as goal

-- the variables before are below n
abbrev pub invariant-loop-var : goal.invariant-loop-var
invariant-loop-var l = (k : ℕ) → k < l.var-index → (var_at l.vars k).0 < l.n
