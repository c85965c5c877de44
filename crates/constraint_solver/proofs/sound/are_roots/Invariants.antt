use Rattle.std.proofs.Common.{ℕ, ◌<◌, length}
use Rattle.constraint_solver.proofs.Filled.{root_at}
use Rattle.constraint_solver.proofs.sound.are_roots.Given as goal

-- the roots before are roots of the body
abbrev pub invariant-loop-root : goal.invariant-loop-root
invariant-loop-root l = record {
  vars : (k : ℕ) → k < l.root-index → (root_at l.roots k).0.0 < length l.body.vars;
  ids : (k : ℕ) → k < l.root-index → (root_at l.roots k).1.0 < l.len;
}
