use Rattle.std.proofs.Common.{length}
use Rattle.constraint_solver.specs.Roots.{assigned, AreKnownIds}
use Rattle.constraint_solver.proofs.Loops.{FilledRoots}
use Rattle.constraint_solver.proofs.assign.assign_roots.Given as goal

abbrev pub invariant-loop-root : goal.invariant-loop-root
invariant-loop-root l = record {
  known : AreKnownIds (length l.u) l.slots.ids;
  filled : FilledRoots l.u l.n (assigned l.u l.fn.slots.ids) l.roots
      (assigned l.u l.slots.ids) l.root-index;
}
