use Rattle.std.proofs.Common.{length}
use Rattle.constraint_solver.specs.Roots.{assigned, AreKnownIds}
use Rattle.constraint_solver.proofs.Loops.{FilledAll}
use Rattle.constraint_solver.proofs.assign.assign_all.Given as goal

abbrev pub invariant-loop-var : goal.invariant-loop-var
invariant-loop-var l = record {
  known : AreKnownIds (length l.u) l.slots.ids;
  filled : FilledAll l.u l.n (assigned l.u l.fn.slots.ids) l.vars l.id
      (assigned l.u l.slots.ids) l.var-index;
}
