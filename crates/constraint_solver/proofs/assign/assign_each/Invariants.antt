use Rattle.std.proofs.Common.{length}
use Rattle.constraint_solver.specs.Roots.{assigned, AreKnownIds}
use Rattle.constraint_solver.proofs.Loops.{FilledEach}
use Rattle.constraint_solver.proofs.assign.assign_each.Given as goal

abbrev pub invariant-loop-i : goal.invariant-loop-i
invariant-loop-i l = record {
  known : AreKnownIds (length l.u) l.slots.ids;
  filled : FilledEach l.u l.n (assigned l.u l.fn.slots.ids) l.vars l.kids
      (assigned l.u l.slots.ids) l.i;
}
