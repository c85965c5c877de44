use Rattle.std.proofs.Common.{◌≡◌, take}
use Rattle.constraint_solver.specs.Grown.{Extends}
use Rattle.native_predicate.specs.Lists.{names, tests}
use Rattle.dialect_registry.specs.Resolved.{AreEach, IsConstraint}
use Rattle.dialect_registry.specs.Resolving.{constraints_of, named_seen}
use Rattle.dialect_registry.specs.Scopes.{Finds}
use Rattle.dialect_registry.specs.Targets.{World}
use Rattle.dialect_registry.proofs.resolve.constraint.body.Given as goal

abbrev pub invariant-loop-named : goal.invariant-loop-named
invariant-loop-named g l = record {
  grown : Extends l.fn.u l.u;
  each : (w : World) → Finds w.dialects l.env.targets.now
      → w.natives ≡ names (λ p. (goal.NativePredicate-dyn g p).title p.1) l.env.natives.now
      → AreEach (λ x c. IsConstraint w
      (tests (λ p. (goal.NativePredicate-dyn g p).property p.1) l.env.natives.now)
      l.env.shapes.now l.u l.own (constraints_of l.known) x.expr c)
      (named_seen (take l.named-index l.known.constraints.items)) l.vars;
}
