use Rattle.std.proofs.Common.{◌≡◌, ◌++◌, List, map, take}
use Rattle.constraint_solver.specs.Grown.{Extends}
use Rattle.native_predicate.specs.Lists.{names, tests}
use Rattle.dialect_registry.specs.Resolved.{Located, located}
use Rattle.dialect_registry.specs.Resolving.{Resolves}
use Rattle.dialect_registry.specs.Scopes.{Finds}
use Rattle.dialect_registry.specs.Targets.{World}
use Rattle.dialect_registry.proofs.resolve.definition.Resolved.add_dialect.Given as goal

abbrev pub invariant-loop-def : goal.invariant-loop-def
invariant-loop-def g l = record {
  grown : Extends l.fn.u l.u;
  resolves : (w : World) (ds : List Located) → Finds w.dialects l.env.targets.now
      → w.natives ≡ names (λ p. (goal.NativePredicate-dyn g p).title p.1) l.env.natives.now
      → Resolves w (tests (λ p. (goal.NativePredicate-dyn g p).property p.1) l.env.natives.now)
      l.env.shapes.now l.fn.u ds l.fn.self
      → Resolves w (tests (λ p. (goal.NativePredicate-dyn g p).property p.1) l.env.natives.now)
      l.env.shapes.now l.u (ds ++ map (located l.dialect.name) (take l.def-index l.def-items)) l.self;
}
