use Rattle.std.proofs.Common.{◌≡◌, ◌++◌, List, take}
use Rattle.constraint_solver.specs.Grown.{Extends}
use Rattle.native_predicate.specs.Lists.{names, tests}
use Rattle.dialect_registry.specs.Resolved.{Located, located_in}
use Rattle.dialect_registry.specs.Resolving.{Resolves}
use Rattle.dialect_registry.specs.Scopes.{Finds}
use Rattle.dialect_registry.specs.Targets.{World}
use Rattle.dialect_registry.proofs.resolve.definition.Resolved.add_file.Given as goal

abbrev pub invariant-loop-dialect : goal.invariant-loop-dialect
invariant-loop-dialect g l = record {
  grown : Extends l.fn.u l.u;
  resolves : (w : World) (ds : List Located) → Finds w.dialects l.env.targets.now
      → w.natives ≡ names (λ p. (goal.NativePredicate-dyn g p).title p.1) l.env.natives.now
      → Resolves w (tests (λ p. (goal.NativePredicate-dyn g p).property p.1) l.env.natives.now)
      l.env.shapes.now l.fn.u ds l.fn.self
      → Resolves w (tests (λ p. (goal.NativePredicate-dyn g p).property p.1) l.env.natives.now)
      l.env.shapes.now l.u (ds ++ located_in (take l.dialect-index l.dialect-items)) l.self;
}
