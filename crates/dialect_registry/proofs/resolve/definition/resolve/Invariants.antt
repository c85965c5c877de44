use Rattle.std.proofs.Common.{◌≡◌, take}
use Rattle.constraint_solver.specs.Grown.{Extends}
use Rattle.native_predicate.specs.Lists.{names, tests}
use Rattle.dialect_registry.specs.DefFaults.{dialects_of}
use Rattle.dialect_registry.specs.Resolved.{located_in}
use Rattle.dialect_registry.specs.Resolving.{Resolves}
use Rattle.dialect_registry.specs.Scopes.{Finds}
use Rattle.dialect_registry.specs.Targets.{World}
use Rattle.dialect_registry.proofs.resolve.definition.resolve.Given as goal

abbrev pub invariant-loop-file : goal.invariant-loop-file
invariant-loop-file g l = record {
  grown : Extends l.fn.u l.u;
  resolves : (w : World) → Finds w.dialects l.env.targets.now
      → w.natives ≡ names (λ p. (goal.NativePredicate-dyn g p).title p.1) l.env.natives.now
      → Resolves w (tests (λ p. (goal.NativePredicate-dyn g p).property p.1) l.env.natives.now)
      l.env.shapes.now l.u (located_in (dialects_of (take l.file-index l.files))) l.resolved;
}
