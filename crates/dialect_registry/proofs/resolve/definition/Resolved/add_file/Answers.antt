use Rattle.std.proofs.Common.{◌++◌, take}
use Rattle.constraint_solver.proofs.Grows.{extends-trans}
use Rattle.native_predicate.specs.Lists.{tests}
use Rattle.dialect_registry.specs.Resolved.{located_in, located_of}
use Rattle.dialect_registry.proofs.Resolving.{resolves-next}
use Rattle.dialect_registry.proofs.resolve.definition.Resolved.add_file.Goals as goal

pub loop-dialect-preserved : goal.loop-dialect-preserved
loop-dialect-preserved g c = record {
  grown = extends-trans c.loop-dialect.invariant.grown c.add_dialect.ensures.later;
  resolves = λ w ds finds given before.
      resolves-next w (tests (λ p. (goal.NativePredicate-dyn g p).property p.1) c.args.env.now.natives.now) c.args.env.now.shapes.now c.add_dialect.new.u located_of ds c.as_slice-dialect-items.result.now
      c.loop-dialect.dialect-index c.dialect-item.result c.add_dialect.new.self
      c.loop-dialect-test.true c.dialect-item.is
      (c.in_ok-add_dialect.ensures.ok w
      (ds ++ located_in (take c.loop-dialect.dialect-index c.as_slice-dialect-items.result.now))
      finds given (c.loop-dialect.invariant.resolves w ds finds given before));
}
