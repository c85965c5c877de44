use Rattle.std.proofs.Common.{take}
use Rattle.constraint_solver.proofs.Grows.{extends-trans}
use Rattle.native_predicate.specs.Lists.{tests}
use Rattle.dialect_registry.specs.DefFaults.{dialects_of}
use Rattle.dialect_registry.specs.Resolved.{located_in}
use Rattle.dialect_registry.proofs.Resolving.{resolves-file}
use Rattle.dialect_registry.proofs.resolve.definition.resolve.Goals as goal

pub loop-file-preserved : goal.loop-file-preserved
loop-file-preserved g c = record {
  grown = extends-trans c.loop-file.invariant.grown c.add_file.ensures.later;
  resolves = λ w finds given.
      resolves-file w (tests (λ p. (goal.NativePredicate-dyn g p).property p.1) c.args.env.now.natives.now) c.args.env.now.shapes.now c.add_file.new.u c.args.files.now c.loop-file.file-index
      c.file-item.result c.add_file.new.self c.loop-file-test.true c.file-item.is
      (c.in_ok-add_file.ensures.ok w
      (located_in (dialects_of (take c.loop-file.file-index c.args.files.now))) finds given
      (c.loop-file.invariant.resolves w finds given));
}
