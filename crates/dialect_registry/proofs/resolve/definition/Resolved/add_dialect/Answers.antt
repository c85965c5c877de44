use Rattle.std.proofs.Common.{◌++◌, map, take}
use Rattle.constraint_solver.proofs.Grows.{extends-trans}
use Rattle.native_predicate.specs.Lists.{tests}
use Rattle.dialect_registry.specs.Resolved.{located}
use Rattle.dialect_registry.proofs.Resolving.{resolves-def}
use Rattle.dialect_registry.proofs.resolve.definition.Resolved.add_dialect.Goals as goal

pub loop-def-preserved : goal.loop-def-preserved
loop-def-preserved g c = record {
  grown = extends-trans c.loop-def.invariant.grown c.add.ensures.later;
  resolves = λ w ds finds given before.
      resolves-def w (tests (λ p. (goal.NativePredicate-dyn g p).property p.1) c.args.env.now.natives.now) c.args.env.now.shapes.now c.add.new.u c.args.dialect.now.name ds c.as_slice-def-items.result.now
      c.loop-def.def-index c.def-item.result c.add.new.self c.loop-def-test.true c.def-item.is
      (rw c.bytes-own.ensures at (c.in_ok-add.ensures.ok w
      (ds ++ map (located c.args.dialect.now.name)
      (take c.loop-def.def-index c.as_slice-def-items.result.now)) finds given
      (c.loop-def.invariant.resolves w ds finds given before)));
}
