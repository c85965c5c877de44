use Rattle.std.proofs.Common.{refl}
use Rattle.native_predicate.specs.Lists.{tests}
use Rattle.dialect_registry.specs.Resolved.{located}
use Rattle.dialect_registry.proofs.Resolving.{one-type, resolves-grows, resolves-op, resolves-type}
use Rattle.dialect_registry.proofs.resolve.definition.Resolved.add.Goals as goal

pub returns-in_ok-push-in-OfOp-clause-ok : goal.returns-in_ok-push-in-OfOp-clause-ok
returns-in_ok-push-in-OfOp-clause-ok g c = λ w ds finds given before.
    resolves-op w (tests (λ p. (goal.NativePredicate-dyn g p).property p.1) c.args.env.now.natives.now) c.args.env.now.shapes.now c.op_def.new.u ds c.args.own.now c.args.def.now c.args.self.now
    (record c.args.self.now { ops = c.push.new.list }) c.in_ok-op_def-in-OfOp.field-0
    c.in-OfOp.is refl c.in_ok-push-in-OfOp.ensures
    (resolves-grows w (tests (λ p. (goal.NativePredicate-dyn g p).property p.1) c.args.env.now.natives.now) c.args.env.now.shapes.now c.op_def.ensures.later before)
    (c.in_ok-op_def-in-OfOp.ensures.ok w finds given)

pub returns-in_ok-push-in-OfType-clause-ok : goal.returns-in_ok-push-in-OfType-clause-ok
returns-in_ok-push-in-OfType-clause-ok g c = λ w ds finds given before.
    let kind = one-type (located c.args.own.now c.args.def.now) c.in-OfType.is in
    resolves-type w (tests (λ p. (goal.NativePredicate-dyn g p).property p.1) c.args.env.now.natives.now) c.args.env.now.shapes.now c.type_def.new.u ds c.args.own.now c.args.def.now c.args.self.now
    (record c.args.self.now { types = c.push-in-OfType.new.list })
    c.in_ok-type_def-in-OfType.field-0 kind.0 kind.1 refl c.in_ok-push-in-OfType.ensures
    (resolves-grows w (tests (λ p. (goal.NativePredicate-dyn g p).property p.1) c.args.env.now.natives.now) c.args.env.now.shapes.now c.type_def.ensures.later before)
    (c.in_ok-type_def-in-OfType.ensures.ok w finds given)
