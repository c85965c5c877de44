use Rattle.std.proofs.Common.{◌≡◌, ◌∙◌, ap, subst}
use Rattle.native_predicate.specs.Lists.{tests}
use Rattle.dialect_registry.specs.Resolved.{IsBody, constraints_in, located}
use Rattle.dialect_registry.specs.Resolving.{constraints_of, Names}
use Rattle.dialect_registry.proofs.Resolving.{op-made}
use Rattle.dialect_registry.proofs.resolve.definition.op_def.Goals as goal

pub op_of-requires : goal.op_of-requires
op_of-requires g c = record {
  known = subst (λ l. Names l c.in_ok-known.known) c.as_slice-statements.ensures
      c.in_ok-known.ensures;
}

pub returns-clause-ok : goal.returns-clause-ok
returns-clause-ok g c = λ w finds given.
    let statements = c.args.def.now.statements in
    let known = c.in_ok-known.known in
    let all : Names statements known =
    subst (λ l. Names l known) c.as_slice-statements.ensures c.in_ok-known.ensures in
    let cs : constraints_of known ≡ constraints_in statements = all.constraints in
    op-made w (tests (λ p. (goal.NativePredicate-dyn g p).property p.1) c.args.env.now.natives.now) c.args.env.now.shapes.now c.body.new.u
    (located c.args.own.now c.args.def.now) c.in_ok-body.body c.in_ok-op_of.field-0
    c.in_ok-op_of.ensures
    (subst (λ l. IsBody w (tests (λ p. (goal.NativePredicate-dyn g p).property p.1) c.args.env.now.natives.now) c.args.env.now.shapes.now c.body.new.u c.args.own.now l c.in_ok-body.body) cs
    (c.in_ok-body.ensures.ok w finds given))
