use Rattle.std.proofs.Common.{◌<◌, length, subst, sym}
use Rattle.constraint_solver.proofs.Grows.{extends-trans}
use Rattle.native_predicate.specs.Lists.{tests}
use Rattle.dialect_registry.specs.Resolving.{constraints_of, one_seen, IsBad}
use Rattle.dialect_registry.proofs.Members.{in-map}
use Rattle.dialect_registry.proofs.Resolving.{constraints-next}
use Rattle.dialect_registry.proofs.resolve.constraint.body.Goals as goal

pub returns-in_err-constraint-clause-bad : goal.returns-in_err-constraint-clause-bad
returns-in_err-constraint-clause-bad g c = λ e.
    let item = c.named-item.result in
    let items = c.args.known.now.constraints.items in
    let less : c.loop-named.named-index < length items =
    subst (λ l. c.loop-named.named-index < length l) c.deref-named-items.ensures.value
    c.loop-named-test.true in
    let bad : IsBad (tests (λ p. (goal.NativePredicate-dyn g p).property p.1) c.args.env.now.natives.now) c.args.env.now.shapes.now item.expr.now =
    c.in_err-constraint.ensures.bad (search (rw e at c.from_residual.ensures)) in (
      one_seen item,
      in-map one_seen items item (
        c.loop-named.named-index,
        less,
        sym (rw c.deref-named-items.ensures.value at c.named-item.is),
      ),
      bad,
    )

pub loop-named-preserved : goal.loop-named-preserved
loop-named-preserved g c = record {
  grown = extends-trans c.loop-named.invariant.grown c.constraint.ensures.later;
  each = λ w finds given.
      constraints-next w (tests (λ p. (goal.NativePredicate-dyn g p).property p.1) c.args.env.now.natives.now) c.args.env.now.shapes.now c.constraint.ensures.later c.args.own.now
      (constraints_of c.args.known.now) c.args.known.now.constraints.items
      c.loop-named.named-index c.named-item.result c.loop-named.vars c.push.new.self
      c.in_ok-constraint.field-0
      (subst (λ l. c.loop-named.named-index < length l) c.deref-named-items.ensures.value
      c.loop-named-test.true)
      (rw c.deref-named-items.ensures.value at c.named-item.is)
      (c.loop-named.invariant.each w finds given)
      (c.in_ok-constraint.ensures.ok w finds given) c.in_ok-push.ensures.ok;
}
