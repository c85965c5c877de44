use Rattle.std.proofs.Common.{refl, arith, ◌≤◌}
use Rattle.attr_value.specs.Ids.{at}
use Rattle.attr_value.specs.Values.{depth}
use Rattle.attr_value.specs.declared.head.TheConstants.{DEPTH_LIMIT}
use Rattle.native_predicate.specs.Lists.{tests}
use Rattle.constraint_solver.proofs.Goods.{is-good, node-of}
use Rattle.constraint_solver.proofs.good.good_head.Goals as goal

pub returns : goal.returns
returns g c =
    let u = c.args.u.now in
    let says = tests (λ p. (g.dyn-1.0.entry p.0).1.property p.1) c.args.natives.now in
    let shallow : depth (at u c.args.id.0) ≤ DEPTH_LIMIT = omega (arith, c.depth.ensures) in (
      λ is. is-good u says c.args.types.now (at u c.args.id.0) c.view.result.0.now
          c.view.result.1.now c.view.ensures.value c.requires.kids shallow
          (record {
            rule = c.if-not-keeps_own_rule.ensures.0 refl;
            defined = c.is_defined.ensures.0 is;
          }),
      λ good. c.is_defined.ensures.1
          (node-of u says c.args.types.now (at u c.args.id.0) c.view.result.0.now
          c.view.result.1.now c.view.ensures.value good).defined,
    )
