use Rattle.std.proofs.Common.{◌∙◌, length, ap, sym}
use Rattle.std.proofs.Common.{eq-eqb}
use Rattle.std.proofs.lemmas.Bool.{eqb-true}
use Rattle.attr_value.specs.Ids.{kids_at}
use Rattle.attr_value.specs.Values.{list_of}
use Rattle.attr_value.proofs.Kids.{length-kids-at}
use Rattle.native_predicate.specs.Lists.{tests}
use Rattle.constraint_solver.proofs.Unconstrained.{unconstrained-instances}
use Rattle.constraint_solver.proofs.good.is_instance_of.Goals as goal

pub returns-then-is_unconstrained : goal.returns-then-is_unconstrained
returns-then-is_unconstrained g c =
    let u = c.args.u.now in
    let says = tests (λ p. (g.dyn-1.0.entry p.0).1.property p.1) c.args.natives.now in
    let instances = unconstrained-instances u says c.args.d.now
    (c.is_unconstrained.ensures.0 c.if-is_unconstrained.true)
    (list_of (kids_at u c.args.kids.now)) in
    let params = ap length c.as_slice.ensures in
    let kids = length-kids-at u c.args.kids.now in (
      λ is. instances.1 (kids ∙ sym (eqb-true _ _ is) ∙ params),
      λ instance. eq-eqb _ _ (params ∙ sym (instances.0 instance) ∙ kids),
    )
