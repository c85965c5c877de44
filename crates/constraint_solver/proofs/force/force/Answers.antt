use Rattle.std.proofs.Common.{◌∙◌, sym, ap, subst}
use Rattle.attr_value.specs.Ids.{at}
use Rattle.dialect_defs.specs.declared.body.Constraint.TheVariants.{AllOf}
use Rattle.dialect_defs.specs.Assignments.{Keeps}
use Rattle.native_predicate.specs.Lists.{tests}
use Rattle.constraint_solver.specs.Search.{Forces}
use Rattle.constraint_solver.proofs.force.force.Goals as goal

pub returns-in-AllOf : goal.returns-in-AllOf
returns-in-AllOf g c =
    let u = c.args.u.now in
    let says = tests (λ p. (g.dyn-1.0.entry p.0).1.property p.1) c.args.natives.now in
    subst (λ k. Forces c.args.n u c.args.slots.now.ids c.assign_all.new.slots.ids
    c.assign_all.result (λ a. Keeps u says a k (at u c.args.id.0)))
    (ap AllOf c.as_slice.ensures ∙ sym c.in-AllOf.is) c.assign_all.ensures
