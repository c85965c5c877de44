use Rattle.std.proofs.Common.{sym, refl, true≢false}
use Rattle.attr_value.specs.Ids.{at}
use Rattle.native_predicate.specs.Lists.{tests}
use Rattle.constraint_solver.specs.Roots.{assigned}
use Rattle.constraint_solver.proofs.Given.{Forces-false, Forces-as}
use Rattle.constraint_solver.proofs.Parts.{kind-refuted, count-refuted, kept-of-parts, parts-of-kept}
use Rattle.constraint_solver.proofs.force.force_parts.Goals as goal

pub returns-then-not-is_named : goal.returns-then-not-is_named
returns-then-not-is_named g c =
    let says = tests (λ p. (g.dyn-1.0.entry p.0).1.property p.1) c.args.natives.now in
    Forces-false (kind-refuted c.args.u.now says c.args.is_type c.args.name.now c.args.parts.now
    c.view.result.0.now c.view.result.1.now (at c.args.u.now c.args.id.0) c.view.ensures.value
    (assigned c.args.u.now c.args.slots.now.ids)
    (λ same. true≢false (sym (c.if-not-is_named.ensures.1 same))))

pub returns-then-parts-kids : goal.returns-then-parts-kids
returns-then-parts-kids g c =
    let says = tests (λ p. (g.dyn-1.0.entry p.0).1.property p.1) c.args.natives.now in
    Forces-false (count-refuted c.args.u.now says c.args.is_type c.args.name.now c.args.parts.now
    c.view.result.0.now c.view.result.1.now (at c.args.u.now c.args.id.0) c.view.ensures.value
    (assigned c.args.u.now c.args.slots.now.ids) c.if-parts-kids.true)

pub returns : goal.returns
returns g c =
    let says = tests (λ p. (g.dyn-1.0.entry p.0).1.property p.1) c.args.natives.now in
    Forces-as
    (kept-of-parts c.args.u.now says c.args.is_type c.args.name.now c.args.parts.now
    c.view.result.0.now c.view.result.1.now (at c.args.u.now c.args.id.0) c.view.ensures.value
    (c.if-not-is_named.ensures.0 refl))
    (parts-of-kept c.args.u.now says c.args.is_type c.args.name.now c.args.parts.now
    c.view.result.0.now c.view.result.1.now (at c.args.u.now c.args.id.0) c.view.ensures.value)
    c.assign_each.ensures
