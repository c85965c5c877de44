use Rattle.std.proofs.Common.{false, length, ap, arith, subst, sym}
use Rattle.dialect_defs.specs.declared.body.Constraint.{Constraint}
use Rattle.type_infer.specs.Found.{FoundUnder}
use Rattle.type_infer.proofs.Downs.{under-members-as, under-other, under-parts-as, view-good}
use Rattle.type_infer.proofs.wanted.Wanted.find_under.Goals as goal

pub returns-then-kids-parts : goal.returns-then-kids-parts
returns-then-kids-parts c = λ says types known good right.
    let u = c.args.u.now in
    subst (λ (k : Constraint). FoundUnder says types u c.args.self.now.slots.items
    c.args.self.now.slots.items false c.args.id k) (sym c.in-Parametric.is)
    (under-other says types u c.args.self.now.slots.items c.args.id c.view.result.0.now
    c.view.result.1.now c.requires.id c.view.ensures.known c.view.ensures.value
    c.in-Parametric.is_type c.in-Parametric.name c.in-Parametric.parts known good
    (λ same. absurd (omega (arith, same, ap length c.as_slice-parts.ensures, c.if-kids-parts.true))))

pub returns-else-kids-parts : goal.returns-else-kids-parts
returns-else-kids-parts c = λ says types known good right.
    let u = c.args.u.now in
    subst (λ (k : Constraint). FoundUnder says types u c.args.self.now.slots.items
    c.find_each.new.self.slots.items c.find_each.result c.args.id k) (sym c.in-Parametric.is)
    (under-parts-as says types u c.args.self.now.slots.items c.args.id c.view.result.0.now
    c.view.result.1.now c.requires.id c.view.ensures.known c.view.ensures.value
    c.in-Parametric.is_type c.in-Parametric.name c.as_slice-parts.result.now c.in-Parametric.parts
    c.find_each.new.self.slots.items c.find_each.result c.as_slice-parts.ensures
    (c.find_each.ensures u says types known good c.view.ensures.known
    (view-good u says types c.args.id.0 c.view.result.0.now c.view.result.1.now right
    c.view.ensures.value)))

pub returns-in-AllOf : goal.returns-in-AllOf
returns-in-AllOf c = λ says types known good right.
    let u = c.args.u.now in
    subst (λ (k : Constraint). FoundUnder says types u c.args.self.now.slots.items
    c.find_all.new.self.slots.items c.find_all.result c.args.id k) (sym c.in-AllOf.is)
    (under-members-as says types u c.args.self.now.slots.items c.args.id c.as_slice.result.now
    c.in-AllOf.members c.find_all.new.self.slots.items c.find_all.result c.as_slice.ensures
    (c.find_all.ensures u says types known good c.requires.id right))
