use Rattle.std.proofs.Common.{◌≡◌, sym, ◌∙◌, subst, true, false, List}
use Rattle.attr_value.specs.declared.head.ValueId.{ValueId}
use Rattle.attr_value.specs.Ids.{kids_at}
use Rattle.attr_value.specs.Values.{list_of}
use Rattle.constraint_solver.proofs.Instances.{instance-named, instance-of-named}
use Rattle.dialect_defs.specs.Goodness.{IsInstance}
use Rattle.native_predicate.specs.Lists.{tests}
use Rattle.value_meaning.proofs.Dialects.{first-instance, first-no-instance}
use Rattle.value_meaning.proofs.part.dialect_fault.Goals as goal

pub returns-then-is_instance_of-clause-first : goal.returns-then-is_instance_of-clause-first
returns-then-is_instance_of-clause-first g c = λ table n spelled ms p.
    let only = c.in-Some.ensures.some in
    first-instance _ table c.args.u.now n spelled ms c.args.args.now p c.args.is_type
    c.args.name.now c.args.place (record { definition = c.in-Some.d.now; defined = only.defined })
    c.if-not-args.false c.deref.result.now c.deref.ensures.value
    (instance-named only.defined (c.is_instance_of.ensures.0 c.if-is_instance_of.true))

pub returns-clause-first : goal.returns-clause-first
returns-clause-first g c = λ table n spelled ms p.
    let only = c.in-Some.ensures.some in
    first-no-instance _ table c.args.u.now n spelled ms c.args.args.now p c.args.is_type
    c.args.name.now c.args.place (record { definition = c.in-Some.d.now; defined = only.defined })
    c.if-not-args.false c.deref.result.now c.deref.ensures.value
    (λ instance.
    let is : true ≡ c.is_instance_of.result = sym (c.is_instance_of.ensures.1
    ((instance-of-named only _ _ _).0 instance)) in
    let never : true ≡ false = is ∙ c.if-is_instance_of.false in
    absurd (cc))

pub returns-clause-wrong : goal.returns-clause-wrong
returns-clause-wrong g c = λ some all instance.
    let says = tests (λ p. (g.dyn-1.0.entry p.0).1.property p.1) c.args.env.now.natives.now in
    let lent = subst (λ (ids : List ValueId). IsInstance c.args.u.now says c.args.env.now.types.now
    c.args.is_type c.args.name.now (list_of (kids_at c.args.u.now ids))) (sym c.deref.ensures.value)
    instance in
    let is : true ≡ c.is_instance_of.result = sym (c.is_instance_of.ensures.1
    ((instance-of-named c.in-Some.ensures.some _ _ _).0 lent)) in
    let never : true ≡ false = is ∙ c.if-is_instance_of.false in
    absurd (cc)
