use Rattle.std.proofs.Common.{◌≡◌, refl, sym, ◌∙◌, subst, true, false}
use Rattle.std.specs.List.{AllByRecursion}
use Rattle.attr_value.specs.declared.head.Head.TheVariants as h
use Rattle.attr_value.specs.Heads.{IsType, OwnRule}
use Rattle.attr_value.specs.Ids.{kids_at}
use Rattle.attr_value.specs.Values.{list_of}
use Rattle.value_meaning.proofs.Leaves.{types-right, types-wrong, types-unasked, own-tuple}
use Rattle.value_meaning.proofs.node.types_fault.Goals as goal

pub returns-then-not-kids-clause-first : goal.returns-then-not-kids-clause-first
returns-then-not-kids-clause-first c = λ g n spelled ms x.
    types-unasked g n c.args.place spelled ms c.args.u.now c.args.kids.now x c.if-not-kids.true

pub returns-then-keeps_own_rule-clause-first : goal.returns-then-keeps_own_rule-clause-first
returns-then-keeps_own_rule-clause-first c = λ g n spelled ms x.
    types-right g n c.args.place spelled ms c.args.u.now c.args.kids.now x c.if-not-kids.false
    (subst (λ l. AllByRecursion IsType (list_of (kids_at c.args.u.now l))) c.deref.ensures.value
    ((c.keeps_own_rule.ensures.0 c.if-keeps_own_rule.true).types refl))

pub returns-clause-first : goal.returns-clause-first
returns-clause-first c = λ g n spelled ms x.
    types-wrong g n c.args.place spelled ms c.args.u.now c.args.kids.now x c.if-not-kids.false
    (λ types.
    let own = c.keeps_own_rule.ensures.1 (subst
    (λ l. OwnRule h.Tuple (list_of (kids_at c.args.u.now l))) (sym c.deref.ensures.value)
    (own-tuple (list_of (kids_at c.args.u.now c.args.kids.now.ids.items)) types)) in
    let never : true ≡ false = sym own ∙ c.if-keeps_own_rule.false in
    absurd (cc))
