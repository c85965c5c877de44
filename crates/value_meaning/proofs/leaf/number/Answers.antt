use Rattle.std.proofs.Common.{◌∙◌, ap, subst, option_map}
use Rattle.value_meaning.specs.Judging.{IsTypeJudged}
use Rattle.value_meaning.specs.Meaning.{type_marks}
use Rattle.value_meaning.specs.Spelled.{signed_number}
use Rattle.value_meaning.proofs.Numbers.{head_at, type-known}
use Rattle.value_meaning.proofs.leaf.number.Goals as goal

pub returns-in-Some-clause-judged : goal.returns-in-Some-clause-judged
returns-in-Some-clause-judged c = λ g n type x.
    let t = type-known g n type c.args.u.now c.in-Some.ty
    (subst (IsTypeJudged g n type c.args.u.now) c.in-Some.is x) in
    c.number_of.ensures.judged g n c.args.negative c.args.digits.now
    (option_map (λ t. t.value) type) (type_marks n type)
    (c.head_of.ensures ∙ ap (head_at (signed_number c.args.negative c.args.digits.now))
    (c.kind_at-kind.ensures ∙ t.kind_is))
    t.first_is
