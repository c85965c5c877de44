use Rattle.std.proofs.Common.{◌∙◌, sym, ap}
use Rattle.value_meaning.specs.Judging.{counted}
use Rattle.value_meaning.specs.KidsSeen.{kids_nesting}
use Rattle.value_meaning.proofs.KidsOf.{nesting-other, nesting-any_number}
use Rattle.value_meaning.proofs.kid.kids_nesting.Goals as goal

pub returns-in-Number : goal.returns-in-Number
returns-in-Number c = λ n same.
    same ∙ ap counted (sym (ap (λ r. kids_nesting r n) c.in-Number.is
    ∙ nesting-any_number c.in-Number.negative c.in-Number.digits c.in-Number.ty n))

pub returns-in_default : goal.returns-in_default
returns-in_default c = λ n same.
    c.deeper.ensures n same
    ∙ ap counted (sym (nesting-other c.args.node.now c.in_default.not-Number n))
