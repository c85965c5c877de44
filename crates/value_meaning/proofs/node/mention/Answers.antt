use Rattle.std.proofs.Common.{◌<◌, ◌≤◌, ◌-◌, sym, ◌∙◌, ap, subst}
use Rattle.attr_value.specs.Ids.{at}
use Rattle.attr_value.specs.Values.{depth}
use Rattle.generic_syntax.specs.declared.parse.TheConstants.{TOO_DEEP}
use Rattle.value_meaning.proofs.Mentions.{mention-unknown, mention-deep, mention-fits}
use Rattle.value_meaning.proofs.node.mention.Goals as goal

pub returns-in_default-clause-judged : goal.returns-in_default-clause-judged
returns-in_default-clause-judged g c = λ table n ready grown least is.
    rw c.wrong.ensures.value (rw c.wrong.ensures.first
    (mention-unknown _ table c.args.u.now ready grown c.args.is_type c.args.name.now c.args.place n
    (sym c.in_default.is ∙ c.get.ensures)))

pub returns-then-depth-room-clause-judged : goal.returns-then-depth-room-clause-judged
returns-then-depth-room-clause-judged g c = λ table n ready grown least is.
    rw c.and.ensures.value (rw c.and.ensures.first
    (mention-deep _ table c.args.u.now ready grown c.args.is_type c.args.name.now c.args.place n
    c.in-Some.id (sym c.in-Some.is ∙ c.get.ensures) least
    (subst (λ r. r < depth (at c.args.u.now c.in-Some.id.0))
    (c.room.ensures ∙ ap (λ k. TOO_DEEP - k) is)
    (subst (λ d. c.room.result < d) c.depth.ensures c.if-depth-room.true))))

pub returns-clause-judged : goal.returns-clause-judged
returns-clause-judged g c = λ table n ready grown least is.
    mention-fits _ table c.args.u.now ready grown c.args.is_type c.args.name.now c.args.place n
    c.in-Some.id (sym c.in-Some.is ∙ c.get.ensures) least
    (subst (λ r. depth (at c.args.u.now c.in-Some.id.0) ≤ r)
    (c.room.ensures ∙ ap (λ k. TOO_DEEP - k) is)
    (subst (λ d. d ≤ c.room.result) c.depth.ensures c.if-depth-room.false))
