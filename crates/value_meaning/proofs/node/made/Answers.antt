use Rattle.std.proofs.Common.{◌<◌, ◌≤◌, ◌∙◌, ap, subst}
use Rattle.std.proofs.lemmas.Option.{get_or_from_slice_get}
use Rattle.attr_value.specs.declared.head.Head.TheVariants as h
use Rattle.attr_value.specs.declared.head.TheConstants.{DEPTH_LIMIT}
use Rattle.attr_value.specs.Ids.{kids_at}
use Rattle.attr_value.specs.Values.{value, none}
use Rattle.value_meaning.proofs.Nodes.{judges-not-made, judges-made, judges-too-deep}
use Rattle.value_meaning.proofs.node.made.Goals as goal

pub returns-then-not-kids-clause-judged : goal.returns-then-not-kids-clause-judged
returns-then-not-kids-clause-judged c = λ g n spelled ms least other x keeps.
    judges-not-made g n c.args.u.now c.args.head other spelled ms c.args.kids x c.if-not-kids.true

pub returns-then-depth-gt-DEPTH_LIMIT-clause-judged : goal.returns-then-depth-gt-DEPTH_LIMIT-clause-judged
returns-then-depth-gt-DEPTH_LIMIT-clause-judged c = λ g n spelled ms least other x keeps.
    let all = c.if-not-kids.false in
    let stands = get_or_from_slice_get c.intern.new.self c.in_ok-id.id.0
    (value c.args.head (kids_at c.args.u.now c.deref.result.now)) (value h.Unit none)
    c.in_ok-id.ensures.ok.stands in
    judges-too-deep g n c.intern.new.self c.args.head other spelled ms least c.args.kids
    c.args.u.now x all (keeps all).rule (keeps all).defined c.in_ok-id.id
    c.in_ok-id.ensures.known
    (stands ∙ ap (λ l. value c.args.head (kids_at c.args.u.now l)) c.deref.ensures.value)
    (subst (λ d. DEPTH_LIMIT < d) c.depth.ensures c.if-depth-gt-DEPTH_LIMIT.true)

pub returns-clause-judged : goal.returns-clause-judged
returns-clause-judged c = λ g n spelled ms least other x keeps.
    let all = c.if-not-kids.false in
    let stands = get_or_from_slice_get c.intern.new.self c.in_ok-id.id.0
    (value c.args.head (kids_at c.args.u.now c.deref.result.now)) (value h.Unit none)
    c.in_ok-id.ensures.ok.stands in
    judges-made g n c.intern.new.self c.args.head other spelled ms least c.args.kids
    c.args.u.now x all (keeps all).rule (keeps all).defined c.in_ok-id.id
    c.in_ok-id.ensures.known
    (stands ∙ ap (λ l. value c.args.head (kids_at c.args.u.now l)) c.deref.ensures.value)
    (subst (λ d. d ≤ DEPTH_LIMIT) c.depth.ensures c.if-depth-gt-DEPTH_LIMIT.false)
