use Rattle.std.proofs.Common.{sym, ◌∙◌, ap, rules}
use Rattle.format_reader.specs.declared.front.Found.{Found}
use Rattle.format_reader.proofs.Fronts.{not-empty, front-end, at-dollar, at-quote, at-word, at-sign}
use Rattle.format_reader.proofs.front.front.Goals as goal

pub returns-then-is_empty-clause-value : goal.returns-then-is_empty-clause-value
returns-then-is_empty-clause-value c = front-end c.args.text.now (search rules)

pub returns-then-first-eq36-clause-value : goal.returns-then-first-eq36-clause-value
returns-then-first-eq36-clause-value c =
    let some = not-empty c.args.text.now (sym c.is_empty.ensures ∙ c.if-is_empty.false) in
    c.variable_front.ensures.value ∙ at-dollar c.args.text.now some c.if-first-eq36.true

pub returns-then-first-eq96-clause-value : goal.returns-then-first-eq96-clause-value
returns-then-first-eq96-clause-value c =
    let some = not-empty c.args.text.now (sym c.is_empty.ensures ∙ c.if-is_empty.false) in
    c.literal_front.ensures.value ∙ at-quote c.args.text.now some c.if-first-eq96.true

pub returns-then-begins_id-clause-value : goal.returns-then-begins_id-clause-value
returns-then-begins_id-clause-value c =
    let some = not-empty c.args.text.now (sym c.is_empty.ensures ∙ c.if-is_empty.false) in
    c.word_front.ensures.value
    ∙ at-word c.args.text.now some c.if-first-eq36.false c.if-first-eq96.false
    (sym c.begins_id.ensures ∙ c.if-begins_id.true)

pub returns-clause-value : goal.returns-clause-value
returns-clause-value c =
    let some = not-empty c.args.text.now (sym c.is_empty.ensures ∙ c.if-is_empty.false) in
    ap (λ (r : Found). (r.class, r.len)) c.sign_front.ensures
    ∙ at-sign c.args.text.now some c.if-first-eq36.false c.if-first-eq96.false
    (sym c.begins_id.ensures ∙ c.if-begins_id.false)
