use Rattle.std.proofs.Common.{sym, ◌∙◌, map}
use Rattle.value_meaning.specs.Meaning.{claim_at, holds}
use Rattle.value_meaning.proofs.Arrays.{dense-good, dense-refused, dense-written, dense-unwritten}
use Rattle.value_meaning.proofs.Results.{ok-map}
use Rattle.value_meaning.proofs.leaf.dense.Goals as goal

pub returns-then-not-is_dense_width-clause-judged :
    goal.returns-then-not-is_dense_width-clause-judged
returns-then-not-is_dense_width-clause-judged c = λ g n.
    rw c.refused.ensures.value (rw c.refused.ensures.first
    (dense-refused g c.args.width n c.args.place c.args.items.now c.args.u.now
    c.in_ok-numbers.field-0.first
    (sym c.is_dense_width.ensures ∙ c.if-not-is_dense_width.true)
    (c.in_ok-numbers.ensures.first g.table g.tests g.types)))

pub returns-in-Some-clause-judged : goal.returns-in-Some-clause-judged
returns-in-Some-clause-judged c = λ g n.
    let has = sym c.is_dense_width.ensures ∙ c.if-not-is_dense_width.false in
    let is = sym c.in-Some.is ∙ c.in_ok-numbers.ensures.numbers in
    ok-map c.leaf_beside.result
    (λ j x. dense-written g c.args.width n c.args.place c.args.items.now c.leaf_beside.new.u
    c.in-Some.items j has is x)
    (c.leaf_beside.ensures.judged g n
    (map (λ item. claim_at item.place (holds c.args.width item)) c.args.items.now)
    (dense-good g c.args.width c.args.items.now c.in-Some.items has (sym is))
    (c.in_ok-numbers.ensures.first g.table g.tests g.types))

pub returns-in-None-clause-judged : goal.returns-in-None-clause-judged
returns-in-None-clause-judged c = λ g n.
    dense-unwritten g c.args.width n c.args.place c.args.items.now c.args.u.now
    c.in_ok-numbers.field-0.first
    (sym c.is_dense_width.ensures ∙ c.if-not-is_dense_width.false)
    (sym c.in-None.is ∙ c.in_ok-numbers.ensures.numbers)
    (c.in_ok-numbers.ensures.first g.table g.tests g.types)
