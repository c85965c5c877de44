use Rattle.std.proofs.Common.{◌≡◌, sym, ◌∙◌}
use Rattle.std.specs.declared.option.Option.TheVariants.{Some}
use Rattle.value_meaning.specs.Spelled.{number_head}
use Rattle.value_meaning.proofs.Numbers.{number-good, number-written, number-refused}
use Rattle.value_meaning.proofs.Results.{ok-map}
use Rattle.value_meaning.proofs.leaf.number_of.Goals as goal

pub returns-in-Some-clause-judged : goal.returns-in-Some-clause-judged
returns-in-Some-clause-judged c = λ g n negative digits type ms is first.
    let written : Some c.in-Some.head ≡ number_head negative digits type =
    sym c.in-Some.is ∙ is in
    ok-map c.leaf_beside.result
    (number-written g n c.args.place c.leaf_beside.new.u negative digits type ms c.in-Some.head
    written)
    (c.leaf_beside.ensures.judged g n ms
    (number-good g negative digits type c.in-Some.head (sym written)) first)

pub returns-in-None-clause-judged : goal.returns-in-None-clause-judged
returns-in-None-clause-judged c = λ g n negative digits type ms is first.
    rw c.refused.ensures.value (rw c.refused.ensures.first
    (number-refused g n c.args.place c.args.u.now negative digits type ms c.args.first
    (sym c.in-None.is ∙ is) first))
