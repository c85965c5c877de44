use Rattle.std.proofs.Common.{sym, ◌∙◌}
use Rattle.value_meaning.proofs.Items.{first-of-written}
use Rattle.value_meaning.proofs.dense.items_of.Goals as goal

pub returns-in-Some-clause-first : goal.returns-in-Some-clause-first
returns-in-Some-clause-first c values tests types =
    first-of-written values tests types c.args.width c.args.items.now c.in-Some.numbers
    (sym c.in-Some.is ∙ c.in_ok-numbers.ensures)
