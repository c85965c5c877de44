use Rattle.std.specs.declared.option.Option.TheVariants.{Some}
use Rattle.value_meaning.specs.Meaning.{leaf}
use Rattle.value_meaning.proofs.Numbers.{judges-beside}
use Rattle.value_meaning.proofs.leaf.leaf_beside.Goals as goal

pub returns-clause-judged : goal.returns-clause-judged
returns-clause-judged c = λ g n ms good first.
    rw c.and.ensures.value (rw c.and.ensures.first
    (judges-beside g n c.leaf_of.new.u (Some (leaf c.args.head)) ms c.args.first c.in_ok-leaf.leaf
    first (c.in_ok-leaf.ensures.judged g n good)))
