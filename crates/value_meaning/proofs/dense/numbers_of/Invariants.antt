use Rattle.value_meaning.specs.Spelled.{dense_item}
use Rattle.value_meaning.proofs.Gathered.{Gathered}
use Rattle.value_meaning.proofs.dense.numbers_of.Given as goal

-- the numbers of the items so far
abbrev pub invariant-loop-item : goal.invariant-loop-item
invariant-loop-item l = Gathered (dense_item l.width) l.items l.item-index l.numbers
