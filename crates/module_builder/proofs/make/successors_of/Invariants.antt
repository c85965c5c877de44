use Rattle.std.proofs.Common.{◌≡◌, ◌+◌, ◌++◌, length, drop}
use Rattle.module_builder.proofs.make.successors_of.Given as goal

abbrev pub invariant-loop-at : goal.invariant-loop-at
invariant-loop-at l =
    (l.numbers.items ++ drop l.at l.uses.blocks ≡ drop l.start l.uses.blocks)
    × (l.start + length l.numbers.items ≡ l.at)
