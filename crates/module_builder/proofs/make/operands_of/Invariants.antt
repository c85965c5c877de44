use Rattle.std.proofs.Common.{◌≡◌, ◌+◌, ◌++◌, length, drop, map}
use Rattle.module_builder.specs.Built.{value_number}
use Rattle.module_builder.proofs.make.operands_of.Given as goal

abbrev pub invariant-loop-at : goal.invariant-loop-at
invariant-loop-at l =
    (l.numbers.items ++ map (value_number l.firsts) (drop l.at l.uses.values)
    ≡ map (value_number l.firsts) (drop l.start l.uses.values))
    × (l.start + length l.numbers.items ≡ l.at)
