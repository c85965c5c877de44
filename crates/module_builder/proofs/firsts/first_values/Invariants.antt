use Rattle.std.proofs.Common.{map, drop}
use Rattle.module_builder.specs.Firsts.{result_count}
use Rattle.module_builder.proofs.Counting.{Passed}
use Rattle.module_faults.specs.Listed.{seen}
use Rattle.module_builder.proofs.firsts.first_values.Given as goal

abbrev pub invariant-loop-standing : goal.invariant-loop-standing
invariant-loop-standing l = Passed l.numbering (map seen l.standings)
    (map seen (drop l.standing-index l.standings)) (map result_count l.ids)
