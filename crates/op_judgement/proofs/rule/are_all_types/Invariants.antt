use Rattle.std.proofs.Common.{◌↔◌, drop, map}
use Rattle.std.specs.List.{AllByRecursion}
use Rattle.attr_value.specs.Heads.{IsType}
use Rattle.op_verifier.specs.Seen.{values_at}
use Rattle.op_judgement.proofs.rule.are_all_types.Given as goal

abbrev pub invariant-loop-ids : goal.invariant-loop-ids
invariant-loop-ids l =
    AllByRecursion (AllByRecursion IsType) (map (values_at l.u) l.lists)
    ↔ AllByRecursion (AllByRecursion IsType) (drop l.ids-index (map (values_at l.u) l.lists))
