use Rattle.std.proofs.Common.{◌↔◌, drop}
use Rattle.std.specs.List.{AllByRecursion}
use Rattle.attr_value.specs.Heads.{IsType}
use Rattle.op_verifier.specs.Seen.{values_at}
use Rattle.op_judgement.proofs.rule.are_types.Given as goal

abbrev pub invariant-loop-id : goal.invariant-loop-id
invariant-loop-id l =
    AllByRecursion IsType (values_at l.u l.ids)
    ↔ AllByRecursion IsType (drop l.id-index (values_at l.u l.ids))
