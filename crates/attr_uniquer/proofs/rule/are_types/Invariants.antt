use Rattle.std.proofs.Common.{◌↔◌, drop, length}
use Rattle.std.specs.List.{AllByRecursion}
use Rattle.attr_value.specs.Heads.{IsType}
use Rattle.attr_value.specs.Ids.{kids_at, AreKnown}
use Rattle.attr_value.specs.Values.{list_of}
use Rattle.attr_uniquer.proofs.rule.are_types.Given as goal

-- what is left decides the rest
abbrev pub invariant-loop-id : goal.invariant-loop-id
invariant-loop-id l = record {
  known : AreKnown (length l.u) (drop l.id-index l.ids);
  types : AllByRecursion IsType (list_of (kids_at l.u l.ids))
      ↔ AllByRecursion IsType (list_of (kids_at l.u (drop l.id-index l.ids)));
}
