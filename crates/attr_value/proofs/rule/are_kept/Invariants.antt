use Rattle.std.proofs.Common.{◌↔◌, drop}
use Rattle.std.specs.List.{AllByRecursion}
use Rattle.attr_value.specs.declared.kind.IntKind.TheVariants.{Signless}
use Rattle.attr_value.specs.Numbers.{IsKept}
use Rattle.attr_value.proofs.rule.are_kept.Given as goal

-- what is left decides the rest
abbrev pub invariant-loop-item : goal.invariant-loop-item
invariant-loop-item l = AllByRecursion (IsKept (Signless l.width)) l.items
    ↔ AllByRecursion (IsKept (Signless l.width)) (drop l.item-index l.items)
