use Rattle.std.proofs.Common.{◌≡◌, take}
use Rattle.std.specs.List.{flat_map}
use Rattle.module_faults.specs.declared.ids.OpIds.{OpIds}
use Rattle.elaborate.proofs.uses.shown_types.Given as goal

-- the types of the operations before
abbrev pub invariant-loop-op : goal.invariant-loop-op
invariant-loop-op l =
    l.shown.items ≡ flat_map (λ (x : OpIds). x.operands.items) (take l.op-index l.ids)
