use Rattle.std.proofs.Common.{List, map, take}
use Rattle.attr_value.specs.Values.{Value}
use Rattle.dialect_defs.specs.declared.definition.TypeDef.{TypeDef}
use Rattle.dialect_defs.specs.Assignments.{Tests}
use Rattle.first_fault.specs.Firsts.{IsFirst}
use Rattle.value_meaning.specs.Faults.{IsFaultAmong}
use Rattle.value_meaning.specs.Meaning.{claim_at, holds}
use Rattle.value_meaning.proofs.dense.first_wrong.Given as goal

-- the first of the items so far
abbrev pub invariant-loop-item : goal.invariant-loop-item
invariant-loop-item l = (values : List Value) (tests : Tests) (types : List TypeDef)
    → IsFirst (IsFaultAmong values tests types
    (map (λ item. claim_at item.place (holds l.width item)) (take l.item-index l.items)))
    l.first
