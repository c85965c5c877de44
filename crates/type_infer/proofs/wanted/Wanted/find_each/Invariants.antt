use Rattle.std.proofs.Common.{◌≡◌, List, length}
use Rattle.attr_value.specs.Ids.{AreKnown}
use Rattle.attr_value.specs.Values.{Value}
use Rattle.dialect_defs.specs.declared.definition.TypeDef.{TypeDef}
use Rattle.dialect_defs.specs.Assignments.{Tests, HaveEach}
use Rattle.type_infer.specs.Asked.{AreKnownSlots}
use Rattle.type_infer.specs.Completes.{values_at}
use Rattle.type_infer.specs.Found.{AreGoodIds, AreGoodSlots, FoundEach}
use Rattle.type_infer.proofs.wanted.Wanted.find_each.Given as goal

abbrev pub invariant-loop-i : goal.invariant-loop-i
invariant-loop-i l = record {
  size : length l.self.slots.items ≡ length l.fn.self.slots.items;
  found : (values : List Value) (says : Tests) (types : List TypeDef)
      → AreKnownSlots (length values) l.fn.self.slots.items
      → AreGoodSlots values says types l.fn.self.slots.items
      → AreKnown (length values) l.ids → AreGoodIds values says types l.ids
      → FoundEach says types values (λ final a. HaveEach a l.vars (values_at final l.ids))
      l.fn.self.slots.items l.self.slots.items l.changed l.vars l.i;
}
