use Rattle.std.proofs.Common.{◌≡◌, List, length, ◌<◌}
use Rattle.std.specs.List.{AllByRecursion}
use Rattle.attr_value.specs.Ids.{at}
use Rattle.attr_value.specs.Values.{Value}
use Rattle.dialect_defs.specs.declared.definition.TypeDef.{TypeDef}
use Rattle.dialect_defs.specs.Assignments.{Tests, Has}
use Rattle.dialect_defs.specs.Goodness.{Good}
use Rattle.type_infer.specs.Asked.{AreKnownSlots}
use Rattle.type_infer.specs.Found.{AreGoodSlots, FoundEach}
use Rattle.type_infer.proofs.wanted.Wanted.find_all.Given as goal

abbrev pub invariant-loop-var : goal.invariant-loop-var
invariant-loop-var l = record {
  size : length l.self.slots.items ≡ length l.fn.self.slots.items;
  found : (values : List Value) (says : Tests) (types : List TypeDef)
      → AreKnownSlots (length values) l.fn.self.slots.items
      → AreGoodSlots values says types l.fn.self.slots.items
      → l.id.0 < length values → Good values says types (at values l.id.0)
      → FoundEach says types values
      (λ final a. AllByRecursion (λ w. Has a w (at final l.id.0)) l.vars)
      l.fn.self.slots.items l.self.slots.items l.changed l.vars l.var-index;
}
