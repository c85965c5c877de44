use Rattle.std.proofs.Common.{◌≡◌, drop}
use Rattle.std.specs.List.{AllByRecursion}
use Rattle.dialect_defs.specs.Operations.{AttrHas, attr_at}
use Rattle.op_verifier.specs.Asked.{Rest}
use Rattle.op_verifier.specs.Views.{view_attrs}
use Rattle.op_verifier.proofs.wanted.Wanted.ask_attrs.Given as goal

abbrev pub invariant-loop-entry : goal.invariant-loop-entry
invariant-loop-entry l = record {
  same : l.self.u.now ≡ l.fn.self.u.now;
  rest : Rest l.fn.self.u.now l.fn.self.slots.items l.self.slots.items
      (λ a. AllByRecursion (λ entry. AttrHas a entry
      (attr_at (view_attrs l.fn.self.u.now l.op) entry.name)) l.entries)
      (λ a. AllByRecursion (λ entry. AttrHas a entry
      (attr_at (view_attrs l.fn.self.u.now l.op) entry.name))
      (drop l.entry-index l.entries));
}
