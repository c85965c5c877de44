use Rattle.std.proofs.Common.{◌≡◌, ◌-◌, take, drop}
use Rattle.std.specs.List.{AllByRecursion}
use Rattle.dialect_defs.specs.Assignments.{Has}
use Rattle.op_verifier.specs.Asked.{Rest}
use Rattle.op_verifier.specs.Seen.{values_at}
use Rattle.op_verifier.specs.Types.{ids_of}
use Rattle.op_verifier.proofs.wanted.Wanted.ask_all.Given as goal

abbrev pub invariant-loop-i : goal.invariant-loop-i
invariant-loop-i l = record {
  same : l.self.u.now ≡ l.fn.self.u.now;
  rest : Rest l.fn.self.u.now l.fn.self.slots.items l.self.slots.items
      (λ a. AllByRecursion (Has a l.var)
      (take (l.end - l.fn.start) (drop l.fn.start (values_at l.fn.self.u.now (ids_of l.types)))))
      (λ a. AllByRecursion (Has a l.var)
      (take (l.end - l.i) (drop l.i (values_at l.fn.self.u.now (ids_of l.types)))));
}
