use Rattle.std.proofs.Common.{◌≡◌, ◌+◌, ◌-◌, drop, length}
use Rattle.dialect_defs.specs.Assignments.{HaveEach}
use Rattle.op_verifier.specs.Asked.{Rest}
use Rattle.op_verifier.specs.Parts.{types_from}
use Rattle.op_verifier.specs.Seen.{values_at}
use Rattle.op_verifier.proofs.wanted.Wanted.ask_each.Given as goal

abbrev pub invariant-loop-i : goal.invariant-loop-i
invariant-loop-i l = record {
  same : l.self.u.now ≡ l.fn.self.u.now;
  rest : Rest l.fn.self.u.now l.fn.self.slots.items l.self.slots.items
      (λ a. HaveEach a l.vars
      (values_at l.fn.self.u.now (types_from l.store l.first (length l.vars))))
      (λ a. HaveEach a (drop l.i l.vars)
      (values_at l.fn.self.u.now (types_from l.store (l.first + l.i) (length l.vars - l.i))));
}
