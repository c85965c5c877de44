use Rattle.std.proofs.Common.{◌≡◌, drop}
use Rattle.dialect_defs.specs.Assignments.{HaveEach}
use Rattle.op_verifier.specs.Asked.{Rest}
use Rattle.op_verifier.specs.Seen.{values_at}
use Rattle.op_verifier.proofs.wanted.Wanted.ask_types.Given as goal

abbrev pub invariant-loop-i : goal.invariant-loop-i
invariant-loop-i l = record {
  same : l.self.u.now ≡ l.fn.self.u.now;
  rest : Rest l.fn.self.u.now l.fn.self.slots.items l.self.slots.items
      (λ a. HaveEach a l.vars (values_at l.fn.self.u.now l.types))
      (λ a. HaveEach a (drop l.i l.vars) (drop l.i (values_at l.fn.self.u.now l.types)));
}
