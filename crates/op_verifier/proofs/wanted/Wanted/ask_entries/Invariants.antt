use Rattle.std.proofs.Common.{◌≡◌, ◌+◌, drop, sum, length}
use Rattle.dialect_defs.specs.Operations.{EntriesHave}
use Rattle.dialect_defs.specs.Segments.{parts}
use Rattle.op_verifier.specs.Asked.{Rest}
use Rattle.op_verifier.specs.Seen.{values_at}
use Rattle.op_verifier.specs.Types.{ids_of}
use Rattle.op_verifier.proofs.wanted.Wanted.ask_entries.Given as goal

abbrev pub invariant-loop-i : goal.invariant-loop-i
invariant-loop-i l = record {
  same : l.self.u.now ≡ l.fn.self.u.now;
  total : l.start + sum (drop l.i l.sizes) ≡ length (ids_of l.types);
  rest : Rest l.fn.self.u.now l.fn.self.slots.items l.self.slots.items
      (λ a. EntriesHave a l.entries (parts l.sizes (values_at l.fn.self.u.now (ids_of l.types))))
      (λ a. EntriesHave a (drop l.i l.entries)
      (parts (drop l.i l.sizes) (drop l.start (values_at l.fn.self.u.now (ids_of l.types)))));
}
