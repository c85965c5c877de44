use Rattle.std.proofs.Common.{◌≡◌, ◌+◌, drop, sum, length, map}
use Rattle.dialect_defs.specs.Operations.{RegionsHave}
use Rattle.dialect_defs.specs.Segments.{parts}
use Rattle.op_verifier.specs.Asked.{Rest}
use Rattle.op_verifier.specs.Seen.{values_at}
use Rattle.op_verifier.specs.Views.{listed_regions}
use Rattle.op_verifier.proofs.wanted.Wanted.ask_listed.Given as goal

abbrev pub invariant-loop-i : goal.invariant-loop-i
invariant-loop-i l = record {
  same : l.self.u.now ≡ l.fn.self.u.now;
  total : l.start + sum (drop l.i l.counts) ≡ length l.args;
  rest : Rest l.fn.self.u.now l.fn.self.slots.items l.self.slots.items
      (λ a. RegionsHave a l.entries (listed_regions l.fn.self.u.now l.counts l.args))
      (λ a. RegionsHave a (drop l.i l.entries)
      (parts (drop l.i l.counts) (drop l.start (map (values_at l.fn.self.u.now) l.args))));
}
