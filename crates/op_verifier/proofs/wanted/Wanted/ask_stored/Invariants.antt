use Rattle.std.proofs.Common.{◌≡◌, length}
use Rattle.ir_store.specs.Named.{op_at}
use Rattle.std.specs.Option.{ForSome}
use Rattle.op_verifier.proofs.RegionSteps.{RegionsLeft}
use Rattle.op_verifier.proofs.wanted.Wanted.ask_stored.Given as goal

abbrev pub invariant-loop-i : goal.invariant-loop-i
invariant-loop-i l = record {
  same : l.self.u.now ≡ l.fn.self.u.now;
  size : length l.self.slots.items ≡ length l.fn.self.slots.items;
  state : ForSome (op_at l.store l.fn.op) (λ x. RegionsLeft l.fn.self.u.now
      l.store l.entries l.regions l.i
      l.fn.self.slots.items l.self.slots.items x.regions);
}
