use Rattle.std.proofs.Common.{◌≡◌, None, length}
use Rattle.std.specs.List.{AllByRecursion}
use Rattle.op_verifier.proofs.wanted.Wanted.new.Given as goal

abbrev pub invariant-loop : goal.invariant-loop
invariant-loop l = record {
  size : length l.slots.items ≡ l.counter;
  none : AllByRecursion (λ slot. slot ≡ None) l.slots.items;
}
