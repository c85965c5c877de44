use Rattle.std.proofs.Common.{◌≡◌, ◌≤◌, ◌++◌, drop, length}
use Rattle.op_verifier.specs.Parts.{roots_of}
use Rattle.op_verifier.proofs.wanted.Wanted.roots.Given as goal

abbrev pub invariant-loop-i : goal.invariant-loop-i
invariant-loop-i l = record {
  few : length l.roots.items ≤ l.i;
  made : l.roots.items ++ roots_of l.i (drop l.i l.self.slots.items)
      ≡ roots_of 0 l.self.slots.items;
}
