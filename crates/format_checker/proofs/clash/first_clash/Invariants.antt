use Rattle.std.proofs.Common.{◌≡◌, ◌≤◌, length, drop}
use Rattle.format_checker.specs.Clashes.{first_clash}
use Rattle.format_checker.specs.Decided.{after, follow}
use Rattle.format_checker.proofs.Ahead.{Same}
use Rattle.format_checker.proofs.clash.first_clash.Given as goal

abbrev pub invariant-loop-at : goal.invariant-loop-at
invariant-loop-at l = record {
  same : Same l.next (after l.op (drop l.at l.elements) (follow l.op.terminator));
  first : l.found ≡ first_clash l.op (drop l.at l.elements) (follow l.op.terminator);
  within : l.at ≤ length l.elements;
}

abbrev pub decreases-loop-at : goal.decreases-loop-at
decreases-loop-at l = l.at
