use Rattle.std.proofs.Common.{◌≡◌, ◌≤◌, length, drop}
use Rattle.format_checker.specs.Clashes.{branch_clash}
use Rattle.format_checker.proofs.Ahead.{Ahead}
use Rattle.format_checker.proofs.clash.branch_clash.Given as goal

abbrev pub invariant-loop-at : goal.invariant-loop-at
invariant-loop-at l = record {
  ahead : Ahead l.op l.anchor l.at (drop l.at l.items) l.near l.all_empty;
  first : l.found ≡ branch_clash l.op l.anchor l.at (drop l.at l.items) l.behind;
  within : l.at ≤ length l.items;
}

abbrev pub decreases-loop-at : goal.decreases-loop-at
decreases-loop-at l = l.at
