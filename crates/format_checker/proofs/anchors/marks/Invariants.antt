use Rattle.std.proofs.Common.{◌≡◌, ◌≤◌, ◌-◌, length, take, count_by}
use Rattle.format_checker.specs.Named.{is_marked}
use Rattle.format_checker.proofs.anchors.marks.Given as goal

abbrev pub invariant-loop-at : goal.invariant-loop-at
invariant-loop-at l = record {
  count : l.count ≡ count_by is_marked (take l.at l.raw);
  few : l.count ≤ l.at;
  within : l.at ≤ length l.raw;
}

abbrev pub decreases-loop-at : goal.decreases-loop-at
decreases-loop-at l = length l.raw - l.at
