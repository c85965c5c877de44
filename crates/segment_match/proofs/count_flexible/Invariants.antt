use Rattle.std.proofs.Common.{◌≡◌, ◌+◌, ◌≤◌, drop}
use Rattle.segment_match.specs.Spread.{flexible}
use Rattle.segment_match.proofs.count_flexible.Given as goal

abbrev pub invariant-loop-entry : goal.invariant-loop-entry
invariant-loop-entry l = record {
  few : l.n ≤ l.entry-index;
  rest : l.n + flexible (drop l.entry-index l.entries) ≡ flexible l.entries;
}
