use Rattle.std.proofs.Common.{◌≡◌, ◌++◌, drop, length}
use Rattle.segment_match.specs.Spread.{spread}
use Rattle.segment_match.proofs.spread_over.Given as goal

abbrev pub invariant-loop-entry : goal.invariant-loop-entry
invariant-loop-entry l = record {
  count : length l.sizes.items ≡ l.entry-index;
  made : l.sizes.items ++ spread (drop l.entry-index l.entries) l.rest ≡ spread l.entries l.rest;
}
