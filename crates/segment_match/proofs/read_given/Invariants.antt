use Rattle.std.proofs.Common.{◌≡◌, ◌++◌, drop, length, map, pos}
use Rattle.segment_match.proofs.read_given.Given as goal

abbrev pub invariant-loop-item : goal.invariant-loop-item
invariant-loop-item l = record {
  count : length l.sizes.items ≡ l.item-index;
  read : map pos l.sizes.items ++ drop l.item-index l.given ≡ l.given;
}
