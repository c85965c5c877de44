use Rattle.std.proofs.Common.{◌≡◌, ◌≤◌, ◌-◌, length, take, count_by, not}
use Rattle.dialect_defs.specs.declared.entry.Entry.{Entry}
use Rattle.dialect_defs.specs.Segments.{is_single}
use Rattle.format_checker.proofs.complete.needs_sizes.Given as goal

abbrev pub invariant-loop-at : goal.invariant-loop-at
invariant-loop-at l = record {
  count : l.count ≡ count_by (λ (e : Entry). not (is_single e.arity)) (take l.at l.entries);
  few : l.count ≤ l.at;
  within : l.at ≤ length l.entries;
}

abbrev pub decreases-loop-at : goal.decreases-loop-at
decreases-loop-at l = length l.entries - l.at
