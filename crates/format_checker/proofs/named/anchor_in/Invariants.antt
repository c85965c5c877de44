use Rattle.std.proofs.Common.{◌≡◌, ◌≤◌, ◌+◌, ◌-◌, length, drop}
use Rattle.format_checker.specs.Named.{anchor_in}
use Rattle.format_checker.proofs.named.anchor_in.Given as goal

abbrev pub invariant-loop-at : goal.invariant-loop-at
invariant-loop-at l =
    (anchor_in l.raw ≡ l.at + anchor_in (drop l.at l.raw)) × (l.at ≤ length l.raw)

abbrev pub decreases-loop-at : goal.decreases-loop-at
decreases-loop-at l = length l.raw - l.at
