use Rattle.std.proofs.Common.{◌≤◌, ◌-◌, length, take}
use Rattle.std.specs.List.{flat_map}
use Rattle.format_checker.specs.Shown.{element_showings}
use Rattle.format_checker.specs.Tables.{Saw}
use Rattle.format_checker.proofs.shown.Shown.of.Given as goal

abbrev pub invariant-loop-at : goal.invariant-loop-at
invariant-loop-at l =
    Saw (flat_map (element_showings l.op) (take l.at l.elements)) l.shown
    × (l.at ≤ length l.elements)

abbrev pub decreases-loop-at : goal.decreases-loop-at
decreases-loop-at l = length l.elements - l.at
