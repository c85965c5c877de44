use Rattle.std.proofs.Common.{◌≤◌, ◌-◌, length, take}
use Rattle.std.specs.List.{flat_map}
use Rattle.format_checker.specs.Shown.{item_showings}
use Rattle.format_checker.specs.Tables.{Notes}
use Rattle.format_checker.proofs.shown.Shown.note_items.Given as goal

abbrev pub invariant-loop-at : goal.invariant-loop-at
invariant-loop-at l =
    Notes (flat_map (item_showings l.op) (take l.at l.items)) l.fn.self l.self
    × (l.at ≤ length l.items)

abbrev pub decreases-loop-at : goal.decreases-loop-at
decreases-loop-at l = length l.items - l.at
