use Rattle.std.proofs.Common.{◌≡◌, ◌≤◌, ◌++◌, length, drop, slice_get}
use Rattle.format_checker.specs.Meeting.{first_meeting}
use Rattle.format_checker.proofs.meeting.place_of_meeting.Given as goal

abbrev pub invariant-loop-at : goal.invariant-loop-at
invariant-loop-at l =
    (slice_get l.own l.best ≡ first_meeting (drop l.at l.own) (l.near ++ l.far))
    × (l.at ≤ length l.own)

abbrev pub decreases-loop-at : goal.decreases-loop-at
decreases-loop-at l = l.at
