use Rattle.std.proofs.Common.{◌≡◌, ℕ, ◌<◌, ◌≤◌, ◌-◌, length, true, false}
use Rattle.format_checker.specs.Columns.{arity_at, is_single}
use Rattle.format_checker.specs.Tables.{flag}
use Rattle.format_checker.proofs.complete.has_flexible.Given as goal

abbrev pub invariant-loop-at : goal.invariant-loop-at
invariant-loop-at l =
    ((i : ℕ) → i < l.at → is_single (arity_at l.entries i) ≡ false → flag l.types i ≡ true)
    × (l.at ≤ length l.entries)

abbrev pub decreases-loop-at : goal.decreases-loop-at
decreases-loop-at l = length l.entries - l.at
