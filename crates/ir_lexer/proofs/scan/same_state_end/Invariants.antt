use Rattle.std.proofs.Common.{ℕ, length, ◌-◌, ◌≡◌, ◌<◌, ◌≤◌, get_or}
use Rattle.ir_lexer.specs.Scan.{step}
use Rattle.ir_lexer.proofs.scan.same_state_end.Given as goal

abbrev pub invariant-loop-at : goal.invariant-loop-at
invariant-loop-at l =
    ((k : ℕ) → l.from ≤ k → k < l.at → step l.state (get_or l.text k 0) ≡ l.state) ×
    (l.from ≤ l.at) × (l.at ≤ length l.text)

abbrev pub decreases-loop-at : goal.decreases-loop-at
decreases-loop-at l = length l.text - l.at
