use Rattle.std.proofs.Common.{length, ◌-◌, ◌≡◌, ◌+◌, ◌≤◌, drop, true}
use Rattle.ir_lexer.specs.Tokens.{layout_len}
use Rattle.ir_lexer.proofs.scan.comment_end.Given as goal

abbrev pub invariant-loop-at : goal.invariant-loop-at
invariant-loop-at l =
    (l.at + layout_len true (drop l.at l.src) ≡ l.from + layout_len true (drop l.from l.src)) ×
    (l.from ≤ l.at) × (l.at ≤ length l.src)

abbrev pub decreases-loop-at : goal.decreases-loop-at
decreases-loop-at l = length l.src - l.at
