use Rattle.std.proofs.Common.{length, ◌-◌, ◌≡◌, ◌<◌, ◌≤◌, drop}
use Rattle.ir_lexer.specs.declared.table.TheConstants.{START, STATES}
use Rattle.ir_lexer.specs.Scan.{scan}
use Rattle.ir_lexer.proofs.scan.longest.Given as goal

abbrev pub invariant-loop-at : goal.invariant-loop-at
invariant-loop-at l =
    (scan l.state l.whole l.end l.at (drop l.at l.text) ≡ scan START 0 1 0 l.text) ×
    (l.state < STATES) × (l.whole < STATES) × (l.at ≤ length l.text) × (l.end ≤ length l.text)

abbrev pub decreases-loop-at : goal.decreases-loop-at
decreases-loop-at l = length l.text - l.at
