use Rattle.std.proofs.Common.{length, ◌-◌, ◌≡◌, ◌<◌, ◌≤◌, drop}
use Rattle.ir_lexer.specs.declared.table.TheConstants.{START, STATES}
use Rattle.ir_lexer.proofs.Machine.{run}
use Rattle.ir_lexer.proofs.scan.class_of.Given as goal

abbrev pub invariant-loop-at : goal.invariant-loop-at
invariant-loop-at l =
    (run l.state (drop l.at l.text) ≡ run START l.text) × (l.state < STATES) ×
    (l.at ≤ length l.text)

abbrev pub decreases-loop-at : goal.decreases-loop-at
decreases-loop-at l = length l.text - l.at
