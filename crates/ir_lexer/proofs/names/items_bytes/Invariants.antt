use Rattle.std.proofs.Common.{length, ◌-◌, ◌≡◌, ◌≤◌, ◌++◌, drop}
use Rattle.ir_lexer.specs.Names as spec
use Rattle.ir_lexer.proofs.names.items_bytes.Given as goal

abbrev pub invariant-loop-at : goal.invariant-loop-at
invariant-loop-at l =
    (l.bytes.items ++ spec.items_bytes (drop l.at l.items) ≡ spec.items_bytes l.items) ×
    (l.at ≤ length l.items)

abbrev pub decreases-loop-at : goal.decreases-loop-at
decreases-loop-at l = length l.items - l.at
