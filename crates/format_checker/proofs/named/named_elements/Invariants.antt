use Rattle.std.proofs.Common.{◌≤◌, ◌-◌, length}
use Rattle.format_checker.specs.Named.{named_element}
use Rattle.format_checker.proofs.Naming.{Resolved}
use Rattle.format_checker.proofs.named.named_elements.Given as goal

abbrev pub invariant-loop-at : goal.invariant-loop-at
invariant-loop-at l = Resolved (named_element l.op) l.raw l.found l.at × (l.at ≤ length l.raw)

abbrev pub decreases-loop-at : goal.decreases-loop-at
decreases-loop-at l = length l.raw - l.at
