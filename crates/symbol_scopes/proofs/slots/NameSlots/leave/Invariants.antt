use Rattle.symbol_scopes.specs.ScopeMarks.{behind_own}
use Rattle.symbol_scopes.specs.Listed.{bindings_in}
use Rattle.symbol_scopes.proofs.Finds.{bound}
use Rattle.symbol_scopes.proofs.Ending.{Ends}
use Rattle.symbol_scopes.proofs.slots.NameSlots.leave.Given as goal

abbrev pub invariant-loop-at : goal.invariant-loop-at
invariant-loop-at l =
    Ends l.names (bindings_in l.names l.listed) l.region (behind_own l.round.round) l.at l.self

abbrev pub decreases-loop-at : goal.decreases-loop-at
decreases-loop-at l = bound l.at
