use Rattle.elaborate.proofs.UseWalk.{Passed}
use Rattle.elaborate.proofs.uses.first_wrong_use.Given as goal

-- the operations before were passed
abbrev pub invariant-loop-standing : goal.invariant-loop-standing
invariant-loop-standing l =
    Passed l.store l.standings l.shown l.standing-index l.ops l.uses l.first
