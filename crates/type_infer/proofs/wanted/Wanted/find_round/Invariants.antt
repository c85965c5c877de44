use Rattle.native_predicate.specs.Lists.{tests}
use Rattle.type_infer.specs.Found.{FoundRound}
use Rattle.type_infer.proofs.wanted.Wanted.find_round.Given as goal

abbrev pub invariant-loop-v : goal.invariant-loop-v
invariant-loop-v g l =
    FoundRound (tests (λ p. (goal.NativePredicate-dyn g p).property p.1) l.natives) l.types l.op
    l.fn.u l.u l.fn.self.slots.items l.self.slots.items l.changed l.v
