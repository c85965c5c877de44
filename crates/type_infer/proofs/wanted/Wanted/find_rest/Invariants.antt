use Rattle.std.proofs.Common.{Bool}
use Rattle.native_predicate.specs.Lists.{tests}
use Rattle.type_infer.specs.Found.{FoundMore, IsCandidate, empty}
use Rattle.type_infer.proofs.wanted.Wanted.find_rest.Given as goal

abbrev pub invariant-loop : goal.invariant-loop
invariant-loop g l =
    let says = tests (λ p. (goal.NativePredicate-dyn g p).property p.1) l.natives in
    (x : Bool) × FoundMore says l.types (λ final a. IsCandidate final says l.types l.op a) l.fn.u
    l.u l.fn.self.slots.items l.self.slots.items x

abbrev pub decreases-loop : goal.decreases-loop
decreases-loop g l = empty l.self.slots.items
