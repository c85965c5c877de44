use Rattle.native_predicate.specs.Lists.{tests}
use Rattle.constraint_solver.proofs.Grows.{length-grows, sound-defs-grows}
use Rattle.type_infer.proofs.Following.{constant-grows}
use Rattle.type_infer.proofs.wanted.Wanted.find_rest.Goals as goal

pub find_round-requires-clause-types : goal.find_round-requires-clause-types
find_round-requires-clause-types g c =
    sound-defs-grows (length-grows c.loop.invariant.1.grew) c.requires.types

pub find_round-requires-clause-constants : goal.find_round-requires-clause-constants
find_round-requires-clause-constants g c =
    let says = tests (λ p. (g.dyn-1.0.entry p.0).1.property p.1) c.args.natives.now in
    λ v k is. constant-grows c.loop.invariant.1.grew c.requires.types says k
    (c.requires.constants v k is)
