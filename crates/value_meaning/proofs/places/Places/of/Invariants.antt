use Rattle.value_meaning.specs.Places.{ArePlaced, place_of}
use Rattle.value_meaning.proofs.places.Places.of.Given as goal

-- the definitions before have their places
abbrev pub invariant-loop-i : goal.invariant-loop-i
invariant-loop-i l = ArePlaced l.types l.i (place_of l.places)
