use Rattle.std.proofs.Common.{take, bytes_eq}
use Rattle.std.specs.HashMap.{get}
use Rattle.dialect_registry.specs.Registered.{ArePlaced}
use Rattle.dialect_registry.proofs.operations.places_of.Given as goal

abbrev pub invariant-loop-place : goal.invariant-loop-place
invariant-loop-place l = ArePlaced (take l.place l.list) (get bytes_eq l.places)
