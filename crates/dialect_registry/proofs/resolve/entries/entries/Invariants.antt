use Rattle.std.proofs.Common.{◌≡◌, map, take}
use Rattle.dialect_registry.specs.Resolved.{entry_of}
use Rattle.dialect_registry.specs.Resolving.{constraints_of}
use Rattle.dialect_registry.proofs.resolve.entries.entries.Given as goal

abbrev pub invariant-loop-one : goal.invariant-loop-one
invariant-loop-one l = l.list ≡ map (entry_of (constraints_of l.names)) (take l.one-index l.raw)
