use Rattle.std.proofs.Common.{◌≡◌, map, take}
use Rattle.dialect_registry.specs.Resolved.{attr_of}
use Rattle.dialect_registry.specs.Resolving.{constraints_of}
use Rattle.dialect_registry.proofs.resolve.entries.attrs.Given as goal

abbrev pub invariant-loop-one : goal.invariant-loop-one
invariant-loop-one l = l.list ≡ map (attr_of (constraints_of l.names)) (take l.one-index l.raw)
