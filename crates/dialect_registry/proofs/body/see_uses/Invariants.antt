use Rattle.std.proofs.Common.{take}
use Rattle.dialect_registry.specs.NameFaults.{uses_of}
use Rattle.dialect_registry.specs.Scopes.{Sees}
use Rattle.dialect_registry.proofs.body.see_uses.Given as goal

abbrev pub invariant-loop-name : goal.invariant-loop-name
invariant-loop-name l = Sees (uses_of (take l.name-index l.names)) l.fn.scope l.scope
