use Rattle.std.proofs.Common.{take}
use Rattle.dialect_registry.specs.DefFaults.{dialects_of}
use Rattle.dialect_registry.specs.Scopes.{Finds}
use Rattle.dialect_registry.proofs.targets.Targets.of.Given as goal

abbrev pub invariant-loop-defs : goal.invariant-loop-defs
invariant-loop-defs l = Finds (dialects_of (take l.defs-index l.files)) l.targets
