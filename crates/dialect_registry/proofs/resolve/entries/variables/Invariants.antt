use Rattle.std.proofs.Common.{◌≡◌, map, take}
use Rattle.dialect_registry.specs.Resolved.{variable}
use Rattle.dialect_registry.specs.Resolving.{constraints_of}
use Rattle.dialect_registry.proofs.resolve.entries.variables.Given as goal

abbrev pub invariant-loop-var : goal.invariant-loop-var
invariant-loop-var l = l.list ≡ map (variable (constraints_of l.names)) (take l.var-index l.vars)
