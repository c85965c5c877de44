use Rattle.std.proofs.Common.{take}
use Rattle.dialect_registry.specs.Resolving.{Names}
use Rattle.dialect_registry.proofs.resolve.names.BodyNames.of.Given as goal

abbrev pub invariant-loop-statement : goal.invariant-loop-statement
invariant-loop-statement l = Names (take l.statement-index l.statements) l.names
