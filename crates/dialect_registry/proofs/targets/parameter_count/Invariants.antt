use Rattle.std.proofs.Common.{◌≡◌, drop}
use Rattle.dialect_registry.specs.Targets.{parameter_count}
use Rattle.dialect_registry.proofs.targets.parameter_count.Given as goal

abbrev pub invariant-loop-statement : goal.invariant-loop-statement
invariant-loop-statement l =
    parameter_count l.statements ≡ parameter_count (drop l.statement-index l.statements)
