use Rattle.std.proofs.Common.{◌≡◌, drop}
use Rattle.dialect_registry.specs.Targets.{parameters_in}
use Rattle.dialect_registry.proofs.resolve.lists.parameters_in.Given as goal

abbrev pub invariant-loop-statement : goal.invariant-loop-statement
invariant-loop-statement l =
    parameters_in l.statements ≡ parameters_in (drop l.statement-index l.statements)
