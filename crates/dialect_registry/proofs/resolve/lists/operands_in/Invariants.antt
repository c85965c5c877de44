use Rattle.std.proofs.Common.{◌≡◌, drop}
use Rattle.dialect_registry.specs.Resolved.{operands_in}
use Rattle.dialect_registry.proofs.resolve.lists.operands_in.Given as goal

abbrev pub invariant-loop-statement : goal.invariant-loop-statement
invariant-loop-statement l =
    operands_in l.statements ≡ operands_in (drop l.statement-index l.statements)
