use Rattle.std.proofs.Common.{◌≡◌, drop}
use Rattle.dialect_registry.specs.Resolved.{successors_in}
use Rattle.dialect_registry.proofs.resolve.lists.successors_in.Given as goal

abbrev pub invariant-loop-statement : goal.invariant-loop-statement
invariant-loop-statement l =
    successors_in l.statements ≡ successors_in (drop l.statement-index l.statements)
