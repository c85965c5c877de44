use Rattle.std.proofs.Common.{◌≡◌, drop}
use Rattle.dialect_registry.specs.Resolved.{results_in}
use Rattle.dialect_registry.proofs.resolve.lists.results_in.Given as goal

abbrev pub invariant-loop-statement : goal.invariant-loop-statement
invariant-loop-statement l =
    results_in l.statements ≡ results_in (drop l.statement-index l.statements)
