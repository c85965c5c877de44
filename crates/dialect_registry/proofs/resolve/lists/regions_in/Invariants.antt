use Rattle.std.proofs.Common.{◌≡◌, drop}
use Rattle.dialect_registry.specs.Resolved.{regions_in}
use Rattle.dialect_registry.proofs.resolve.lists.regions_in.Given as goal

abbrev pub invariant-loop-statement : goal.invariant-loop-statement
invariant-loop-statement l =
    regions_in l.statements ≡ regions_in (drop l.statement-index l.statements)
