use Rattle.std.proofs.Common.{◌≡◌, drop}
use Rattle.dialect_registry.specs.FormatFaults.{format_in}
use Rattle.dialect_registry.proofs.resolve.lists.format_in.Given as goal

abbrev pub invariant-loop-statement : goal.invariant-loop-statement
invariant-loop-statement l =
    format_in l.statements ≡ format_in (drop l.statement-index l.statements)
