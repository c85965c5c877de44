use Rattle.std.proofs.Common.{◌≡◌, drop}
use Rattle.dialect_registry.specs.Resolved.{attrs_in}
use Rattle.dialect_registry.proofs.resolve.lists.attrs_in.Given as goal

abbrev pub invariant-loop-statement : goal.invariant-loop-statement
invariant-loop-statement l =
    attrs_in l.statements ≡ attrs_in (drop l.statement-index l.statements)
