use Rattle.std.proofs.Common.{◌≡◌, drop}
use Rattle.dialect_registry.specs.Resolved.{is_unit_named}
use Rattle.dialect_registry.specs.Resolving.{constraints_of, named_seen}
use Rattle.dialect_registry.proofs.resolve.names.BodyNames.is_unit.Given as goal

abbrev pub invariant-loop-constraint : goal.invariant-loop-constraint
invariant-loop-constraint l = is_unit_named (constraints_of l.self) l.name
    ≡ is_unit_named (named_seen (drop l.constraint-index l.self.constraints.items)) l.name
