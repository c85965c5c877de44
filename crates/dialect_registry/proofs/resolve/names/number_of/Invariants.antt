use Rattle.std.proofs.Common.{◌≡◌, ◌+◌, drop}
use Rattle.dialect_registry.specs.Resolved.{number_of}
use Rattle.dialect_registry.specs.Resolving.{named_seen}
use Rattle.dialect_registry.proofs.resolve.names.number_of.Given as goal

abbrev pub invariant-loop-number : goal.invariant-loop-number
invariant-loop-number l = number_of (named_seen l.constraints) l.name
    ≡ l.number + number_of (named_seen (drop l.number l.constraints)) l.name
