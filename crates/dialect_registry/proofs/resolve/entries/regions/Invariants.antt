use Rattle.std.proofs.Common.{◌≡◌, map, take}
use Rattle.dialect_registry.specs.Resolved.{label, region_by}
use Rattle.dialect_registry.specs.Resolving.{constraints_of, region_at}
use Rattle.dialect_registry.proofs.resolve.entries.regions.Given as goal

abbrev pub invariant-loop-one : goal.invariant-loop-one
invariant-loop-one l = l.list ≡ map (λ e. region_by (constraints_of l.names) (label e.name)
    (region_at l.names e.var.name)) (take l.one-index l.raw)
