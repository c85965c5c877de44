use Rattle.std.proofs.Common.{◌≡◌, map, take}
use Rattle.dialect_registry.proofs.resolve.entries.successors.Given as goal

abbrev pub invariant-loop-name : goal.invariant-loop-name
invariant-loop-name l = l.list ≡ map (λ n. n.name) (take l.name-index l.raw)
