use Rattle.std.proofs.Common.{map, take}
use Rattle.dialect_registry.specs.NameFaults.{labels}
use Rattle.dialect_registry.specs.Scopes.{Sees}
use Rattle.dialect_registry.proofs.body.see_successors.Given as goal

abbrev pub invariant-loop-name : goal.invariant-loop-name
invariant-loop-name l =
    Sees (map (λ n. labels n.place n.name) (take l.name-index l.names)) l.fn.scope l.scope
