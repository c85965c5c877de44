use Rattle.std.proofs.Common.{take}
use Rattle.std.specs.List.{flat_map}
use Rattle.dialect_registry.specs.NameFaults.{marks_of_attr}
use Rattle.dialect_registry.specs.Scopes.{Sees}
use Rattle.dialect_registry.proofs.body.see_attrs.Given as goal

abbrev pub invariant-loop-attr : goal.invariant-loop-attr
invariant-loop-attr l =
    Sees (flat_map marks_of_attr (take l.attr-index l.attrs)) l.fn.scope l.scope
