use Rattle.std.proofs.Common.{take}
use Rattle.std.specs.List.{flat_map}
use Rattle.dialect_registry.specs.Formatting.{Adds, def_ops}
use Rattle.dialect_registry.proofs.formats.add_dialect.Given as goal

abbrev pub invariant-loop-def : goal.invariant-loop-def
invariant-loop-def l = Adds (flat_map (def_ops l.dialect.name) (take l.def-index l.def-items))
    l.fn.formats.items l.formats.items
