use Rattle.std.proofs.Common.{take}
use Rattle.std.specs.List.{flat_map}
use Rattle.dialect_registry.specs.Formatting.{Adds, dialect_ops}
use Rattle.dialect_registry.proofs.formats.add_file.Given as goal

abbrev pub invariant-loop-dialect : goal.invariant-loop-dialect
invariant-loop-dialect l = Adds (flat_map dialect_ops (take l.dialect-index l.dialect-items))
    l.fn.formats.items l.formats.items
