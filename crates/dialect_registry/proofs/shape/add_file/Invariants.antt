use Rattle.std.proofs.Common.{◌≡◌, ◌++◌, map, take}
use Rattle.dialect_registry.specs.ConstantFaults.{shape_of}
use Rattle.dialect_registry.specs.Resolved.{located_in, types_among}
use Rattle.dialect_registry.proofs.shape.add_file.Given as goal

abbrev pub invariant-loop-dialect : goal.invariant-loop-dialect
invariant-loop-dialect l = l.shapes.items ≡ l.fn.shapes.items
    ++ map shape_of (types_among (located_in (take l.dialect-index l.dialect-items)))
