use Rattle.std.proofs.Common.{◌≡◌, ◌++◌, map, take}
use Rattle.dialect_registry.specs.ConstantFaults.{shape_of}
use Rattle.dialect_registry.specs.Resolved.{located, types_among}
use Rattle.dialect_registry.proofs.shape.add_dialect.Given as goal

abbrev pub invariant-loop-def : goal.invariant-loop-def
invariant-loop-def l = l.shapes.items ≡ l.fn.shapes.items
    ++ map shape_of (types_among (map (located l.dialect.name) (take l.def-index l.def-items)))
