use Rattle.std.proofs.Common.{◌≡◌, take}
use Rattle.dialect_registry.specs.ConstantFaults.{shapes_of}
use Rattle.dialect_registry.proofs.shape.shapes.Given as goal

abbrev pub invariant-loop-file : goal.invariant-loop-file
invariant-loop-file l = l.shapes.items ≡ shapes_of (take l.file-index l.files)
