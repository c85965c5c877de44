use Rattle.std.proofs.Common.{◌≡◌, ◌+◌, ◌∷◌, ◌++◌, length}
use Rattle.std.specs.Vec.Iter.{into_iter_items}
use Rattle.dialect_registry.specs.Formatting.{formatted_each}
use Rattle.dialect_registry.specs.Loaded.{module_op}
use Rattle.dialect_registry.proofs.loading.operations.Given as goal

abbrev pub invariant-loop-i : goal.invariant-loop-i
invariant-loop-i l = record {
  all : l.all.items
      ++ formatted_each (into_iter_items l.ops_left) (into_iter_items l.formats_left)
      ≡ module_op ∷ formatted_each l.fn.ops.items l.fn.formats.items;
  ops : length (into_iter_items l.ops_left) + l.i ≡ length l.fn.ops.items;
  formats : length (into_iter_items l.formats_left) + l.i ≡ length l.fn.formats.items;
}
