use Rattle.std.proofs.Common.{◌≡◌, ◌++◌, take}
use Rattle.std.specs.List.{flat_map}
use Rattle.derived_printer.specs.Spelling as spec
use Rattle.derived_printer.proofs.spell.add_dims.Given as goal

abbrev pub invariant-loop-dim : goal.invariant-loop-dim
invariant-loop-dim l =
    l.text.items ≡ l.initial.text.items ++ flat_map spec.dim_text (take l.dim-index l.dims)
