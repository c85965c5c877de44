use Rattle.std.proofs.Common.{◌↔◌, drop}
use Rattle.std.specs.List.{AllByRecursion}
use Rattle.attr_value.specs.Heads.{IsDim}
use Rattle.attr_value.proofs.rule.are_dims.Given as goal

-- what is left decides the rest
abbrev pub invariant-loop-dim : goal.invariant-loop-dim
invariant-loop-dim l = AllByRecursion (IsDim l.kind) l.dims
    ↔ AllByRecursion (IsDim l.kind) (drop l.dim-index l.dims)
