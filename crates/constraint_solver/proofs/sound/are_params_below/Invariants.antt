use Rattle.std.proofs.Common.{◌↔◌, ◌<◌, drop}
use Rattle.std.specs.List.{AllByRecursion}
use Rattle.dialect_defs.specs.Goodness.{vars_of}
use Rattle.constraint_solver.proofs.sound.are_params_below.Given as goal

-- what is left decides the rest
abbrev pub invariant-loop-param : goal.invariant-loop-param
invariant-loop-param l = AllByRecursion (λ v. v.0 < l.n) (vars_of l.params)
    ↔ AllByRecursion (λ v. v.0 < l.n) (vars_of (drop l.param-index l.params))
