use Rattle.std.proofs.Common.{◌↔◌, drop}
use Rattle.std.specs.List.{AllByRecursion}
use Rattle.constraint_solver.specs.Definitions.{IsSoundDef}
use Rattle.constraint_solver.proofs.sound.are_sound_defs.Given as goal

-- what is left decides the rest
abbrev pub invariant-loop-d : goal.invariant-loop-d
invariant-loop-d l = AllByRecursion (IsSoundDef l.len l.count) l.types
    ↔ AllByRecursion (IsSoundDef l.len l.count) (drop l.d-index l.types)
