use Rattle.std.proofs.Common.{◌↔◌, drop}
use Rattle.std.specs.List.{AllByRecursion}
use Rattle.derived_printer.specs.Spellable.{IsFullName}
use Rattle.derived_printer.proofs.names.have_full_names.Given as goal

-- what is left decides the rest
abbrev pub invariant-loop-d : goal.invariant-loop-d
invariant-loop-d l = AllByRecursion (λ d. IsFullName d.name) l.types
    ↔ AllByRecursion (λ d. IsFullName d.name) (drop l.d-index l.types)
