use Rattle.std.proofs.Common.{◌↔◌, ◌<◌, drop}
use Rattle.std.specs.List.{AllByRecursion}
use Rattle.type_infer.proofs.ordered.are_entries_below.Given as goal

-- what is left decides the rest
abbrev pub invariant-loop-entry : goal.invariant-loop-entry
invariant-loop-entry l =
    AllByRecursion (λ entry. entry.var.0 < l.n) l.entries
    ↔ AllByRecursion (λ entry. entry.var.0 < l.n) (drop l.entry-index l.entries)
