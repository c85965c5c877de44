use Rattle.std.proofs.Common.{take}
use Rattle.std.specs.List.{flat_map}
use Rattle.dialect_registry.specs.NameFaults.{marks_of_entry}
use Rattle.dialect_registry.specs.Scopes.{Sees}
use Rattle.dialect_registry.proofs.body.see_entries.Given as goal

abbrev pub invariant-loop-entry : goal.invariant-loop-entry
invariant-loop-entry l =
    Sees (flat_map (marks_of_entry l.sort) (take l.entry-index l.entries)) l.fn.scope l.scope
