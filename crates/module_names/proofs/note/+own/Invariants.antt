use Rattle.module_names.specs.ModuleNotes.{part_own}
use Rattle.module_names.proofs.Saying.{SaidSome}
use Rattle.module_names.proofs.note.+own.Given as goal

abbrev pub invariant-note_own_parts-loop-part : goal.invariant-note_own_parts-loop-part
invariant-note_own_parts-loop-part l =
    SaidSome part_own l.parts l.initial.scopes l.scopes l.part-index
