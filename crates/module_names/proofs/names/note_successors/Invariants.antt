use Rattle.module_names.specs.ModuleNotes.{successor_noted}
use Rattle.module_names.proofs.Saying.{SaidSome}
use Rattle.module_names.proofs.names.note_successors.Given as goal

abbrev pub invariant-loop-s : goal.invariant-loop-s
invariant-loop-s l = SaidSome successor_noted l.names l.initial.scopes l.scopes l.s-index
