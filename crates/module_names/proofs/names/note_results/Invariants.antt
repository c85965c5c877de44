use Rattle.module_names.specs.ModuleNotes.{result_noted}
use Rattle.module_names.proofs.Saying.{SaidSome}
use Rattle.module_names.proofs.names.note_results.Given as goal

abbrev pub invariant-loop-r : goal.invariant-loop-r
invariant-loop-r l = SaidSome result_noted l.results l.initial.scopes l.scopes l.r-index
