use Rattle.module_names.specs.ModuleNotes.{argument_noted}
use Rattle.module_names.proofs.Saying.{SaidSome}
use Rattle.module_names.proofs.names.note_arguments.Given as goal

abbrev pub invariant-loop-a : goal.invariant-loop-a
invariant-loop-a l = SaidSome argument_noted l.args l.initial.scopes l.scopes l.a-index
