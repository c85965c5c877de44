use Rattle.module_names.specs.ModuleNotes.{use_noted}
use Rattle.module_names.proofs.Saying.{SaidSome}
use Rattle.module_names.proofs.names.note_uses.Given as goal

abbrev pub invariant-loop-u : goal.invariant-loop-u
invariant-loop-u l = SaidSome use_noted l.uses l.initial.scopes l.scopes l.u-index
