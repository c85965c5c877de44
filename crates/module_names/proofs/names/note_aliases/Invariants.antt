use Rattle.module_names.specs.ModuleNotes.{alias_noted}
use Rattle.module_names.proofs.Saying.{SaidSome}
use Rattle.module_names.proofs.names.note_aliases.Given as goal

abbrev pub invariant-loop-alias : goal.invariant-loop-alias
invariant-loop-alias l = SaidSome alias_noted l.aliases l.initial.scopes l.scopes l.alias-index
