use Rattle.module_names.specs.Mentions.{value_mentions, entry_mentions}
use Rattle.module_names.proofs.Saying.{SaidSome}
use Rattle.module_names.proofs.mentions.+mentions.Given as goal

abbrev pub invariant-note_values-loop-value : goal.invariant-note_values-loop-value
invariant-note_values-loop-value l =
    SaidSome value_mentions l.values l.initial.scopes l.scopes l.value-index

abbrev pub invariant-note_entries-loop-entry : goal.invariant-note_entries-loop-entry
invariant-note_entries-loop-entry l =
    SaidSome entry_mentions l.entries l.initial.scopes l.scopes l.entry-index
