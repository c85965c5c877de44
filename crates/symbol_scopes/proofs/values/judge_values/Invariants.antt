use Rattle.symbol_scopes.specs.declared.call.NameKind.TheVariants.{Values}
use Rattle.symbol_scopes.specs.Faults.{value_fault}
use Rattle.symbol_scopes.specs.Meanings.{value_meaning}
use Rattle.symbol_scopes.specs.Calls.{marks_of}
use Rattle.symbol_scopes.proofs.Judging.{Judges}
use Rattle.symbol_scopes.proofs.values.judge_values.Given as goal

abbrev pub invariant-loop-at : goal.invariant-loop-at
invariant-loop-at l =
    Judges l.names (marks_of l.names l.calls) Values l.listed value_fault value_meaning l.walk l.before
    l.at l.values.first l.values.meanings.items
