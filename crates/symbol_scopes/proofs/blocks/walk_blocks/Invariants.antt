use Rattle.symbol_scopes.specs.declared.call.NameKind.TheVariants.{Labels}
use Rattle.symbol_scopes.specs.Faults.{block_fault}
use Rattle.symbol_scopes.specs.Meanings.{block_meaning}
use Rattle.symbol_scopes.specs.Calls.{marks_of}
use Rattle.symbol_scopes.proofs.Judging.{Judges}
use Rattle.symbol_scopes.proofs.blocks.walk_blocks.Given as goal

abbrev pub invariant-loop-at : goal.invariant-loop-at
invariant-loop-at l =
    Judges l.names (marks_of l.names l.calls) Labels l.listed block_fault block_meaning l.walk l.before
    l.at l.blocks.first l.blocks.meanings.items
