use Rattle.std.proofs.Common.{take}
use Rattle.first_fault.specs.Firsts.{IsFirst, IsFaultBy}
use Rattle.symbol_scopes.specs.Faults.{alias_fault}
use Rattle.symbol_scopes.specs.Aliases.{KnowsAliases}
use Rattle.symbol_scopes.specs.Calls.{marks_of}
use Rattle.symbol_scopes.proofs.aliases.judge_aliases.Given as goal

abbrev pub invariant-loop-at : goal.invariant-loop-at
invariant-loop-at l = record {
  known : KnowsAliases l.names (take l.at (marks_of l.names l.calls)) l.known;
  first : IsFirst (IsFaultBy alias_fault (take l.at (marks_of l.names l.calls)))
      l.first;
}
