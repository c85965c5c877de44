use Rattle.std.proofs.Common.{take}
use Rattle.std.specs.List.{flat_map}
use Rattle.dialect_registry.specs.NameFaults.{marks_of_statement}
use Rattle.dialect_registry.specs.Scopes.{Knows}
use Rattle.dialect_registry.proofs.body.judge_body.Given as goal

abbrev pub invariant-loop-statement : goal.invariant-loop-statement
invariant-loop-statement l =
    Knows (flat_map marks_of_statement (take l.statement-index l.statement-items)) l.scope
