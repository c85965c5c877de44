use Rattle.std.proofs.Common.{◌≡◌, drop, slice_get}
use Rattle.dialect_defs.specs.declared.body.TheConstants.{VARIABLE_LIMIT}
use Rattle.dialect_registry.specs.Limits.{variables}
use Rattle.dialect_registry.proofs.limits.judge_variables.Given as goal

abbrev pub invariant-loop-statement : goal.invariant-loop-statement
invariant-loop-statement l =
    slice_get (variables l.statements) VARIABLE_LIMIT
    ≡ slice_get (variables (drop l.statement-index l.statements)) l.left
