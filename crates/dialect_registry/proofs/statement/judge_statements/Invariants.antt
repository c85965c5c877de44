use Rattle.std.proofs.Common.{◌≡◌, take}
use Rattle.first_fault.specs.Firsts.{IsFirst}
use Rattle.native_predicate.specs.Lists.{names}
use Rattle.dialect_registry.specs.DefFaults.{IsStatementFault}
use Rattle.dialect_registry.specs.Parts.{Among}
use Rattle.dialect_registry.specs.Scopes.{Finds}
use Rattle.dialect_registry.specs.Targets.{World}
use Rattle.dialect_registry.proofs.statement.judge_statements.Given as goal

abbrev pub invariant-loop-statement : goal.invariant-loop-statement
invariant-loop-statement g l =
    (w : World) → Finds w.dialects l.targets
    → w.natives ≡ names (λ p. (goal.NativePredicate-dyn g p).title p.1) l.natives
    → IsFirst (Among (λ s. IsStatementFault w l.own s.kind) (take l.statement-index l.statements))
    l.first
