use Rattle.std.proofs.Common.{◌≡◌, ◌++◌, List, take}
use Rattle.first_fault.specs.Firsts.{IsFirst}
use Rattle.irdl_ops.specs.declared.raw.RawDialect.{RawDialect}
use Rattle.native_predicate.specs.Lists.{names}
use Rattle.dialect_registry.specs.DefFaults.{IsDialectFault}
use Rattle.dialect_registry.specs.Parts.{BehindBelow}
use Rattle.dialect_registry.specs.Scopes.{Finds, HasDialects}
use Rattle.dialect_registry.specs.Targets.{World}
use Rattle.dialect_registry.proofs.judging.judge_file.Given as goal

abbrev pub invariant-loop-dialect : goal.invariant-loop-dialect
invariant-loop-dialect g l = record {
  seen : (earlier : List RawDialect) → HasDialects earlier l.fn.dialects
      → HasDialects (earlier ++ take l.dialect-index l.dialect-items) l.dialects;
  first : (w : World) (earlier : List RawDialect) → Finds w.dialects l.targets
      → w.natives ≡ names (λ p. (goal.NativePredicate-dyn g p).title p.1) l.natives
      → HasDialects earlier l.fn.dialects
      → IsFirst (BehindBelow (IsDialectFault w) earlier l.dialect-items l.dialect-index) l.first;
}
