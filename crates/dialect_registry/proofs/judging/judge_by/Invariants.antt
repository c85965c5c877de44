use Rattle.std.proofs.Common.{take}
use Rattle.native_predicate.specs.Lists.{names}
use Rattle.dialect_registry.specs.DefFaults.{IsFault, IsFirstIn, dialects_of}
use Rattle.dialect_registry.specs.Scopes.{HasDialects}
use Rattle.dialect_registry.proofs.Files.{FaultBelow}
use Rattle.dialect_registry.proofs.judging.judge_by.Given as goal

abbrev pub invariant-loop-file : goal.invariant-loop-file
invariant-loop-file g l = record {
  seen : HasDialects (dialects_of (take l.file l.files)) l.dialects;
  first : IsFirstIn (FaultBelow (IsFault l.files
      (names (λ p. (goal.NativePredicate-dyn g p).title p.1) l.natives)) l.file) l.first;
}
