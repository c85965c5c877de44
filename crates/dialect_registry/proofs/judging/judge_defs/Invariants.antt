use Rattle.std.proofs.Common.{◌≡◌, [], take}
use Rattle.first_fault.specs.Firsts.{IsFirst}
use Rattle.native_predicate.specs.Lists.{names}
use Rattle.dialect_registry.specs.DefFaults.{IsDefFault}
use Rattle.dialect_registry.specs.Parts.{BehindBelow}
use Rattle.dialect_registry.specs.Scopes.{Finds, HasDefs}
use Rattle.dialect_registry.specs.Targets.{World}
use Rattle.dialect_registry.proofs.judging.judge_defs.Given as goal

abbrev pub invariant-loop-def : goal.invariant-loop-def
invariant-loop-def g l = record {
  seen : HasDefs (take l.def-index l.defs) l.seen;
  first : (w : World) → Finds w.dialects l.targets
      → w.natives ≡ names (λ p. (goal.NativePredicate-dyn g p).title p.1) l.natives
      → IsFirst (BehindBelow (IsDefFault w l.own) [] l.defs l.def-index) l.first;
}
