use Rattle.std.proofs.Common.{List, length}
use Rattle.attr_value.specs.Values.{Value}
use Rattle.constraint_solver.specs.Definitions.{AreSoundDefs}
use Rattle.constraint_solver.specs.Grown.{Extends}
use Rattle.native_predicate.specs.Lists.{count, tests}
use Rattle.dialect_registry.specs.ConstantFaults.{IsConstantFault, IsFaultIn}
use Rattle.dialect_registry.specs.DefFaults.{IsFirstIn}
use Rattle.dialect_registry.proofs.Files.{FaultBelow}
use Rattle.dialect_registry.proofs.constants.judge_constants.Given as goal

abbrev pub invariant-loop-number : goal.invariant-loop-number
invariant-loop-number g l = record {
  grown : Extends l.fn.u l.u;
  first : (values : List Value) → Extends values l.fn.u
      → AreSoundDefs (length values) (count l.ground.natives.now) l.ground.types.now
      → IsFirstIn (FaultBelow (IsFaultIn (IsConstantFault values
      (tests (λ p. (goal.NativePredicate-dyn g p).property p.1) l.ground.natives.now) l.ground.types.now) l.files) l.number) l.first;
}
