use Rattle.std.proofs.Common.{List, length, take}
use Rattle.attr_value.specs.Values.{Value}
use Rattle.constraint_solver.specs.Definitions.{AreSoundDefs}
use Rattle.constraint_solver.specs.Grown.{Extends}
use Rattle.first_fault.specs.Firsts.{IsFirst}
use Rattle.native_predicate.specs.Lists.{count, tests}
use Rattle.dialect_registry.specs.ConstantFaults.{IsConstantFault}
use Rattle.dialect_registry.specs.Parts.{Among}
use Rattle.dialect_registry.proofs.constants.judge_dialect.Given as goal

abbrev pub invariant-loop-def : goal.invariant-loop-def
invariant-loop-def g l = record {
  grown : Extends l.fn.u l.u;
  first : (values : List Value) → Extends values l.fn.u
      → AreSoundDefs (length values) (count l.ground.natives.now) l.ground.types.now
      → IsFirst (Among
      (λ def. Among (λ s. IsConstantFault values (tests (λ p. (goal.NativePredicate-dyn g p).property p.1) l.ground.natives.now) l.ground.types.now s.kind) def.statements)
      (take l.def-index l.def-items)) l.first;
}
