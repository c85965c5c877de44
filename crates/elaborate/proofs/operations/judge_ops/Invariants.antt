use Rattle.std.proofs.Common.{List, map, take}
use Rattle.attr_value.specs.Values.{Value}
use Rattle.constraint_solver.specs.Grown.{Extends}
use Rattle.elaborate.specs.Operations.{AreFound}
use Rattle.module_faults.specs.Listed.{seen}
use Rattle.native_predicate.specs.Lists.{count, tests}
use Rattle.op_judgement.specs.Grounds.{IsGround, basis, loaded_by}
use Rattle.value_meaning.specs.Meaning.{Aliases}
use Rattle.elaborate.proofs.operations.judge_ops.Given as goal

-- what is found of those that were passed
abbrev pub invariant-loop-standing : goal.invariant-loop-standing
invariant-loop-standing g l =
    let b = basis (tests (λ p. (goal.NativePredicate-dyn g p).property p.1) l.natives)
    (count l.natives) l.registry l.aliases in
    record {
      grown : Extends l.fn.u l.u;
      found : (old : List Value) (al : Aliases) → IsGround b old al l.fn.u
          → AreFound (loaded_by b old) al (map seen (take l.standing-index l.standings)) l.u l.found;
    }
