use Rattle.std.proofs.Common.{List, ◌++◌, take, map}
use Rattle.attr_value.specs.Values.{Value}
use Rattle.constraint_solver.specs.Grown.{Extends}
use Rattle.generic_syntax.specs.declared.cst.ValueCst.{ValueCst}
use Rattle.module_faults.specs.OpFaults.{block_types}
use Rattle.op_judgement.specs.Found.{basis_of, AreArgsFound}
use Rattle.op_judgement.specs.Grounds.{IsGround, loaded_by}
use Rattle.value_meaning.specs.Meaning.{Aliases}
use Rattle.op_judgement.proofs.args.Args.add_region.Given as goal

abbrev pub invariant-loop-block : goal.invariant-loop-block
invariant-loop-block g l =
    let b = basis_of (λ p. (goal.NativePredicate-dyn g p).property p.1) l.env in
    record {
      grown : Extends l.fn.u l.u;
      found : (old : List Value) (al : Aliases) (before : List (List ValueCst))
          → IsGround b old al l.fn.u → AreArgsFound (loaded_by b old) al before l.fn.u l.fn.self
          → AreArgsFound (loaded_by b old) al
          (before ++ map block_types (take l.block-index l.block-items)) l.u l.self;
    }
