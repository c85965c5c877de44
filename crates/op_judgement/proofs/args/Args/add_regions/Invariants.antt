use Rattle.std.proofs.Common.{List, ◌++◌, take}
use Rattle.attr_value.specs.Values.{Value}
use Rattle.constraint_solver.specs.Grown.{Extends}
use Rattle.generic_syntax.specs.declared.cst.ValueCst.{ValueCst}
use Rattle.op_judgement.specs.Found.{basis_of, AreArgsFound}
use Rattle.op_judgement.specs.Grounds.{IsGround, loaded_by}
use Rattle.op_judgement.specs.Shown.{block_trees}
use Rattle.value_meaning.specs.Meaning.{Aliases}
use Rattle.op_judgement.proofs.args.Args.add_regions.Given as goal

abbrev pub invariant-loop-region : goal.invariant-loop-region
invariant-loop-region g l =
    let b = basis_of (λ p. (goal.NativePredicate-dyn g p).property p.1) l.env in
    record {
      grown : Extends l.fn.u l.u;
      found : (old : List Value) (al : Aliases) (before : List (List ValueCst))
          → IsGround b old al l.fn.u → AreArgsFound (loaded_by b old) al before l.fn.u l.fn.self
          → AreArgsFound (loaded_by b old) al
          (before ++ block_trees (take l.region-index l.regions)) l.u l.self;
    }
