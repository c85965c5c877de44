use Rattle.std.proofs.Common.{List, take, map}
use Rattle.attr_value.specs.Values.{Value}
use Rattle.constraint_solver.specs.Grown.{Extends}
use Rattle.generic_syntax.specs.declared.module_cst.ArgCst.{ArgCst}
use Rattle.op_judgement.specs.Found.{basis_of, AreFound}
use Rattle.op_judgement.specs.Grounds.{IsGround, loaded_by}
use Rattle.value_meaning.specs.Meaning.{Aliases}
use Rattle.op_judgement.proofs.args.arg_types.Given as goal

abbrev pub invariant-loop-arg : goal.invariant-loop-arg
invariant-loop-arg g l =
    let b = basis_of (λ p. (goal.NativePredicate-dyn g p).property p.1) l.env in
    record {
      grown : Extends l.fn.u l.u;
      found : (old : List Value) (al : Aliases) → IsGround b old al l.fn.u
          → AreFound (loaded_by b old) al (map (λ (x : ArgCst). x.ty) (take l.arg-index l.args))
          l.u l.ids l.first;
    }
