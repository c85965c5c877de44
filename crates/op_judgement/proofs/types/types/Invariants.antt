use Rattle.std.proofs.Common.{List, length, take}
use Rattle.attr_value.specs.Ids.{AreKnown}
use Rattle.attr_value.specs.Values.{Value}
use Rattle.constraint_solver.specs.Grown.{Extends}
use Rattle.op_judgement.specs.Found.{basis_of, AreFound}
use Rattle.op_judgement.specs.Grounds.{IsGround, loaded_by}
use Rattle.value_meaning.specs.Meaning.{Aliases}
use Rattle.op_judgement.proofs.types.types.Given as goal

abbrev pub invariant-loop-tree : goal.invariant-loop-tree
invariant-loop-tree g l =
    let b = basis_of (λ p. (goal.NativePredicate-dyn g p).property p.1) l.env in
    record {
      grown : Extends l.fn.u l.u;
      known : AreKnown (length l.u) l.ids.items;
      found : (old : List Value) (al : Aliases) → IsGround b old al l.fn.u
          → AreFound (loaded_by b old) al (take l.tree-index l.trees) l.u l.ids.items l.first;
    }
