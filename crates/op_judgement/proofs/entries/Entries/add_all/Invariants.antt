use Rattle.std.proofs.Common.{List, ◌++◌, take}
use Rattle.attr_value.specs.Values.{Value}
use Rattle.constraint_solver.specs.Grown.{Extends}
use Rattle.generic_syntax.specs.declared.cst.EntryCst.{EntryCst}
use Rattle.op_judgement.specs.Entered.{AreEntered}
use Rattle.op_judgement.specs.Found.{basis_of}
use Rattle.op_judgement.specs.Grounds.{IsGround, loaded_by}
use Rattle.value_meaning.specs.Meaning.{Aliases}
use Rattle.op_judgement.proofs.entries.Entries.add_all.Given as goal

abbrev pub invariant-loop-entry : goal.invariant-loop-entry
invariant-loop-entry g l =
    let b = basis_of (λ p. (goal.NativePredicate-dyn g p).property p.1) l.env in
    record {
      grown : Extends l.fn.u l.u;
      entered : (old : List Value) (al : Aliases) (before : List EntryCst)
          → IsGround b old al l.fn.u → AreEntered (loaded_by b old) al before l.fn.u l.fn.self
          → AreEntered (loaded_by b old) al (before ++ take l.entry-index l.entries) l.u l.self;
    }
