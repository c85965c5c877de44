use Rattle.module_builder.specs.Making.{Made}
use Rattle.module_builder.proofs.Taking.{ops_so_far}
use Rattle.module_builder.proofs.make.make_rows.Given as goal

abbrev pub invariant-loop-standing : goal.invariant-loop-standing
invariant-loop-standing l = Made l.initial.making l.making
    (ops_so_far l.standings l.standing-index) l.uses l.firsts
