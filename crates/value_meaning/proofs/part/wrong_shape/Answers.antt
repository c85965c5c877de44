use Rattle.std.proofs.Common.{◌+◌, ◌∷◌, []}
use Rattle.value_meaning.proofs.Parts.{shape-wrong}
use Rattle.value_meaning.proofs.part.wrong_shape.Goals as goal

pub returns-clause-judged : goal.returns-clause-judged
returns-clause-judged c = λ g n spelled ms kind dims wrong x.
    rw c.earlier.ensures (rw c.earlier-first.ensures (rw c.parameters_fault.ensures
    (shape-wrong g n c.args.place c.args.u.now kind dims wrong spelled ms c.args.element x
    c.types_fault-fault.result
    (c.types_fault-fault.ensures.first g (n + 1) (spelled ∷ []) ms x))))
