use Rattle.value_meaning.proofs.Gathering.{is-judged}
use Rattle.value_meaning.proofs.gather.stood.Goals as goal

pub returns-clause-judged : goal.returns-clause-judged
returns-clause-judged c = λ g n s new is x.
    rw c.and.ensures.value (rw c.and.ensures.first
    (is-judged g n c.args.place s new c.room_fault.result c.args.node (c.room_fault.ensures g n is)
    x))
