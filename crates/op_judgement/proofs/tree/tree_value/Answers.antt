use Rattle.op_judgement.proofs.Grown.{value-found, fault-found}
use Rattle.op_judgement.proofs.tree.tree_value.Goals as goal

pub returns-in-Ok-clause-found : goal.returns-in-Ok-clause-found
returns-in-Ok-clause-found g c = λ old al over.
    value-found _ c.requires.ready over c.args.tree.now c.value.new.u c.in-Ok.id c.in-Ok.ensures.known
    c.in-Ok.ensures.ok

pub returns-in-Err-Refused-clause-found : goal.returns-in-Err-Refused-clause-found
returns-in-Err-Refused-clause-found g c = λ old al over.
    fault-found _ c.requires.ready over c.args.tree.now c.in-Err-Refused.fault
    (rw c.in-Err-Refused.field-0-is at c.in-Err-Refused.ensures.refused)
