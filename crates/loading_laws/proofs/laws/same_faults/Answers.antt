use Rattle.loading_laws.proofs.SameFaults.{breaks-op-alike, faultless-alike}
use Rattle.loading_laws.proofs.SameFaults.{operations-fault-alike, refusal-alike}
use Rattle.loading_laws.proofs.SameFaults.{uses-fault-alike, value-fault-alike, values-fault-alike}
use Rattle.loading_laws.proofs.laws.same_faults.Goals as goal

pub returns-clause-value : goal.returns-clause-value
returns-clause-value c = value-fault-alike

pub returns-clause-operation : goal.returns-clause-operation
returns-clause-operation c one two alike forms aliases op is_last rule =
    breaks-op-alike one two alike forms aliases op is_last

pub returns-clause-values : goal.returns-clause-values
returns-clause-values c = values-fault-alike

pub returns-clause-operations : goal.returns-clause-operations
returns-clause-operations c = operations-fault-alike

pub returns-clause-uses : goal.returns-clause-uses
returns-clause-uses c = uses-fault-alike

pub returns-clause-refused : goal.returns-clause-refused
returns-clause-refused c = refusal-alike

pub returns-clause-faultless : goal.returns-clause-faultless
returns-clause-faultless c = faultless-alike
