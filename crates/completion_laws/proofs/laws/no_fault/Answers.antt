use Rattle.completion_laws.proofs.Faultless.{no-fault}
use Rattle.completion_laws.proofs.laws.no_fault.Goals as goal

pub returns : goal.returns
returns c = no-fault
