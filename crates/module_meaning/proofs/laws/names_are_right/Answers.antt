use Rattle.module_meaning.proofs.AliasesRight.{no-fault}
use Rattle.module_meaning.proofs.laws.names_are_right.Goals as goal

pub returns : goal.returns
returns c = no-fault
