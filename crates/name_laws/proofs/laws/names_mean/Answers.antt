use Rattle.name_laws.proofs.WholeModule.{names-right}
use Rattle.name_laws.proofs.laws.names_mean.Goals as goal

pub returns : goal.returns
returns c = names-right
