use Rattle.loading_laws.proofs.LoadedTwice.{loaded-distinct}
use Rattle.loading_laws.proofs.laws.distinct_ops.Goals as goal

pub returns : goal.returns
returns c = loaded-distinct
