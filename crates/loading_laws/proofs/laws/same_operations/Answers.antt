use Rattle.loading_laws.proofs.SameOperations.{completes-alike, meets-alike}
use Rattle.loading_laws.proofs.laws.same_operations.Goals as goal

pub returns-clause-meets : goal.returns-clause-meets
returns-clause-meets c = meets-alike

pub returns-clause-completes : goal.returns-clause-completes
returns-clause-completes c = completes-alike
