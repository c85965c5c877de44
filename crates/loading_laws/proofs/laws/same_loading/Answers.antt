use Rattle.loading_laws.proofs.LoadedTwice.{loaded-alike}
use Rattle.loading_laws.proofs.SameValues.{alike-back}
use Rattle.loading_laws.proofs.laws.same_loading.Goals as goal

pub returns-clause-alike : goal.returns-clause-alike
returns-clause-alike c = loaded-alike

pub returns-clause-back : goal.returns-clause-back
returns-clause-back c = alike-back
