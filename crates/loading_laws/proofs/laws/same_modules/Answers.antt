use Rattle.loading_laws.proofs.SameModules.{module-alike, nearly-alike, proper-alike}
use Rattle.loading_laws.proofs.SameValues.{aliases-alike}
use Rattle.loading_laws.proofs.laws.same_modules.Goals as goal

pub returns-clause-proper : goal.returns-clause-proper
returns-clause-proper c = proper-alike

pub returns-clause-aliases : goal.returns-clause-aliases
returns-clause-aliases c = aliases-alike

pub returns-clause-completes : goal.returns-clause-completes
returns-clause-completes c = module-alike

pub returns-clause-nearly : goal.returns-clause-nearly
returns-clause-nearly c = nearly-alike
