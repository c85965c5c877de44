use Rattle.completion_laws.proofs.Building.{built-nearly, built-completes}
use Rattle.completion_laws.proofs.laws.built_completes.Goals as goal

pub returns-clause-nearly : goal.returns-clause-nearly
returns-clause-nearly c = built-nearly

pub returns-clause-whole : goal.returns-clause-whole
returns-clause-whole c = built-completes
