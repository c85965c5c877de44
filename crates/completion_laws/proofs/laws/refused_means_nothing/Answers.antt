use Rattle.completion_laws.proofs.Faultless.{refused-none}
use Rattle.completion_laws.proofs.laws.refused_means_nothing.Goals as goal

pub returns : goal.returns
returns c = refused-none
