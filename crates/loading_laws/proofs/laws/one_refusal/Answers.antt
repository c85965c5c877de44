use Rattle.loading_laws.proofs.OneRefusal.{refusal-once, refused-faulty}
use Rattle.loading_laws.proofs.laws.one_refusal.Goals as goal

pub returns-clause-once : goal.returns-clause-once
returns-clause-once c = refusal-once

pub returns-clause-faulty : goal.returns-clause-faulty
returns-clause-faulty c = refused-faulty
