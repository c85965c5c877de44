use Rattle.loading_laws.proofs.OneAnswer.{meant-once, meant-once-generic, refused-once}
use Rattle.loading_laws.proofs.laws.one_answer.Goals as goal

pub returns-clause-refused : goal.returns-clause-refused
returns-clause-refused c = refused-once

pub returns-clause-generic : goal.returns-clause-generic
returns-clause-generic c = meant-once-generic

pub returns-clause-custom : goal.returns-clause-custom
returns-clause-custom c = meant-once
