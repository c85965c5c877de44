use Rattle.module_text.proofs.Completed.{completed-formed}
use Rattle.module_text.proofs.laws.completed_modules_are_well_formed.Goals as goal

pub returns : goal.returns
returns c = completed-formed
