use Rattle.stored_module.proofs.Printable.{proper-printable}
use Rattle.stored_module.proofs.laws.proper_modules_are_printable.Goals as goal

pub returns : goal.returns
returns c = proper-printable
