use Rattle.format_checker.proofs.Fitting.{fits}
use Rattle.format_checker.proofs.Groups.{group-fits}
use Rattle.format_checker.proofs.laws.columns_fit.Goals as goal

pub returns : goal.returns
returns c = record { elements = fits; groups = group-fits }
