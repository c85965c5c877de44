use Rattle.module_faults.specs.Standings.{ops_of, standings}
use Rattle.name_laws.proofs.Fitting.{notes-fit, ids-generic}
use Rattle.name_laws.proofs.laws.notes_fit.Goals as goal

pub returns : goal.returns
returns c = record {
  generic = notes-fit;
  ids = λ tree ids fit. notes-fit tree (ids-generic (ops_of (standings tree)) ids fit);
}
