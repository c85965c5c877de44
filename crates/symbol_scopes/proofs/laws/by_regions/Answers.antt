use Rattle.symbol_scopes.proofs.RegionMeanings.{values-by-regions, blocks-by-regions}
use Rattle.symbol_scopes.proofs.RegionFaults.{faults-by-regions}
use Rattle.symbol_scopes.proofs.laws.by_regions.Goals as goal

pub returns-clause-values : goal.returns-clause-values
returns-clause-values c = values-by-regions

pub returns-clause-blocks : goal.returns-clause-blocks
returns-clause-blocks c = blocks-by-regions

pub returns-clause-faults : goal.returns-clause-faults
returns-clause-faults c = faults-by-regions
