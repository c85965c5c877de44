use Rattle.std.proofs.Common.{subst}
use Rattle.symbol_scopes.specs.Slots.{AreDistinctNames}
use Rattle.symbol_scopes.proofs.Lists.{distinct-names}
use Rattle.symbol_scopes.proofs.names.Names.len.Goals as goal

pub returns-clause-distinct : goal.returns-clause-distinct
returns-clause-distinct c =
    subst AreDistinctNames c.self.view_is (distinct-names c.self.inside.keys.keys c.len.ensures.unique)
