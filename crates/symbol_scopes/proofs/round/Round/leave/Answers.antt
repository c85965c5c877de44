use Rattle.std.proofs.Common.{arith}
use Rattle.symbol_scopes.proofs.Listing.{round-left}
use Rattle.symbol_scopes.proofs.round.Round.leave.Goals as goal

pub invariant_of-self : goal.invariant_of-self
invariant_of-self c =
    round-left c.self.inside.regions.items c.pop.new.self.items c.pop.result _ c.pop.ensures.items
    (omega arith) c.self.invariant.1
