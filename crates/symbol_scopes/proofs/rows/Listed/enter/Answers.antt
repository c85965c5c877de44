use Rattle.std.proofs.Common.{refl}
use Rattle.symbol_scopes.proofs.Listing.{listed-enter}
use Rattle.symbol_scopes.proofs.rows.Listed.enter.Goals as goal

pub returns : goal.returns
returns c = λ ns ds n h. listed-enter ns ds n c.args.self.now _ h refl c.in_ok-push.ensures.items
