use Rattle.std.proofs.Common.{ap, ◌∙◌}
use Rattle.symbol_scopes.specs.Listed.{bindings_in}
use Rattle.symbol_scopes.specs.Meanings.{meant}
use Rattle.symbol_scopes.specs.Slots.{found_in}
use Rattle.symbol_scopes.specs.Calls.{numbered_name}
use Rattle.symbol_scopes.proofs.Finds.{found-again, meant-known}
use Rattle.symbol_scopes.proofs.walk.Walk.found.Goals as goal

pub returns : goal.returns
returns c =
    let ns = c.args.names.now in
    let ds = bindings_in ns c.args.listed.now in
    let round = c.args.self.now.round.round in
    let x = numbered_name ns c.args.name in
    c.found.ensures.is ns ∙ ap (λ s. found_in ds s.found) c.slot.ensures
    ∙ found-again ds (meant ds round x) (meant-known ds round x)
