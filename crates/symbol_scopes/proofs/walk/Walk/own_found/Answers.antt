use Rattle.std.proofs.Common.{ap, ◌∙◌}
use Rattle.symbol_scopes.specs.Listed.{bindings_in}
use Rattle.symbol_scopes.specs.Meanings.{meant}
use Rattle.symbol_scopes.specs.Slots.{in_own}
use Rattle.symbol_scopes.specs.Calls.{numbered_name}
use Rattle.symbol_scopes.proofs.Judging.{own-round}
use Rattle.symbol_scopes.proofs.walk.Walk.own_found.Goals as goal

pub returns : goal.returns
returns c =
    let ds = bindings_in c.args.names.now c.args.listed.now in
    let round = c.args.self.now.round.round in
    let x = numbered_name c.args.names.now c.args.name in
    c.in_region.ensures ∙ ap (λ o. in_own o c.region.result) c.found.ensures
    ∙ ap (in_own (meant ds round x)) c.region.ensures.own
    ∙ own-round ds _ round x c.region.ensures.some c.region.ensures.descend
