use Rattle.std.proofs.Common.{Some, sym, ◌∙◌, ap}
use Rattle.symbol_scopes.proofs.Lists.{same-name}
use Rattle.symbol_scopes.proofs.names.Names.number.Goals as goal

pub returns-clause-ok : goal.returns-clause-ok
returns-clause-ok c =
    let there = c.in_ok-place.ensures.stored in
    there.1 ∙ ap Some (sym (same-name c.in_ok-name.name there.0 there.2) ∙ c.in_ok-name.ensures)
