use Rattle.std.proofs.Common.{◌+◌, ◌++◌, ◌<◌, length, ap, sym, ◌∙◌, subst, refl}
use Rattle.symbol_scopes.specs.ScopeMarks.{bindings_of}
use Rattle.symbol_scopes.specs.Calls.{mark_of, IsNamed}
use Rattle.symbol_scopes.specs.Listed.{bindings_in}
use Rattle.symbol_scopes.proofs.Listing.{listed-same, none-more, enters-none, binding-row}
use Rattle.symbol_scopes.proofs.rows.Listed.take.Goals as goal

pub returns-in_ok-enter-in-Enter-2-clause-listed : goal.returns-in_ok-enter-in-Enter-2-clause-listed
returns-in_ok-enter-in-Enter-2-clause-listed c =
    let ns = c.args.names.now in
    let ds = bindings_in ns c.args.self.now in
    let round = c.args.round.now.round in
    listed-same ns ds (ds ++ bindings_of c.args.kind round (mark_of ns c.args.next)) _ _ _
    (none-more c.args.kind round (mark_of ns c.args.next) ds
    (ap (λ x. bindings_of c.args.kind round (mark_of ns x)) c.in-Enter.is
    ∙ enters-none c.args.kind round))
    (sym (ap (λ r. r.entered + 1) c.in_ok-enter-in-Enter.ensures))
    (c.in_ok-enter-in-Enter-2.ensures ns ds (c.args.round.now.entered + 1) c.requires.listed)

pub returns-in_ok-add-in-Name-clause-listed : goal.returns-in_ok-add-in-Name-clause-listed
returns-in_ok-add-in-Name-clause-listed c =
    let ns = c.args.names.now in
    let ds = bindings_in ns c.args.self.now in
    let round = c.args.round.now.round in
    let named : c.in-Name.name < length ns = subst (IsNamed (length ns)) c.in-Name.is c.requires.named in
    listed-same ns _ _ _ _ _
    (ap (λ l. ds ++ l) (binding-row ns c.args.kind round c.args.next _ _ _ c.in-Name.said
    c.defined.result c.in-Name.is c.defined.ensures c.in-Some.is c.region.ensures.own))
    refl
    (c.in_ok-add-in-Name.ensures ns ds _ c.requires.listed named)
