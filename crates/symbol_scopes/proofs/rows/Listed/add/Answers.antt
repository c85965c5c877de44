use Rattle.std.proofs.Common.{refl, ◌∙◌}
use Rattle.std.proofs.lemmas.Option.{slice_get_read}
use Rattle.symbol_scopes.proofs.Listing.{listed-add}
use Rattle.symbol_scopes.proofs.rows.Listed.add.Goals as goal

pub returns : goal.returns
returns c = λ ns ds n h named.
    listed-add ns ds n c.args.region c.args.name c.args.number c.args.self.now _ _ _ h named
    c.requires
    (slice_get_read _ _ c.args.region _ refl c.requires c.index-next.ensures) (c.len-at.ensures ∙ c.args.self.now.rows.ok.0) c.in_ok-push.ensures.items refl
