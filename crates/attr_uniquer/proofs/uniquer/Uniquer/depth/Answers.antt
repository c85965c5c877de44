use Rattle.std.proofs.Common.{◌<◌, subst, ap, ◌∙◌, sym, length}
use Rattle.attr_uniquer.proofs.Grown.{as-many}
use Rattle.attr_uniquer.proofs.uniquer.Uniquer.depth.Goals as goal

pub row_at-requires-clause-known : goal.row_at-requires-clause-known
row_at-requires-clause-known c = subst (λ n. c.args.id.0 < n)
    (sym (ap length c.as_slice.ensures.keys ∙ as-many _ _ c.self.view_is)) c.requires
