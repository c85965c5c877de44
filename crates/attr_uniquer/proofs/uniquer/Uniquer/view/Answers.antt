use Rattle.std.proofs.Common.{◌<◌, subst, ap, ◌∙◌, sym, length, arith}
use Rattle.attr_value.specs.Ids.{AreKnown}
use Rattle.attr_uniquer.proofs.Grown.{as-many, known-more}
use Rattle.attr_uniquer.proofs.uniquer.Uniquer.view.Goals as goal

pub row_at-row-requires-clause-known : goal.row_at-row-requires-clause-known
row_at-row-requires-clause-known c = subst (λ n. c.args.id.0 < n)
    (sym (ap length c.as_slice.ensures.keys ∙ as-many _ _ c.self.view_is)) c.requires

pub returns-clause-known : goal.returns-clause-known
returns-clause-known c = subst (AreKnown (length c.args.self.now)) (sym c.as_slice-2.ensures)
    (known-more c.args.id.0 (length c.args.self.now) c.row_at-row.result.now.kids (omega arith)
    c.row_at-row.ensures.known)
