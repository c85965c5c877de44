use Rattle.std.proofs.Common.{◌∙◌, ap, length, sym}
use Rattle.attr_uniquer.proofs.Grown.{length-values}
use Rattle.attr_uniquer.proofs.uniquer.Uniquer.len.Goals as goal

pub returns : goal.returns
returns c =
    c.len.ensures.len ∙ sym (length-values c.self.inside.rows.keys) ∙ ap length c.self.view_is
