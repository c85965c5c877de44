use Rattle.std.proofs.Common.{[], arith, subst, sym}
use Rattle.attr_uniquer.specs.Rows.{values, IsRowAt}
use Rattle.attr_uniquer.proofs.Grown.{row-at-grow}
use Rattle.attr_uniquer.proofs.row.row_at.Goals as goal

pub returns : goal.returns
returns c = subst (IsRowAt (values c.args.rows.now) c.args.id.0) (sym c.index-rows-id.is)
    (row-at-grow [] c.args.rows.now c.args.id.0 c.args.id.0 c.index-rows-id.result
    c.requires.sound c.requires.known (omega arith))
