use Rattle.std.proofs.Common.{◌≡◌, ◌≤◌, max, drop, length}
use Rattle.attr_value.specs.Values.{greatest_depth}
use Rattle.attr_value.specs.Ids.{kids_at, AreKnown}
use Rattle.attr_uniquer.specs.Rows.{values}
use Rattle.attr_uniquer.proofs.row.depth_over.Given as goal

-- what is left decides the rest
abbrev pub invariant-loop-kid : goal.invariant-loop-kid
invariant-loop-kid l = record {
  known : AreKnown (length l.rows) (drop l.kid-index l.kids);
  small : l.most ≤ length l.rows;
  most : max l.most (greatest_depth (kids_at (values l.rows) (drop l.kid-index l.kids)))
      ≡ greatest_depth (kids_at (values l.rows) l.kids);
}
