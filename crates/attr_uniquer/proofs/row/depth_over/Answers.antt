use Rattle.std.proofs.Common.{◌≡◌, max, arith, get_or}
use Rattle.std.proofs.lemmas.Grind.{common_steps}
use Rattle.attr_value.specs.declared.head.ValueId.{ValueId}
use Rattle.attr_uniquer.specs.Rows.{values}
use Rattle.attr_uniquer.proofs.Grown.{length-values}
use Rattle.attr_uniquer.proofs.Shallow.{next-known, next-depth, shallow-rows}
use Rattle.attr_uniquer.proofs.row.depth_over.Goals as goal

pub loop-kid-preserved : goal.loop-kid-preserved
loop-kid-preserved c =
    let i = c.loop-kid.kid-index in
    let kids = c.args.kids.now in
    let rows = c.args.rows.now in
    let none : ValueId = record { 0 = 0 } in
    let within = c.loop-kid-test.true in
    let known = next-known _ kids i none within c.loop-kid.invariant.known in
    let small = shallow-rows rows c.requires.sound (get_or kids i none).0
    (omega (arith, length-values rows, known.0)) in
    let deep = next-depth (values rows) kids i none within in
    let larger : c.max-most.result ≡ max c.loop-kid.most c.row_at.result.now.depth =
    grind (arith, common_steps) in
    record {
      known = known.1;
      small = omega (arith, known.0);
      most = omega (arith, deep);
    }
