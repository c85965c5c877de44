use Rattle.std.proofs.Common.{◌∙◌, arith}
use Rattle.format_checker.specs.Decided.{follow}
use Rattle.format_checker.proofs.Ahead.{clash-more, next-more}
use Rattle.format_checker.proofs.clash.first_clash.Goals as goal

pub loop-at-preserved : goal.loop-at-preserved
loop-at-preserved c =
    let l = c.loop-at in
    let e = c.index-elements-at.result in
    let behind = follow c.args.op.now.terminator in
    let own = rw c.as_slice.ensures at c.in_ok-clash.ensures in
    record {
      same = next-more c.args.op.now c.args.elements.now behind l.at e l.next
          c.step_element.new.next (omega arith) (omega arith) c.index-elements-at.is l.invariant.same
          c.in_ok-step_element.ensures;
      first =
          c.sooner-found.ensures
          ∙ clash-more c.args.op.now c.args.elements.now behind l.at e l.next l.found
          c.in_ok-clash.clash (omega arith) (omega arith) c.index-elements-at.is l.invariant.same
          l.invariant.first own;
      within = omega arith;
    }
