use Rattle.std.proofs.Common.{◌∙◌, ap, arith}
use Rattle.std.specs.Option.{option_or}
use Rattle.format_checker.proofs.Ahead.{branch-more, ahead-back}
use Rattle.format_checker.proofs.clash.branch_clash.Goals as goal

pub loop-at-preserved : goal.loop-at-preserved
loop-at-preserved c =
    let l = c.loop-at in
    let e = c.index-items-at.result in
    let put = rw c.is_anchor-is_anchor.ensures at c.in_ok-step_item.ensures in
    let look = rw (c.is_anchor-is_anchor.ensures, c.as_slice.ensures, c.reached-far.ensures)
    at c.in_ok-look.ensures in
    let empty = rw (c.counts_empty.ensures, c.is_anchor-is_anchor.ensures) at c.both-all_empty.ensures in
    record {
      ahead =
          rw empty (ahead-back c.args.op.now c.args.anchor c.args.items.now l.at e l.near
          c.step_item.new.near l.all_empty (omega arith) (omega arith) c.index-items-at.is
          l.invariant.ahead put);
      first =
          c.sooner-found.ensures
          ∙ ap (λ o. option_or o l.found) c.clash_at.ensures
          ∙ branch-more c.args.op.now c.args.anchor c.args.items.now c.args.behind.now l.at e l.near
          c.step_item.new.near l.all_empty l.found c.in_ok-look.look (omega arith) (omega arith)
          c.index-items-at.is l.invariant.ahead l.invariant.first look;
      within = omega arith;
    }
