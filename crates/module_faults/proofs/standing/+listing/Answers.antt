use Rattle.std.proofs.Common.{◌≡◌, ◌+◌, ◌++◌, ◌∷◌, [], length, map, nat_eq, ap, ◌∙◌}
use Rattle.std.proofs.lemmas.List.{map-append}
use Rattle.module_faults.specs.Listed.{seen}
use Rattle.module_faults.specs.Standings.{an_op, a_region, a_block}
use Rattle.module_faults.proofs.Listing.{ops-more, regions-more, blocks-more, last-of}
use Rattle.module_faults.proofs.standing.+listing.Goals as goal

pub list_blocks-loop-block-preserved : goal.list_blocks-loop-block-preserved
list_blocks-loop-block-preserved t c =
    let block = c.block-item.result in
    let pushed : map seen c.push.new.self.items
    ≡ map seen c.loop-block.list.items ++ a_block block ∷ []
    = ap (map seen) c.in_ok-push.ensures.items ∙ map-append seen c.loop-block.list.items _ in
    blocks-more _ _ _ _ c.args.around c.args.blocks.now _ block c.loop-block-test.true
    c.block-item.is c.loop-block.invariant pushed
    (rw c.as_slice.ensures at c.in_ok-list_ops.ensures)

pub list_ops-loop-i-preserved : goal.list_ops-loop-i-preserved
list_ops-loop-i-preserved t c =
    let op = c.index-ops-i.result in
    let last = nat_eq (c.loop-i.i + 1) (length c.args.ops.now) in
    let pushed : map seen c.push.new.self.items ≡ map seen c.loop-i.list.items ++ an_op op last ∷ []
    = ap (map seen) c.in_ok-push.ensures.items ∙ map-append seen c.loop-i.list.items _ in
    ops-more _ _ _ _ c.args.around c.args.ops.now _ op last c.loop-i-test.true c.index-ops-i.is
    (last-of c.args.ops.now c.loop-i.i c.loop-i-test.true)
    c.loop-i.invariant pushed c.in_ok-list_form.ensures

pub list_regions-loop-region-preserved : goal.list_regions-loop-region-preserved
list_regions-loop-region-preserved t c =
    let region = c.region-item.result in
    let nesting = c.deeper-nesting.ensures in
    let pushed : map seen c.push.new.self.items
    ≡ map seen c.loop-region.list.items ++ a_region c.deeper-nesting.result region ∷ []
    = ap (map seen) c.in_ok-push.ensures.items ∙ map-append seen c.loop-region.list.items _ in
    regions-more _ _ _ _ c.args.around c.args.regions.now _ region c.loop-region-test.true
    c.region-item.is c.loop-region.invariant (rw nesting at pushed)
    (rw (nesting, c.as_slice.ensures) at c.in_ok-list_blocks.ensures)
