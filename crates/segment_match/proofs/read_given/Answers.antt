use Rattle.std.proofs.Common.{◌≡◌, ◌<ℤ◌, ◌∙◌, arith, get_or, pos, map}
use Rattle.std.proofs.lemmas.Grind.{common_steps}
use Rattle.std.proofs.lemmas.Int.{ints}
use Rattle.segment_match.proofs.Unique.{negative, naturals-same}
use Rattle.segment_match.proofs.read_given.Goals as goal

pub returns-then-item-lt0-clause-only : goal.returns-then-item-lt0-clause-only
returns-then-item-lt0-clause-only c =
    let low : get_or c.args.given.now c.loop-item.item-index (pos 0) <ℤ pos 0 =
    grind (arith, ints) in
    λ s. negative c.args.given.now s c.loop-item.item-index low

pub returns-clause-only : goal.returns-clause-only
returns-clause-only c =
    let read : map pos c.loop-item.sizes.items ≡ c.args.given.now =
    grind (arith, common_steps) in
    λ s e. naturals-same _ _ (read ∙ e)
