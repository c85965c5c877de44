use Rattle.std.proofs.Common.{refl, sym, ◌∙◌}
use Rattle.format_reader.proofs.Loops.{goes-none, goes_on, goes-end, goes-err, takes-one}
use Rattle.format_reader.proofs.Runs.{exit}
use Rattle.format_reader.proofs.read.items.Goals as goal

pub each-init : goal.each-init
each-init c = rw c.new-found.ensures goes-none

pub each-preserved : goal.each-preserved
each-preserved c = rw c.in_ok-push.ensures.ok
    (goes_on refl c.begins_item.ensures.some (sym c.begins_item.ensures.test ∙ c.each-test.true) c.each.invariant c.in_ok-item.ensures)

pub each-smaller : goal.each-smaller
each-smaller c = takes-one refl c.in_ok-item.ensures

pub returns-in_err-item : goal.returns-in_err-item
returns-in_err-item c = exit c.from_residual.ensures
    (goes-err c.begins_item.ensures.some (sym c.begins_item.ensures.test ∙ c.each-test.true) c.each.invariant c.in_err-item.ensures)

pub returns : goal.returns
returns c = rw c.trim.ensures
    (goes-end c.begins_item.ensures.some (sym c.begins_item.ensures.test ∙ c.each-test.false) c.each.invariant)
