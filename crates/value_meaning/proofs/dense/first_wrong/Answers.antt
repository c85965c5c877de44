use Rattle.std.proofs.Common.{◌≡◌, take, arith}
use Rattle.std.proofs.lemmas.List.{take_all}
use Rattle.value_meaning.proofs.Items.{first-of-next}
use Rattle.value_meaning.proofs.dense.first_wrong.Goals as goal

pub loop-item-preserved : goal.loop-item-preserved
loop-item-preserved c values tests types =
    rw c.earlier-first.ensures
    (first-of-next values tests types c.args.width c.args.items.now c.loop-item.item-index
    c.item-item.result c.loop-item.first c.fault_of.result c.loop-item-test.true c.item-item.is
    (c.loop-item.invariant values tests types) (c.fault_of.ensures values tests types))

pub returns : goal.returns
returns c values tests types =
    let items = c.args.items.now in
    let whole : take c.loop-item.item-index items ≡ items =
    take_all c.loop-item.item-index items (omega arith) in
    rw whole at (c.loop-item.invariant values tests types)
