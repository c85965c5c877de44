use Rattle.std.proofs.Common.{◌-◌, drop, refl, arith, length-drop}
use Rattle.attr_value.proofs.Order.{ascend-short}
use Rattle.attr_value.proofs.rule.ascend.Goals as goal

pub returns : goal.returns
returns c =
    let texts = c.args.texts.now in
    let i = c.loop-i.i in (
      λ is. c.loop-i.invariant.1 (ascend-short (drop (i - 1) texts)
          (omega (arith, length-drop (i - 1) texts, c.loop-i-test.false))),
      λ ascend. refl,
    )
