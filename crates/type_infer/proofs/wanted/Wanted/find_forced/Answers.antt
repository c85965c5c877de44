use Rattle.std.proofs.Common.{sym}
use Rattle.type_infer.proofs.Following.{forced-down, forced-none}
use Rattle.type_infer.proofs.wanted.Wanted.find_forced.Goals as goal

pub returns-then-not-has : goal.returns-then-not-has
returns-then-not-has c = λ says types good.
    forced-none says types c.args.u.now c.args.self.now.slots.items c.args.forced.now.set
    c.args.whole c.args.constraint.now c.requires.known good
    (λ inside. let no = c.if-not-has.ensures in cc)

pub returns : goal.returns
returns c = λ says types good.
    forced-down says types c.args.u.now c.args.self.now.slots.items c.find_down.new.self.slots.items
    c.find_down.result c.args.forced.now.set c.args.whole c.args.constraint.now
    (sym c.if-not-has.ensures) (c.find_down.ensures says types good)
