use Rattle.native_predicate.specs.Lists.{tests}
use Rattle.type_infer.proofs.Following.{at-found}
use Rattle.type_infer.proofs.wanted.Wanted.find_at.Goals as goal

pub returns-clause-found : goal.returns-clause-found
returns-clause-found g c =
    let says = tests (λ p. (g.dyn-1.0.entry p.0).1.property p.1) c.args.natives.now in
    let up = c.in_ok-up.ensures.found in
    at-found says c.args.types.now c.args.u.now c.find_up.new.u c.args.self.now.slots.items
    c.find_up.new.self.slots.items c.find_forced-down.new.self.slots.items c.in_ok-up.up
    c.find_forced-down.result c.args.forced.now.set c.args.var c.args.constraint.now up
    (c.find_forced-down.ensures says c.args.types.now up.more.good)
