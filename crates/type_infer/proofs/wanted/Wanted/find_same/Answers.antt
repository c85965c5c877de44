use Rattle.dialect_defs.specs.declared.body.Constraint.TheVariants.{AllOf}
use Rattle.type_infer.proofs.Wholes.{same-found, up-none}
use Rattle.type_infer.proofs.wanted.Wanted.find_same.Goals as goal

pub returns-in-None : goal.returns-in-None
returns-in-None c = λ values says types known good.
    up-none says types values c.args.self.now.slots.items c.args.var (AllOf c.args.members.now)
    known good (λ final a later finds follows.
    c.in-None.ensures.none follows.0 follows.1 follows.2)

pub returns-in-Some : goal.returns-in-Some
returns-in-Some c = λ values says types known good.
    let some = c.in-Some.ensures.some in
    same-found says types values c.args.self.now.slots.items c.find.new.self.slots.items
    c.find.result c.args.var c.in-Some.id c.args.members.now some.0 known good c.requires.var
    c.find.ensures some.1 some.2
