use Rattle.std.proofs.Common.{sym, subst}
use Rattle.dialect_defs.specs.declared.body.Constraint.{Constraint}
use Rattle.native_predicate.specs.Lists.{tests}
use Rattle.type_infer.specs.Found.{FoundUp, IsGoodConstant}
use Rattle.type_infer.proofs.Wholes.{value-found}
use Rattle.type_infer.proofs.wanted.Wanted.find_up.Goals as goal

pub returns-in-Is-clause-found : goal.returns-in-Is-clause-found
returns-in-Is-clause-found g c =
    let says = tests (λ p. (g.dyn-1.0.entry p.0).1.property p.1) c.args.natives.now in
    let right = subst (IsGoodConstant c.args.u.now says c.args.types.now) c.in-Is.is
    c.requires.constant in
    subst (λ (k : Constraint). FoundUp says c.args.types.now c.args.u.now c.args.u.now
    c.args.self.now.slots.items c.find.new.self.slots.items c.find.result c.args.var k)
    (sym c.in-Is.is)
    (value-found says c.args.types.now c.args.u.now c.args.self.now.slots.items
    c.find.new.self.slots.items c.find.result c.args.var c.in-Is.id c.requires.known
    c.requires.good right.0 right.1 c.requires.var c.find.ensures)
