use Rattle.std.proofs.Common.{◌≡◌, ◌<◌, List, Option, length, subst}
use Rattle.std.specs.Prelude.{IfNone, IfSome}
use Rattle.attr_value.specs.declared.head.Head.TheVariants as h
use Rattle.attr_value.specs.declared.head.ValueId.{ValueId}
use Rattle.attr_value.specs.Ids.{at, kids_at}
use Rattle.attr_value.specs.Values.{value}
use Rattle.dialect_defs.specs.Goodness.{Good}
use Rattle.native_predicate.specs.Lists.{tests, count}
use Rattle.type_infer.specs.Found.{HaveIds}
use Rattle.type_infer.proofs.Wholes.{ids-good, ids-known, whole-bad, whole-found}
use Rattle.type_infer.proofs.wanted.Wanted.find_whole.Goals as goal

pub good_whole-requires-clause-known : goal.good_whole-requires-clause-known
good_whole-requires-clause-known g c =
    let have = subst (λ (o : Option (List ValueId)). IfSome o
    (λ ids. HaveIds c.args.self.now.slots.items c.args.parts.now ids)) c.in-Some.is
    c.in_ok-ids_of.ensures.some in
    ids-known (length c.args.u.now) c.args.self.now.slots.items c.args.parts.now c.in-Some.ids
    c.requires.known have

pub good_whole-requires-clause-good : goal.good_whole-requires-clause-good
good_whole-requires-clause-good g c =
    let says = tests (λ p. (g.dyn-1.0.entry p.0).1.property p.1) c.args.natives.now in
    let have = subst (λ (o : Option (List ValueId)). IfSome o
    (λ ids. HaveIds c.args.self.now.slots.items c.args.parts.now ids)) c.in-Some.is
    c.in_ok-ids_of.ensures.some in
    ids-good c.args.u.now says c.args.types.now c.args.self.now.slots.items
    c.args.parts.now c.in-Some.ids c.requires.good have

pub returns-in-None-2-clause-found : goal.returns-in-None-2-clause-found
returns-in-None-2-clause-found g c =
    let says = tests (λ p. (g.dyn-1.0.entry p.0).1.property p.1) c.args.natives.now in
    let have = subst (λ (o : Option (List ValueId)). IfSome o
    (λ ids. HaveIds c.args.self.now.slots.items c.args.parts.now ids)) c.in-Some.is
    c.in_ok-ids_of.ensures.some in
    let bad = subst (λ (o : Option ValueId). IfNone o
    (Good c.good_whole.new.u says c.args.types.now (value (h.Dialect c.args.is_type c.args.name.now)
    (kids_at c.args.u.now c.in-Some.ids)) → ⊥)) c.in-None-2.is
    c.in_ok-good_whole-in-Some.ensures.none in
    whole-bad says c.args.types.now c.args.u.now c.good_whole.new.u (count c.args.natives.now)
    c.args.self.now.slots.items c.args.var c.args.is_type c.args.name.now c.args.parts.now
    c.in-Some.ids c.in_ok-good_whole-in-Some.ensures.grew c.requires.types c.requires.known
    c.requires.good have bad

pub returns-clause-found : goal.returns-clause-found
returns-clause-found g c =
    let says = tests (λ p. (g.dyn-1.0.entry p.0).1.property p.1) c.args.natives.now in
    let have = subst (λ (o : Option (List ValueId)). IfSome o
    (λ ids. HaveIds c.args.self.now.slots.items c.args.parts.now ids)) c.in-Some.is
    c.in_ok-ids_of.ensures.some in
    let is = subst (λ (o : Option ValueId). IfSome o
    (λ id. at c.good_whole.new.u id.0 ≡ value (h.Dialect c.args.is_type c.args.name.now)
    (kids_at c.args.u.now c.in-Some.ids))) c.in-Some-2.is
    c.in_ok-good_whole-in-Some.ensures.value in
    let small = subst (λ (o : Option ValueId). IfSome o
    (λ id. id.0 < length c.good_whole.new.u)) c.in-Some-2.is
    c.in_ok-good_whole-in-Some.ensures.known in
    let right = subst (λ (o : Option ValueId). IfSome o
    (λ id. Good c.good_whole.new.u says c.args.types.now (at c.good_whole.new.u id.0)))
    c.in-Some-2.is c.in_ok-good_whole-in-Some.ensures.good in
    whole-found says c.args.types.now c.args.u.now c.good_whole.new.u (count c.args.natives.now)
    c.args.self.now.slots.items c.args.var c.args.is_type c.args.name.now c.args.parts.now
    c.in-Some.ids c.in_ok-good_whole-in-Some.ensures.grew c.requires.types c.requires.known
    c.requires.good have c.find.new.self.slots.items c.find.result c.in-Some-2.id is small right
    c.requires.var c.find.ensures
