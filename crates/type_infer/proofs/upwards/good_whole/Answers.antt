use Rattle.std.proofs.Common.{◌∙◌, length, subst, sym}
use Rattle.attr_value.specs.declared.head.Head.TheVariants as h
use Rattle.attr_value.specs.Ids.{AreKnown}
use Rattle.dialect_defs.specs.Goodness.{Good}
use Rattle.native_predicate.specs.Lists.{tests, count}
use Rattle.constraint_solver.proofs.Grows.{extends-of-interned, length-grows, sound-defs-grows}
use Rattle.type_infer.proofs.Keeping.{kept-good, kept-is, interned-as}
use Rattle.type_infer.proofs.upwards.good_whole.Goals as goal

pub intern-requires : goal.intern-requires
intern-requires g c =
    subst (AreKnown (length c.args.u.now)) (sym c.as_slice.ensures) c.requires.known

pub good_head-requires-clause-types : goal.good_head-requires-clause-types
good_head-requires-clause-types g c =
    sound-defs-grows (length-grows (extends-of-interned c.in_ok-id.ensures.ok)) c.requires.types

pub good_head-requires-clause-kids : goal.good_head-requires-clause-kids
good_head-requires-clause-kids g c =
    let says = tests (λ p. (g.dyn-1.0.entry p.0).1.property p.1) c.args.natives.now in
    let interned = interned-as c.args.u.now c.intern.new.self c.args.is_type c.in_ok-name.name
    c.args.name.now c.as_slice.result.now c.args.ids.now c.in_ok-id.id.0
    (c.in_ok-name.ensures ∙ c.bytes.ensures) c.as_slice.ensures c.in_ok-id.ensures.ok in
    kept-good c.args.u.now c.intern.new.self (count c.args.natives.now) says c.args.types.now
    (h.Dialect c.args.is_type c.args.name.now) c.args.ids.now c.in_ok-id.id.0
    (extends-of-interned interned) c.requires.types c.requires.good
    (kept-is c.args.u.now c.intern.new.self _ c.in_ok-id.id.0 interned)

pub returns-then-good_head-clause-value : goal.returns-then-good_head-clause-value
returns-then-good_head-clause-value g c =
    kept-is c.args.u.now c.intern.new.self _ c.in_ok-id.id.0
    (interned-as c.args.u.now c.intern.new.self c.args.is_type c.in_ok-name.name
    c.args.name.now c.as_slice.result.now c.args.ids.now c.in_ok-id.id.0
    (c.in_ok-name.ensures ∙ c.bytes.ensures) c.as_slice.ensures c.in_ok-id.ensures.ok)

pub returns-else-good_head-clause-none : goal.returns-else-good_head-clause-none
returns-else-good_head-clause-none g c = λ good.
    let says = tests (λ p. (g.dyn-1.0.entry p.0).1.property p.1) c.args.natives.now in
    let is =
    kept-is c.args.u.now c.intern.new.self _ c.in_ok-id.id.0
    (interned-as c.args.u.now c.intern.new.self c.args.is_type c.in_ok-name.name
    c.args.name.now c.as_slice.result.now c.args.ids.now c.in_ok-id.id.0
    (c.in_ok-name.ensures ∙ c.bytes.ensures) c.as_slice.ensures c.in_ok-id.ensures.ok) in
    let yes = c.good_head.ensures.1
    (subst (Good c.intern.new.self says c.args.types.now) (sym is) good) in
    let no = c.if-good_head.false in
    cc
