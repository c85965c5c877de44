use Rattle.std.proofs.Common.{◌≡◌, Some, slice_get, subst, arith, refl, length}
use Rattle.std.proofs.lemmas.Option.{slice_get_read, slice_get_within}
use Rattle.dialect_defs.specs.declared.body.VarId.{VarId}
use Rattle.native_predicate.specs.Lists.{tests}
use Rattle.constraint_solver.proofs.Grows.{length-grows, sound-defs-grows}
use Rattle.type_infer.specs.Determined.{IsOf}
use Rattle.type_infer.proofs.Closing.{below-more}
use Rattle.type_infer.proofs.Following.{constant-grows, found-step}
use Rattle.type_infer.proofs.wanted.Wanted.find_round.Goals as goal

pub find_at-requires-clause-types : goal.find_at-requires-clause-types
find_at-requires-clause-types g c =
    sound-defs-grows (length-grows c.loop-v.invariant.more.grew) c.requires.types

pub find_at-requires-clause-named : goal.find_at-requires-clause-named
find_at-requires-clause-named g c =
    let v : VarId = record { 0 = c.loop-v.v } in
    let is = slice_get_read c.as_slice-constraint-items.result.now _ v.0 c.constraint-item.result refl
    c.loop-v-test.true c.constraint-item.is in
    let at_v : IsOf c.args.op.now v c.constraint-item.result =
    subst (λ vars. slice_get vars v.0 ≡ Some c.constraint-item.result)
    c.as_slice-constraint-items.ensures is in
    let within = slice_get_within c.args.op.now.body.vars v.0 c.constraint-item.result at_v in
    below-more v.0 (length c.loop-v.self.slots.items) _
    (omega (arith, within, c.loop-v.invariant.more.size, c.requires.size))
    (c.requires.ordered.named v c.constraint-item.result at_v)

pub find_at-requires-clause-constant : goal.find_at-requires-clause-constant
find_at-requires-clause-constant g c =
    let says = tests (λ p. (g.dyn-1.0.entry p.0).1.property p.1) c.args.natives.now in
    let v : VarId = record { 0 = c.loop-v.v } in
    let is = slice_get_read c.as_slice-constraint-items.result.now _ v.0 c.constraint-item.result refl
    c.loop-v-test.true c.constraint-item.is in
    let at_v : IsOf c.args.op.now v c.constraint-item.result =
    subst (λ vars. slice_get vars v.0 ≡ Some c.constraint-item.result)
    c.as_slice-constraint-items.ensures is in
    constant-grows c.loop-v.invariant.more.grew c.requires.types says c.constraint-item.result
    (c.requires.constants v c.constraint-item.result at_v)

pub loop-v-preserved : goal.loop-v-preserved
loop-v-preserved g c =
    let says = tests (λ p. (g.dyn-1.0.entry p.0).1.property p.1) c.args.natives.now in
    let v : VarId = record { 0 = c.loop-v.v } in
    let is = slice_get_read c.as_slice-constraint-items.result.now _ v.0 c.constraint-item.result refl
    c.loop-v-test.true c.constraint-item.is in
    let at_v : IsOf c.args.op.now v c.constraint-item.result =
    subst (λ vars. slice_get vars v.0 ≡ Some c.constraint-item.result)
    c.as_slice-constraint-items.ensures is in
    found-step says c.args.types.now c.args.op.now c.args.forced.now.set
    (λ w inside. (c.requires.forced w).0 inside) (λ w must. (c.requires.forced w).1 must)
    c.args.u.now c.loop-v.u c.find_at.new.u c.args.self.now.slots.items c.loop-v.self.slots.items
    c.find_at.new.self.slots.items c.loop-v.changed c.in_ok-changed.field-0 v
    c.constraint-item.result at_v c.loop-v.invariant c.in_ok-changed.ensures.found
