use Rattle.std.proofs.Common.{◌+◌, [], ◌∷◌, ap, arith, length, length-drop, subst, sym}
use Rattle.std.proofs.lemmas.Option.{slice_get_within}
use Rattle.elaborate.specs.Uses.{IsWrongUse}
use Rattle.first_fault.specs.Firsts.{IsFirst}
use Rattle.generic_syntax.specs.declared.module_cst.FormCst.{out-FormCst}
use Rattle.generic_syntax.specs.declared.module_cst.OpCst.{out-OpCst}
use Rattle.ir_store.specs.Modules.{types_in}
use Rattle.ir_store.specs.Numbering.{ops_in}
use Rattle.module_builder.specs.Fit.{uses_in}
use Rattle.module_faults.specs.Listed.{seen}
use Rattle.module_faults.specs.Standings.{ops_of}
use Rattle.elaborate.proofs.UseWalk.{Passed, passed-few, passed-other, passed-op, other-stands}
use Rattle.elaborate.proofs.UseWalk.{fits-there, op-next, uses-room}
use Rattle.elaborate.proofs.uses.first_wrong_use.Goals as goal

pub loop-standing-preserved-in_default : goal.loop-standing-preserved-in_default
loop-standing-preserved-in_default c =
    passed-other c.args.store.now c.args.standings.now c.args.shown.now
    c.loop-standing.standing-index c.loop-standing.ops c.loop-standing.uses c.loop-standing.first
    c.standing-item.result c.loop-standing-test.true c.standing-item.is
    (other-stands c.standing-item.result c.in_default.not-Op) c.loop-standing.invariant

pub from_place-types-requires : goal.from_place-types-requires
from_place-types-requires c =
    let room = uses-room c.args.store.now c.args.standings.now c.args.shown.now
    c.loop-standing.standing-index c.loop-standing.ops c.loop-standing.uses c.loop-standing.first
    c.standing-item.result c.in-Op.op.now c.loop-standing-test.true c.standing-item.is
    (ap (λ s. ops_of (seen s ∷ [])) c.in-Op.is) c.requires.fit c.loop-standing.invariant in
    let shown = c.requires.shown in
    omega (arith, room, shown)

pub first_of_form-requires-clause-there : goal.first_of_form-requires-clause-there
first_of_form-requires-clause-there c =
    let next = op-next c.args.store.now c.args.standings.now c.args.shown.now
    c.loop-standing.standing-index c.loop-standing.ops c.loop-standing.uses c.loop-standing.first
    c.standing-item.result c.in-Op.op.now c.loop-standing-test.true c.standing-item.is
    (ap (λ s. ops_of (seen s ∷ [])) c.in-Op.is) c.requires.fit c.loop-standing.invariant in
    slice_get_within (ops_in c.args.store.now) c.loop-standing.ops next.site next.there

pub first_of_form-requires-clause-fits : goal.first_of_form-requires-clause-fits
first_of_form-requires-clause-fits c =
    let next = op-next c.args.store.now c.args.standings.now c.args.shown.now
    c.loop-standing.standing-index c.loop-standing.ops c.loop-standing.uses c.loop-standing.first
    c.standing-item.result c.in-Op.op.now c.loop-standing-test.true c.standing-item.is
    (ap (λ s. ops_of (seen s ∷ [])) c.in-Op.is) c.requires.fit c.loop-standing.invariant in
    λ x is. fits-there (ops_in c.args.store.now) c.loop-standing.ops c.loop-standing.uses
    c.in-Op.op.now next x is

pub first_of_form-requires-clause-shown : goal.first_of_form-requires-clause-shown
first_of_form-requires-clause-shown c =
    let room = uses-room c.args.store.now c.args.standings.now c.args.shown.now
    c.loop-standing.standing-index c.loop-standing.ops c.loop-standing.uses c.loop-standing.first
    c.standing-item.result c.in-Op.op.now c.loop-standing-test.true c.standing-item.is
    (ap (λ s. ops_of (seen s ∷ [])) c.in-Op.is) c.requires.fit c.loop-standing.invariant in
    let shown = c.requires.shown in
    let types = ap length c.from_place-types.ensures in
    let left = length-drop c.loop-standing.uses c.args.shown.now in
    omega (arith, room, shown, types, left)

pub overflow_add-ops : goal.overflow_add-ops
overflow_add-ops c =
    let few = passed-few c.args.store.now c.args.standings.now c.args.shown.now
    c.loop-standing.standing-index c.loop-standing.ops c.loop-standing.uses c.loop-standing.first
    c.loop-standing.invariant in
    let less = c.loop-standing-test.true in
    omega (arith, few, less)

pub overflow_add-uses : goal.overflow_add-uses
overflow_add-uses c =
    let room = uses-room c.args.store.now c.args.standings.now c.args.shown.now
    c.loop-standing.standing-index c.loop-standing.ops c.loop-standing.uses c.loop-standing.first
    c.standing-item.result c.in-Op.op.now c.loop-standing-test.true c.standing-item.is
    (ap (λ s. ops_of (seen s ∷ [])) c.in-Op.is) c.requires.fit c.loop-standing.invariant in
    let shown = c.requires.shown in
    let count = c.use_count-uses.ensures in
    omega (arith, room, shown, count)

pub loop-standing-preserved : goal.loop-standing-preserved
loop-standing-preserved c =
    let m = c.args.store.now in
    let list = c.args.standings.now in
    let shown = c.args.shown.now in
    let i = c.loop-standing.standing-index in
    let ops = c.loop-standing.ops in
    let uses = c.loop-standing.uses in
    let op = c.in-Op.op.now in
    let here = ap (λ s. ops_of (seen s ∷ [])) c.in-Op.is in
    let next = op-next m list shown i ops uses c.loop-standing.first c.standing-item.result op
    c.loop-standing-test.true c.standing-item.is here c.requires.fit c.loop-standing.invariant in
    subst (λ n. Passed m list shown (i + 1) (ops + 1) (uses + n) c.earlier-first.result)
    (sym c.use_count-uses.ensures)
    (subst (Passed m list shown (i + 1) (ops + 1)
    (uses + length (uses_in (out-FormCst (out-OpCst op).form)))) (sym c.earlier-first.ensures)
    (passed-op m list shown i ops uses c.loop-standing.first c.standing-item.result op
    c.loop-standing-test.true c.standing-item.is here c.requires.fit c.loop-standing.invariant
    c.first_of_form.result
    (subst (λ types. IsFirst (IsWrongUse (types_in m) (uses_in (out-FormCst (out-OpCst op).form))
    types next.site.head.operands) c.first_of_form.result) c.from_place-types.ensures
    (c.first_of_form.ensures next.site next.there))))
