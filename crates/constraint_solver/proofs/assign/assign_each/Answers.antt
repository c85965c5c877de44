use Rattle.std.proofs.Common.{◌<◌, refl, arith, length}
use Rattle.constraint_solver.proofs.Filled.{all-at, known-at}
use Rattle.constraint_solver.specs.Roots.{assigned}
use Rattle.constraint_solver.proofs.Given.{Forces-true, Forces-false}
use Rattle.constraint_solver.proofs.Loops.{each-more, each-forced, each-refuted}
use Rattle.constraint_solver.proofs.assign.assign_each.Goals as goal

pub assign-requires-clause-below : goal.assign-requires-clause-below
assign-requires-clause-below c = all-at (λ v. v.0 < c.args.n) c.args.vars.now c.loop-i.i
    (record { 0 = 0 }) c.loop-i-test.true c.requires.below

pub assign-requires-clause-id : goal.assign-requires-clause-id
assign-requires-clause-id c = known-at (length c.args.u.now) c.args.kids.now c.loop-i.i
    (omega (arith, c.requires.lengths, c.loop-i-test.true)) c.requires.kids

pub loop-i-preserved : goal.loop-i-preserved
loop-i-preserved c =
    let u = c.args.u.now in
    let old = assigned u c.args.slots.now.ids in
    record {
      known = c.if-not-assign.ensures.known refl;
      filled = each-more u c.args.n old c.args.vars.now c.args.kids.now
          (assigned u c.loop-i.slots.ids) (assigned u c.assign.new.slots.ids) c.loop-i.i
          c.loop-i-test.true c.loop-i.invariant.filled (c.if-not-assign.ensures.forced refl);
    }

pub returns-then-not-assign : goal.returns-then-not-assign
returns-then-not-assign c =
    let u = c.args.u.now in
    let old = assigned u c.args.slots.now.ids in
    Forces-false (each-refuted u c.args.n old c.args.vars.now c.args.kids.now (assigned u
    c.loop-i.slots.ids)
    c.loop-i.i c.loop-i-test.true c.loop-i.invariant.filled (c.if-not-assign.ensures.refuted refl))

pub returns : goal.returns
returns c =
    let u = c.args.u.now in
    let old = assigned u c.args.slots.now.ids in
    Forces-true (each-forced u c.args.n old c.args.vars.now c.args.kids.now (assigned u
    c.loop-i.slots.ids)
    c.loop-i.i c.requires.lengths (omega arith) c.loop-i.invariant.filled)
    c.loop-i.invariant.known
