use Rattle.std.proofs.Common.{◌<◌, refl, arith}
use Rattle.constraint_solver.proofs.Filled.{all-at}
use Rattle.constraint_solver.specs.Roots.{assigned}
use Rattle.constraint_solver.proofs.Given.{Forces-true, Forces-false}
use Rattle.constraint_solver.proofs.Loops.{all-more, all-forced, all-refuted}
use Rattle.constraint_solver.proofs.assign.assign_all.Goals as goal

pub assign-requires-clause-below : goal.assign-requires-clause-below
assign-requires-clause-below c = all-at (λ v. v.0 < c.args.n) c.args.vars.now
    c.loop-var.var-index (record { 0 = 0 }) c.loop-var-test.true c.requires.below

pub loop-var-preserved : goal.loop-var-preserved
loop-var-preserved c =
    let u = c.args.u.now in
    let old = assigned u c.args.slots.now.ids in
    record {
      known = c.if-not-assign.ensures.known refl;
      filled = all-more u c.args.n old c.args.vars.now c.args.id (assigned u c.loop-var.slots.ids)
          (assigned u c.assign.new.slots.ids) c.loop-var.var-index c.loop-var-test.true
          c.loop-var.invariant.filled (c.if-not-assign.ensures.forced refl);
    }

pub returns-then-not-assign : goal.returns-then-not-assign
returns-then-not-assign c =
    let u = c.args.u.now in
    let old = assigned u c.args.slots.now.ids in
    Forces-false (all-refuted u c.args.n old c.args.vars.now c.args.id (assigned u
    c.loop-var.slots.ids)
    c.loop-var.var-index c.loop-var-test.true c.loop-var.invariant.filled
    (c.if-not-assign.ensures.refuted refl))

pub returns : goal.returns
returns c =
    let u = c.args.u.now in
    let old = assigned u c.args.slots.now.ids in
    Forces-true (all-forced u c.args.n old c.args.vars.now c.args.id (assigned u
    c.loop-var.slots.ids)
    c.loop-var.var-index (omega arith) c.loop-var.invariant.filled)
    c.loop-var.invariant.known
