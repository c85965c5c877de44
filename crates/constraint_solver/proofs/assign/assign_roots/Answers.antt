use Rattle.std.proofs.Common.{◌<◌, refl, arith, length}
use Rattle.constraint_solver.proofs.Filled.{all-at}
use Rattle.constraint_solver.specs.Roots.{assigned}
use Rattle.constraint_solver.proofs.Given.{Forces-true, Forces-false}
use Rattle.constraint_solver.proofs.Loops.{roots-more, roots-forced, roots-refuted}
use Rattle.constraint_solver.proofs.assign.assign_roots.Goals as goal

pub assign-requires-clause-below : goal.assign-requires-clause-below
assign-requires-clause-below c = all-at (λ root. root.0.0 < c.args.n) c.args.roots.now
    c.loop-root.root-index (record { 0 = 0 }, record { 0 = 0 }) c.loop-root-test.true
    c.requires.vars

pub assign-requires-clause-id : goal.assign-requires-clause-id
assign-requires-clause-id c = all-at (λ root. root.1.0 < length c.args.u.now) c.args.roots.now
    c.loop-root.root-index (record { 0 = 0 }, record { 0 = 0 }) c.loop-root-test.true
    c.requires.ids

pub loop-root-preserved : goal.loop-root-preserved
loop-root-preserved c =
    let u = c.args.u.now in
    let old = assigned u c.args.slots.now.ids in
    record {
      known = c.if-not-assign.ensures.known refl;
      filled = roots-more u c.args.n old c.args.roots.now (assigned u c.loop-root.slots.ids)
          (assigned u c.assign.new.slots.ids) c.loop-root.root-index c.loop-root-test.true
          c.loop-root.invariant.filled (c.if-not-assign.ensures.forced refl);
    }

pub returns-then-not-assign : goal.returns-then-not-assign
returns-then-not-assign c =
    let u = c.args.u.now in
    let old = assigned u c.args.slots.now.ids in
    Forces-false (roots-refuted u c.args.n old c.args.roots.now (assigned u c.loop-root.slots.ids)
    c.loop-root.root-index c.loop-root-test.true c.loop-root.invariant.filled
    (c.if-not-assign.ensures.refuted refl))

pub returns : goal.returns
returns c =
    let u = c.args.u.now in
    let old = assigned u c.args.slots.now.ids in
    Forces-true (roots-forced u c.args.n old c.args.roots.now (assigned u c.loop-root.slots.ids)
    c.loop-root.root-index (omega arith) c.loop-root.invariant.filled)
    c.loop-root.invariant.known
