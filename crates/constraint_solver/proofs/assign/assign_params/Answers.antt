use Rattle.std.proofs.Common.{◌≡◌, ◌∙◌, ℕ, ◌<◌, List, length, get_or, refl, ap, sym, subst, arith}
use Rattle.attr_value.specs.Ids.{at}
use Rattle.dialect_defs.specs.declared.entry.Entry.{Entry}
use Rattle.dialect_defs.specs.Assignments.{Has}
use Rattle.dialect_defs.specs.Goodness.{vars_of}
use Rattle.constraint_solver.specs.Search.{Forced, Refuted}
use Rattle.constraint_solver.proofs.Filled.{all-at, known-at, id_at, var_at, param-at, length-vars}
use Rattle.constraint_solver.specs.Roots.{assigned}
use Rattle.constraint_solver.proofs.Given.{Forces-true, Forces-false}
use Rattle.constraint_solver.proofs.Loops.{each-more, each-forced, each-refuted}
use Rattle.constraint_solver.proofs.assign.assign_params.Goals as goal

-- the variable of the parameter at a place
var-is : (params : List Entry) (i : ℕ) (param : Entry) → i < length params
    → param ≡ get_or params i param → param.var ≡ var_at (vars_of params) i
var-is params i param within is = ap (λ p. p.var) is ∙ param-at params i param within

within-vars : (params : List Entry) (i : ℕ) → i < length params → i < length (vars_of params)
within-vars params i within = omega (arith, length-vars params, within)

pub assign-requires-clause-below : goal.assign-requires-clause-below
assign-requires-clause-below c =
    let params = c.args.params.now in
    subst (λ v. v.0 < c.args.n)
    (sym (var-is params c.loop-i.i c.index-params-i.result c.loop-i-test.true
    c.index-params-i.is))
    (all-at (λ v. v.0 < c.args.n) (vars_of params) c.loop-i.i (record { 0 = 0 })
    (within-vars params c.loop-i.i c.loop-i-test.true) c.requires.below)

pub assign-requires-clause-id : goal.assign-requires-clause-id
assign-requires-clause-id c = known-at (length c.args.u.now) c.args.kids.now c.loop-i.i
    (omega (arith, c.requires.lengths, c.loop-i-test.true)) c.requires.kids

pub loop-i-preserved : goal.loop-i-preserved
loop-i-preserved c =
    let u = c.args.u.now in
    let old = assigned u c.args.slots.now.ids in
    record {
      known = c.if-not-assign.ensures.known refl;
      filled = each-more u c.args.n old (vars_of c.args.params.now) c.args.kids.now
          (assigned u c.loop-i.slots.ids) (assigned u c.assign.new.slots.ids) c.loop-i.i
          (within-vars c.args.params.now c.loop-i.i c.loop-i-test.true) c.loop-i.invariant.filled
          (subst (λ v. Forced c.args.n (assigned u c.loop-i.slots.ids)
          (assigned u c.assign.new.slots.ids)
          (λ a. Has a v (at u (id_at c.args.kids.now c.loop-i.i).0)))
          (var-is c.args.params.now c.loop-i.i c.index-params-i.result c.loop-i-test.true
          c.index-params-i.is) (c.if-not-assign.ensures.forced refl));
    }

pub returns-then-not-assign : goal.returns-then-not-assign
returns-then-not-assign c =
    let u = c.args.u.now in
    let old = assigned u c.args.slots.now.ids in
    Forces-false (each-refuted u c.args.n old (vars_of c.args.params.now) c.args.kids.now
    (assigned u c.loop-i.slots.ids) c.loop-i.i
    (within-vars c.args.params.now c.loop-i.i c.loop-i-test.true) c.loop-i.invariant.filled
    (subst (λ v. Refuted (assigned u c.loop-i.slots.ids)
    (λ a. Has a v (at u (id_at c.args.kids.now c.loop-i.i).0)))
    (var-is c.args.params.now c.loop-i.i c.index-params-i.result c.loop-i-test.true
    c.index-params-i.is) (c.if-not-assign.ensures.refuted refl)))

pub returns : goal.returns
returns c =
    let u = c.args.u.now in
    let old = assigned u c.args.slots.now.ids in
    Forces-true (each-forced u c.args.n old (vars_of c.args.params.now) c.args.kids.now
    (assigned u c.loop-i.slots.ids) c.loop-i.i (length-vars c.args.params.now ∙ c.requires.lengths)
    (omega (arith, length-vars c.args.params.now, c.loop-i-test.false)) c.loop-i.invariant.filled)
    c.loop-i.invariant.known
