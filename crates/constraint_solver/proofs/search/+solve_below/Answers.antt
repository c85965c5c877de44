use Rattle.std.proofs.Common.{◌≡◌, ◌∙◌, ℕ, ◌<◌, ◌-◌, sym, ap, subst, refl, arith}
use Rattle.std.proofs.Common.{below_more, List}
use Rattle.std.proofs.lemmas.List.Elements.{Contains-get_or}
use Rattle.std.specs.Prelude.{slice_get, slice_index_or}
use Rattle.std.specs.declared.option.Option.{Option}
use Rattle.std.specs.declared.option.Option.TheVariants.{Some, None}
use Rattle.attr_value.specs.declared.head.ValueId.{ValueId}
use Rattle.attr_value.specs.Ids.{at}
use Rattle.attr_value.specs.Values.{Value}
use Rattle.dialect_defs.specs.declared.body.Constraint.TheVariants.{AnyOf}
use Rattle.dialect_defs.specs.Assignments.{Has}
use Rattle.dialect_defs.specs.Bodies.{AreBelow}
use Rattle.native_predicate.specs.Lists.{tests}
use Rattle.constraint_solver.specs.Roots.{assigned}
use Rattle.constraint_solver.specs.Search.{Forced, Refuted}
use Rattle.constraint_solver.proofs.Given.{has-slot, slot-has}
use Rattle.constraint_solver.proofs.Filled.{var_at, all-at}
use Rattle.constraint_solver.proofs.Settled.{direct, skip, skip-refuted, kept-refuted}
use Rattle.constraint_solver.proofs.Settled.{then-refuted, then-solved, members-refuted}
use Rattle.constraint_solver.proofs.Tried.{MemberRefuted, member-taken}
use Rattle.constraint_solver.proofs.search.+solve_below.Goals as goal

-- a slot that is empty has no value
bare : (values : List Value) (ids : List (Option ValueId)) (v : ℕ)
    → ((id : ValueId) → slice_index_or ids v None ≡ Some id → ⊥) → (x : Value)
    → Has (assigned values ids) (record { 0 = v }) x → ⊥
bare values ids v none x has =
    let slot = slot-has values ids (record { 0 = v }) x has in
    none slot.id slot.stands

pub returns-in_default-clause-solved : goal.returns-in_default-clause-solved
returns-in_default-clause-solved g t c = λ is.
    let u = c.args.u.now in
    let says = tests (λ p. (g.dyn-1.0.entry p.0).1.property p.1) c.args.natives.now in
    let v = c.args.n - 1 in
    skip u says c.args.body.now v c.args.n (omega arith) (assigned u c.args.slots.now.ids)
    (assigned u c.solve_below.new.slots.ids)
    (bare u c.args.slots.now.ids v c.in_default.not-Some) (c.solve_below.ensures.solved is)

pub returns-in_default-clause-refuted : goal.returns-in_default-clause-refuted
returns-in_default-clause-refuted g t c = λ is.
    let u = c.args.u.now in
    let says = tests (λ p. (g.dyn-1.0.entry p.0).1.property p.1) c.args.natives.now in
    skip-refuted u says c.args.body.now (c.args.n - 1) c.args.n (omega arith)
    (assigned u c.args.slots.now.ids) (c.solve_below.ensures.refuted is)

pub assign-requires-clause-below : goal.assign-requires-clause-below
assign-requires-clause-below g t c =
    let v = c.args.n - 1 in
    let is : slice_get c.args.body.now.vars v ≡ Some (AnyOf c.in-AnyOf.members) =
    c.constraint_at.ensures ∙ ap Some c.in-AnyOf.is in
    let sound : AreBelow v c.in-AnyOf.members =
    c.requires.body.each v (AnyOf c.in-AnyOf.members) is in
    all-at (λ w. w.0 < v) c.as_slice-member-items.result.now c.loop-member.member-index
    (record { 0 = 0 }) c.loop-member-test.true
    (subst (AreBelow v) (sym c.as_slice-member-items.ensures) sound)

pub loop-member-preserved-then-not-assign : goal.loop-member-preserved-then-not-assign
loop-member-preserved-then-not-assign g t c =
    let u = c.args.u.now in
    let says = tests (λ p. (g.dyn-1.0.entry p.0).1.property p.1) c.args.natives.now in
    let v = c.args.n - 1 in
    let old = assigned u c.args.slots.now.ids in
    let items = c.as_slice-member-items.result.now in
    let m = var_at items c.loop-member.member-index in
    let x = at u c.in-Some.id.0 in
    let r : Refuted old (λ a. Has a m x) =
    subst (λ ids. Refuted (assigned u ids) (λ a. Has a m x)) c.loop-member.invariant.same
    (c.if-not-assign.ensures.refuted refl) in
    record {
      same = c.loop-member.invariant.same;
      tried = below_more (λ k. MemberRefuted v u says c.args.body.now old (var_at items k) x)
          c.loop-member.member-index c.loop-member.invariant.tried (λ a under h. r a under h.0);
    }

pub loop-member-preserved : goal.loop-member-preserved
loop-member-preserved g t c =
    let u = c.args.u.now in
    let says = tests (λ p. (g.dyn-1.0.entry p.0).1.property p.1) c.args.natives.now in
    let v = c.args.n - 1 in
    let old = assigned u c.args.slots.now.ids in
    let mid = assigned u c.assign.new.slots.ids in
    let items = c.as_slice-member-items.result.now in
    let m = var_at items c.loop-member.member-index in
    let x = at u c.in-Some.id.0 in
    let f : Forced v old mid (λ a. Has a m x) =
    subst (λ ids. Forced v (assigned u ids) mid (λ a. Has a m x))
    c.loop-member.invariant.same (c.if-not-assign.ensures.forced refl) in
    record {
      same = c.loop-member.invariant.same;
      tried = below_more (λ k. MemberRefuted v u says c.args.body.now old (var_at items k) x)
          c.loop-member.member-index c.loop-member.invariant.tried
          (member-taken v u says c.args.body.now old mid m x f
          (c.if-solve_below.ensures.refuted refl));
    }

pub returns-then-solve_below-clause-solved : goal.returns-then-solve_below-clause-solved
returns-then-solve_below-clause-solved g t c = λ is.
    let u = c.args.u.now in
    let says = tests (λ p. (g.dyn-1.0.entry p.0).1.property p.1) c.args.natives.now in
    let v = c.args.n - 1 in
    let old = assigned u c.args.slots.now.ids in
    let mid = assigned u c.assign.new.slots.ids in
    let items = c.as_slice-member-items.result.now in
    let m = var_at items c.loop-member.member-index in
    let x = at u c.in-Some.id.0 in
    let f : Forced v old mid (λ a. Has a m x) =
    subst (λ ids. Forced v (assigned u ids) mid (λ a. Has a m x))
    c.loop-member.invariant.same (c.if-not-assign.ensures.forced refl) in
    then-solved u says c.args.body.now v c.args.n (omega arith) (AnyOf items) x
    (c.constraint_at.ensures
    ∙ ap Some (c.in-AnyOf.is ∙ ap AnyOf (sym c.as_slice-member-items.ensures)))
    old mid (assigned u c.solve_below-in-loop-member.new.slots.ids)
    (has-slot u c.args.slots.now.ids (record { 0 = v }) c.in-Some.id c.in-Some.is) f.grown f.above (
      m,
      Contains-get_or items c.loop-member.member-index (record { 0 = 0 }) c.loop-member-test.true,
      f.holds,
    ) (c.if-solve_below.ensures.solved refl)

pub returns-after-loop-member-clause-refuted : goal.returns-after-loop-member-clause-refuted
returns-after-loop-member-clause-refuted g t c = λ is.
    let u = c.args.u.now in
    let says = tests (λ p. (g.dyn-1.0.entry p.0).1.property p.1) c.args.natives.now in
    let v = c.args.n - 1 in
    let items = c.as_slice-member-items.result.now in
    members-refuted u says c.args.body.now v c.args.n (omega arith) items (at u c.in-Some.id.0)
    (assigned u c.args.slots.now.ids)
    (c.constraint_at.ensures
    ∙ ap Some (c.in-AnyOf.is ∙ ap AnyOf (sym c.as_slice-member-items.ensures)))
    (has-slot u c.args.slots.now.ids (record { 0 = v }) c.in-Some.id c.in-Some.is)
    (λ k within. c.loop-member.invariant.tried k (omega arith))

pub force-requires : goal.force-requires
force-requires g t c = record {
  direct = direct c.constraint_at.result.now c.in_default-constraint_at.not-AnyOf;
  sound = c.requires.body.each (c.args.n - 1) c.constraint_at.result.now c.constraint_at.ensures;
  slots = c.requires.slots;
  id = c.requires.slots (c.args.n - 1) c.in-Some.id c.in-Some.is;
  within = omega (arith, c.requires.body.few);
}

pub returns-then-not-force-clause-refuted : goal.returns-then-not-force-clause-refuted
returns-then-not-force-clause-refuted g t c = λ is.
    let u = c.args.u.now in
    let says = tests (λ p. (g.dyn-1.0.entry p.0).1.property p.1) c.args.natives.now in
    let v = c.args.n - 1 in
    kept-refuted u says c.args.body.now v c.args.n (omega arith) c.constraint_at.result.now
    (at u c.in-Some.id.0) c.constraint_at.ensures (assigned u c.args.slots.now.ids)
    (has-slot u c.args.slots.now.ids (record { 0 = v }) c.in-Some.id c.in-Some.is)
    (c.if-not-force.ensures.refuted refl)

pub returns-else-not-force-clause-solved : goal.returns-else-not-force-clause-solved
returns-else-not-force-clause-solved g t c = λ is.
    let u = c.args.u.now in
    let says = tests (λ p. (g.dyn-1.0.entry p.0).1.property p.1) c.args.natives.now in
    let v = c.args.n - 1 in
    let f = c.if-not-force.ensures.forced refl in
    then-solved u says c.args.body.now v c.args.n (omega arith) c.constraint_at.result.now
    (at u c.in-Some.id.0) c.constraint_at.ensures (assigned u c.args.slots.now.ids)
    (assigned u c.force.new.slots.ids)
    (assigned u c.solve_below-in_default-constraint_at.new.slots.ids)
    (has-slot u c.args.slots.now.ids (record { 0 = v }) c.in-Some.id c.in-Some.is)
    f.grown f.above f.holds (c.solve_below-in_default-constraint_at.ensures.solved is)

pub returns-else-not-force-clause-refuted : goal.returns-else-not-force-clause-refuted
returns-else-not-force-clause-refuted g t c = λ is.
    let u = c.args.u.now in
    let says = tests (λ p. (g.dyn-1.0.entry p.0).1.property p.1) c.args.natives.now in
    let v = c.args.n - 1 in
    then-refuted u says c.args.body.now v c.args.n (omega arith) c.constraint_at.result.now
    (at u c.in-Some.id.0) c.constraint_at.ensures (assigned u c.args.slots.now.ids)
    (assigned u c.force.new.slots.ids)
    (has-slot u c.args.slots.now.ids (record { 0 = v }) c.in-Some.id c.in-Some.is)
    (c.if-not-force.ensures.forced refl)
    (c.solve_below-in_default-constraint_at.ensures.refuted is)
