use Rattle.std.proofs.Common.{◌≡◌, ◌∙◌, ◌<◌, ap, sym, subst, refl, length}
use Rattle.std.specs.List.{AllByRecursion}
use Rattle.native_predicate.specs.Lists.{tests}
use Rattle.dialect_defs.specs.Assignments.{MeetsBody}
use Rattle.constraint_solver.specs.Roots.{assigned, HasRoots, AreKnownIds}
use Rattle.constraint_solver.proofs.Found.{found-nothing, found-none, found-meets, found-has}
use Rattle.constraint_solver.proofs.Found.{known-take, roots-grow}
use Rattle.constraint_solver.proofs.search.solve.Goals as goal

pub assign_roots-requires-clause-vars : goal.assign_roots-requires-clause-vars
assign_roots-requires-clause-vars g c =
    subst (λ vars. AllByRecursion (λ root. root.0.0 < length vars) c.args.roots.now)
    (sym c.as_slice-n.ensures) c.requires.roots.vars

pub returns-then-not-assign_roots-clause-none : goal.returns-then-not-assign_roots-clause-none
returns-then-not-assign_roots-clause-none g c = λ a met.
    let u = c.args.u.now in
    let says = tests (λ p. (g.dyn-1.0.entry p.0).1.property p.1) c.args.natives.now in
    found-nothing u says c.args.body.now (length c.as_slice-n.result.now)
    c.empty_slots-slots.result.ids c.empty_slots-slots.ensures (HasRoots u c.args.roots.now)
    (c.if-not-assign_roots.ensures.refuted refl) a

pub returns-else-solve_below-clause-none : goal.returns-else-solve_below-clause-none
returns-else-solve_below-clause-none g c =
    let u = c.args.u.now in
    let says = tests (λ p. (g.dyn-1.0.entry p.0).1.property p.1) c.args.natives.now in
    found-none u says c.args.body.now (length c.as_slice-n.result.now)
    c.empty_slots-slots.result.ids c.empty_slots-slots.ensures (HasRoots u c.args.roots.now)
    (assigned u c.assign_roots.new.slots.ids) (c.if-not-assign_roots.ensures.forced refl)
    (c.if-solve_below.ensures.refuted refl)

pub returns-then-solve_below-clause-meets : goal.returns-then-solve_below-clause-meets
returns-then-solve_below-clause-meets g c =
    let u = c.args.u.now in
    let says = tests (λ p. (g.dyn-1.0.entry p.0).1.property p.1) c.args.natives.now in
    let same : length c.as_slice-n.result.now ≡ length c.args.body.now.vars =
    ap length c.as_slice-n.ensures in
    subst (λ ids. MeetsBody u says c.args.body.now (assigned u ids)) (sym c.of_first.ensures.ids)
    (found-meets u says c.args.body.now (length c.as_slice-n.result.now)
    c.empty_slots-slots.result.ids c.empty_slots-slots.ensures (HasRoots u c.args.roots.now)
    (assigned u c.assign_roots.new.slots.ids) (c.if-not-assign_roots.ensures.forced refl)
    c.solve_below.new.slots.ids
    (ap length (sym c.of_first.ensures.ids) ∙ c.of_first.ensures.len) same
    (c.if-solve_below.ensures.solved refl))

pub returns-then-solve_below-clause-roots : goal.returns-then-solve_below-clause-roots
returns-then-solve_below-clause-roots g c =
    let u = c.args.u.now in
    let says = tests (λ p. (g.dyn-1.0.entry p.0).1.property p.1) c.args.natives.now in
    let same : length c.as_slice-n.result.now ≡ length c.args.body.now.vars =
    ap length c.as_slice-n.ensures in
    subst (λ ids. HasRoots u c.args.roots.now (assigned u ids)) (sym c.of_first.ensures.ids)
    (found-has u says c.args.body.now (length c.as_slice-n.result.now)
    c.empty_slots-slots.result.ids c.empty_slots-slots.ensures (HasRoots u c.args.roots.now)
    (assigned u c.assign_roots.new.slots.ids) (c.if-not-assign_roots.ensures.forced refl)
    c.solve_below.new.slots.ids
    (ap length (sym c.of_first.ensures.ids) ∙ c.of_first.ensures.len) same
    (c.if-solve_below.ensures.solved refl) (roots-grow u c.args.roots.now))

pub returns-then-solve_below-clause-known : goal.returns-then-solve_below-clause-known
returns-then-solve_below-clause-known g c =
    subst (AreKnownIds (length c.args.u.now)) (sym c.of_first.ensures.ids)
    (known-take (length c.args.u.now) (length c.as_slice-n.result.now) c.solve_below.new.slots.ids
    (c.if-solve_below.ensures.known refl))
