use Rattle.std.proofs.Common.{◌≡◌, ◌∙◌, Bool, true, false, IsTrue, refl, ap, subst, sym, arith}
use Rattle.std.proofs.Common.{true≢false, length, take}
use Rattle.std.proofs.lemmas.List.{length-take-le}
use Rattle.attr_value.specs.Ids.{kids_at}
use Rattle.attr_value.specs.Values.{list_of}
use Rattle.attr_value.proofs.Kids.{length-kids-at}
use Rattle.dialect_defs.specs.Assignments.{HaveEach}
use Rattle.dialect_defs.specs.Goodness.{vars_of}
use Rattle.native_predicate.specs.Lists.{tests}
use Rattle.constraint_solver.specs.Roots.{assigned}
use Rattle.constraint_solver.proofs.Filled.{have-lengths, length-vars}
use Rattle.constraint_solver.proofs.Found.{found-nothing, found-none, found-meets, found-has}
use Rattle.constraint_solver.proofs.Settled.{each-grows}
use Rattle.constraint_solver.proofs.good.meets_with.Goals as goal

true-unless : (b : Bool) → (b ≡ false → ⊥) → IsTrue b
true-unless true never = refl
true-unless false never = absurd (never refl)

pub returns-then-params-kids : goal.returns-then-params-kids
returns-then-params-kids g c = (
  λ is. absurd (true≢false (sym is)),
  λ instance.
      absurd (c.if-params-kids.true (ap length c.as_slice-params.ensures
      ∙ sym (length-vars c.args.d.now.params)
      ∙ have-lengths instance.assignment (vars_of c.args.d.now.params) _ instance.params
      ∙ length-kids-at c.args.u.now c.args.kids.now)),
)

pub returns-then-not-assign_params : goal.returns-then-not-assign_params
returns-then-not-assign_params g c = (
  λ is. absurd (true≢false (sym is)),
  λ instance.
      let u = c.args.u.now in
      let says = tests (λ p. (g.dyn-1.0.entry p.0).1.property p.1) c.args.natives.now in
      let kids = list_of (kids_at u c.args.kids.now) in
      absurd (found-nothing u says c.args.d.now.body (length c.as_slice-n.result.now)
      c.empty_slots-slots.result.ids c.empty_slots-slots.ensures
      (λ a. HaveEach a (vars_of c.as_slice-params.result.now) kids)
      (c.if-not-assign_params.ensures.refuted refl) instance.assignment
      (subst (λ params. HaveEach instance.assignment (vars_of params) kids)
      (sym c.as_slice-params.ensures) instance.params)),
)

pub returns : goal.returns
returns g c =
    let u = c.args.u.now in
    let says = tests (λ p. (g.dyn-1.0.entry p.0).1.property p.1) c.args.natives.now in
    let kids = list_of (kids_at u c.args.kids.now) in
    let n = length c.as_slice-n.result.now in
    let vars = vars_of c.as_slice-params.result.now in
    let same : n ≡ length c.args.d.now.body.vars = ap length c.as_slice-n.ensures in
    let ids = c.solve_below.new.slots.ids in
    let mid = assigned u c.assign_params.new.slots.ids in
    let firsts : IsTrue c.solve_below.result → length (take n ids) ≡ n = λ is. length-take-le n ids
    (omega (arith, same, c.requires.def.body.few, c.solve_below.ensures.len is)) in (
      λ is. record {
        assignment = assigned u (take n ids);
        meets = found-meets u says c.args.d.now.body n c.empty_slots-slots.result.ids
            c.empty_slots-slots.ensures (λ a. HaveEach a vars kids) mid
            (c.if-not-assign_params.ensures.forced refl) ids (firsts is) same
            (c.solve_below.ensures.solved is);
        params = subst (λ params. HaveEach (assigned u (take n ids)) (vars_of params) kids)
            c.as_slice-params.ensures
            (found-has u says c.args.d.now.body n c.empty_slots-slots.result.ids
            c.empty_slots-slots.ensures (λ a. HaveEach a vars kids) mid
            (c.if-not-assign_params.ensures.forced refl) ids (firsts is) same
            (c.solve_below.ensures.solved is) (λ a b. each-grows a b vars kids));
      },
      λ instance. true-unless c.solve_below.result (λ is.
          found-none u says c.args.d.now.body n c.empty_slots-slots.result.ids
          c.empty_slots-slots.ensures (λ a. HaveEach a vars kids) mid
          (c.if-not-assign_params.ensures.forced refl) (c.solve_below.ensures.refuted is)
          instance.assignment instance.meets
          (subst (λ params. HaveEach instance.assignment (vars_of params) kids)
          (sym c.as_slice-params.ensures) instance.params)),
    )
