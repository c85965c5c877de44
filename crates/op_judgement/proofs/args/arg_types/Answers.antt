use Rattle.std.proofs.Common.{◌≡◌, ◌∙◌, sym, subst, List, map, ap}
use Rattle.constraint_solver.proofs.Grows.{extends-refl, extends-trans}
use Rattle.dialect_registry.proofs.Walks.{whole-take}
use Rattle.generic_syntax.specs.declared.module_cst.ArgCst.{ArgCst}
use Rattle.op_judgement.specs.Found.{basis_of, AreFound, IsFound}
use Rattle.op_judgement.specs.Grounds.{loaded_by}
use Rattle.op_judgement.proofs.Finding.{found-none, found-value, found-fault, map-push}
use Rattle.op_judgement.proofs.Grown.{ready-grows, ground-grows}
use Rattle.op_judgement.proofs.args.arg_types.Goals as goal
use Rattle.op_judgement.proofs.args.arg_types.Goals.{in-Ok+in_ok-push-in-Ok, in-Err}

pub loop-arg-init : goal.loop-arg-init
loop-arg-init g c = record {
  grown = extends-refl c.args.u.now;
  found = λ old al over. rw c.new-ids.ensures (found-none c.args.u.now);
}

pub tree_value-requires : goal.tree_value-requires
tree_value-requires g c = record { ready = ready-grows c.requires.ready c.loop-arg.invariant.grown }

pub loop-arg-preserved : goal.loop-arg-preserved
loop-arg-preserved g c =
    let args = c.args.args.now in
    let i = c.loop-arg.arg-index in
    let arg = c.arg-item.result in
    let next = map-push (λ (x : ArgCst). x.ty) args i arg c.loop-arg-test.true c.arg-item.is in
    let later = c.tree_value.ensures.later in
    let b = basis_of (λ p. (goal.NativePredicate-dyn g p).property p.1) c.args.env.now in
    elim c.match-branch-2.branch [
      | in-Ok+in_ok-push-in-Ok w ↦
          let pushed = w.in_ok-push-in-Ok.ensures.ok in
          rw (w.ids-is, pushed, w.first-is, next) (record {
            grown = extends-trans c.loop-arg.invariant.grown later;
            found = λ old al over.
                let here = ground-grows c.requires.ready over c.loop-arg.invariant.grown in
                found-value later (c.loop-arg.invariant.found old al over)
                (subst (IsFound (loaded_by b old) al arg.ty c.tree_value.new.u) w.in-Ok.is
                (c.in_ok-id.ensures.found old al here));
          })
      | in-Err w ↦
          rw (w.ids-is, w.first-is, w.earlier-first.ensures, next) (record {
            grown = extends-trans c.loop-arg.invariant.grown later;
            found = λ old al over.
                let here = ground-grows c.requires.ready over c.loop-arg.invariant.grown in
                found-fault c.tree_value.new.u arg.ty (c.loop-arg.invariant.found old al over)
                (subst (IsFound (loaded_by b old) al arg.ty c.tree_value.new.u) w.in-Err.is
                (c.in_ok-id.ensures.found old al here));
          })
    ]

pub returns-clause-found : goal.returns-clause-found
returns-clause-found g c =
    let b = basis_of (λ p. (goal.NativePredicate-dyn g p).property p.1) c.args.env.now in
    λ old al over.
    subst (λ (l : List ArgCst). AreFound (loaded_by b old) al (map (λ (x : ArgCst). x.ty) l)
    c.loop-arg.u c.loop-arg.ids c.loop-arg.first)
    (whole-take c.args.args.now c.loop-arg.arg-index c.loop-arg.auto.arg-index-end
    c.loop-arg-test.false) (c.loop-arg.invariant.found old al over)
