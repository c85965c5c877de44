use Rattle.std.proofs.Common.{◌≡◌, ◌∙◌, sym, subst, List, length}
use Rattle.attr_value.specs.Ids.{AreKnown}
use Rattle.constraint_solver.proofs.Grows.{extends-refl, extends-trans, known-grows}
use Rattle.dialect_registry.proofs.Walks.{whole-take}
use Rattle.op_judgement.specs.Found.{basis_of, AreFound, IsFound}
use Rattle.op_judgement.specs.Grounds.{loaded_by}
use Rattle.op_judgement.proofs.Finding.{found-none, found-value, found-fault, known-push, take-push}
use Rattle.op_judgement.proofs.Grown.{ready-grows, ground-grows}
use Rattle.op_judgement.proofs.types.types.Goals as goal
use Rattle.op_judgement.proofs.types.types.Goals.{in-Ok+in_ok-push-in-Ok, in-Err}

pub loop-tree-init : goal.loop-tree-init
loop-tree-init g c = record {
  grown = extends-refl c.args.u.now;
  known = rw c.new-ids.ensures.items tt;
  found = λ old al over. rw c.new-ids.ensures.items (found-none c.args.u.now);
}

pub tree_value-requires : goal.tree_value-requires
tree_value-requires g c = record { ready = ready-grows c.requires.ready c.loop-tree.invariant.grown }

pub loop-tree-preserved : goal.loop-tree-preserved
loop-tree-preserved g c =
    let trees = c.args.trees.now in
    let i = c.loop-tree.tree-index in
    let tree = c.tree-item.result in
    let next = take-push trees i tree c.loop-tree-test.true c.tree-item.is in
    let later = c.tree_value.ensures.later in
    let b = basis_of (λ p. (goal.NativePredicate-dyn g p).property p.1) c.args.env.now in
    elim c.match-branch-2.branch [
      | in-Ok+in_ok-push-in-Ok w ↦
          let pushed = w.in_ok-push-in-Ok.ensures.ok in
          rw (w.ids-is, pushed, w.first-is, next) (record {
            grown = extends-trans c.loop-tree.invariant.grown later;
            known = known-push (length c.tree_value.new.u) c.loop-tree.ids.items w.in-Ok.id
                (known-grows later c.loop-tree.ids.items c.loop-tree.invariant.known)
                (rw w.in-Ok.is at c.in_ok-id.ensures.known);
            found = λ old al over.
                let here = ground-grows c.requires.ready over c.loop-tree.invariant.grown in
                found-value later (c.loop-tree.invariant.found old al over)
                (subst (IsFound (loaded_by b old) al tree c.tree_value.new.u) w.in-Ok.is
                (c.in_ok-id.ensures.found old al here));
          })
      | in-Err w ↦
          rw (w.ids-is, w.first-is, w.earlier-first.ensures, next) (record {
            grown = extends-trans c.loop-tree.invariant.grown later;
            known = known-grows later c.loop-tree.ids.items c.loop-tree.invariant.known;
            found = λ old al over.
                let here = ground-grows c.requires.ready over c.loop-tree.invariant.grown in
                found-fault c.tree_value.new.u tree (c.loop-tree.invariant.found old al over)
                (subst (IsFound (loaded_by b old) al tree c.tree_value.new.u) w.in-Err.is
                (c.in_ok-id.ensures.found old al here));
          })
    ]

pub returns-clause-found : goal.returns-clause-found
returns-clause-found g c = λ old al over.
    subst (λ l. AreFound (loaded_by (basis_of (λ p. (goal.NativePredicate-dyn g p).property p.1) c.args.env.now) old) al l c.loop-tree.u c.loop-tree.ids.items c.loop-tree.first)
    (whole-take c.args.trees.now c.loop-tree.tree-index c.loop-tree.auto.tree-index-end
    c.loop-tree-test.false) (c.loop-tree.invariant.found old al over)
