use Rattle.std.proofs.Common.{◌≡◌, ◌∙◌, sym, subst, List, map, ap, append-nil, append_assoc, ◌++◌, ◌∷◌, []}
use Rattle.constraint_solver.proofs.Grows.{extends-refl, extends-trans}
use Rattle.dialect_registry.proofs.Walks.{whole-take}
use Rattle.generic_syntax.specs.declared.module_cst.RegionCst.{RegionCst, out-RegionCst}
use Rattle.generic_syntax.specs.declared.cst.ValueCst.{ValueCst}
use Rattle.module_faults.specs.OpFaults.{block_types}
use Rattle.op_judgement.specs.Found.{basis_of, AreArgsFound}
use Rattle.op_judgement.specs.Grounds.{loaded_by}
use Rattle.op_judgement.specs.Shown.{block_trees}
use Rattle.op_judgement.proofs.Finding.{take-push, block_trees-push}
use Rattle.op_judgement.proofs.Grown.{ready-grows, ground-grows}
use Rattle.op_judgement.proofs.args.Args.add_regions.Goals as goal

pub loop-region-init : goal.loop-region-init
loop-region-init g c =
    let b = basis_of (λ p. (goal.NativePredicate-dyn g p).property p.1) c.args.env.now in
    record {
      grown = extends-refl c.args.u.now;
      found = λ old al before over x.
          subst (λ (l : List (List ValueCst)). AreArgsFound (loaded_by b old) al l c.args.u.now
          c.args.self.now) (sym (append-nil before)) x;
    }

pub add_region-requires : goal.add_region-requires
add_region-requires g c =
    record { ready = ready-grows c.requires.ready c.loop-region.invariant.grown }

pub loop-region-preserved : goal.loop-region-preserved
loop-region-preserved g c =
    let b = basis_of (λ p. (goal.NativePredicate-dyn g p).property p.1) c.args.env.now in
    let items = c.args.regions.now in
    let i = c.loop-region.region-index in
    let region = c.region-item.result in
    let next = ap block_trees (take-push items i region c.loop-region-test.true c.region-item.is)
    ∙ block_trees-push _ region in
    record {
      grown = extends-trans c.loop-region.invariant.grown c.add_region.ensures.later;
      found = λ old al before over x.
          let here = ground-grows c.requires.ready over c.loop-region.invariant.grown in
          subst (λ (l : List (List ValueCst)). AreArgsFound (loaded_by b old) al l
          c.add_region.new.u c.add_region.new.self)
          (append_assoc before _ (map block_types (out-RegionCst region).blocks)
          ∙ ap (λ l. before ++ l) (sym next))
          (c.in_ok-add_region.ensures.found old al _ here
          (c.loop-region.invariant.found old al before over x));
    }

pub returns-clause-found : goal.returns-clause-found
returns-clause-found g c =
    let b = basis_of (λ p. (goal.NativePredicate-dyn g p).property p.1) c.args.env.now in
    λ old al before over x.
    subst (λ (l : List RegionCst). AreArgsFound (loaded_by b old) al (before ++ block_trees l)
    c.loop-region.u c.loop-region.self)
    (whole-take c.args.regions.now c.loop-region.region-index c.loop-region.auto.region-index-end
    c.loop-region-test.false)
    (c.loop-region.invariant.found old al before over x)
