use Rattle.std.proofs.Common.{◌≡◌, ◌∙◌, sym, subst, List, map, ap, append-nil, append_assoc, ◌++◌, ◌∷◌, []}
use Rattle.constraint_solver.proofs.Grows.{extends-refl, extends-trans}
use Rattle.dialect_registry.proofs.Walks.{whole-take}
use Rattle.generic_syntax.specs.declared.module_cst.BlockCst.{BlockCst}
use Rattle.generic_syntax.specs.declared.cst.ValueCst.{ValueCst}
use Rattle.module_faults.specs.OpFaults.{block_types}
use Rattle.op_judgement.specs.Found.{basis_of, AreArgsFound}
use Rattle.op_judgement.specs.Grounds.{loaded_by}
use Rattle.op_judgement.proofs.Finding.{map-push}
use Rattle.op_judgement.proofs.Grown.{ready-grows, ground-grows}
use Rattle.op_judgement.proofs.args.Args.add_region.Goals as goal

pub loop-block-init : goal.loop-block-init
loop-block-init g c =
    let b = basis_of (λ p. (goal.NativePredicate-dyn g p).property p.1) c.args.env.now in
    record {
      grown = extends-refl c.args.u.now;
      found = λ old al before over x.
          subst (λ (l : List (List ValueCst)). AreArgsFound (loaded_by b old) al l c.args.u.now
          c.args.self.now) (sym (append-nil before)) x;
    }

pub add_block-requires : goal.add_block-requires
add_block-requires g c =
    record { ready = ready-grows c.requires.ready c.loop-block.invariant.grown }

pub loop-block-preserved : goal.loop-block-preserved
loop-block-preserved g c =
    let b = basis_of (λ p. (goal.NativePredicate-dyn g p).property p.1) c.args.env.now in
    let items = c.as_slice-block-items.result.now in
    let i = c.loop-block.block-index in
    let block = c.block-item.result in
    let next = map-push block_types items i block c.loop-block-test.true c.block-item.is in
    record {
      grown = extends-trans c.loop-block.invariant.grown c.add_block.ensures.later;
      found = λ old al before over x.
          let here = ground-grows c.requires.ready over c.loop-block.invariant.grown in
          subst (λ (l : List (List ValueCst)). AreArgsFound (loaded_by b old) al l
          c.add_block.new.u c.add_block.new.self)
          (append_assoc before _ (block_types block ∷ []) ∙ ap (λ l. before ++ l) (sym next))
          (c.in_ok-add_block.ensures.found old al _ here
          (c.loop-block.invariant.found old al before over x));
    }

pub returns-clause-found : goal.returns-clause-found
returns-clause-found g c =
    let b = basis_of (λ p. (goal.NativePredicate-dyn g p).property p.1) c.args.env.now in
    let items = c.as_slice-block-items.result.now in
    λ old al before over x.
    subst (λ (l : List BlockCst). AreArgsFound (loaded_by b old) al (before ++ map block_types l)
    c.loop-block.u c.loop-block.self)
    (whole-take items c.loop-block.block-index c.loop-block.auto.block-index-end
    c.loop-block-test.false ∙ c.as_slice-block-items.ensures)
    (c.loop-block.invariant.found old al before over x)
