use Rattle.constraint_solver.proofs.Grows.{extends-refl, extends-trans, length-grows, sound-defs-grows}
use Rattle.native_predicate.specs.Lists.{tests}
use Rattle.dialect_registry.specs.ConstantFaults.{IsConstantFault}
use Rattle.dialect_registry.specs.Parts.{Among}
use Rattle.dialect_registry.proofs.Walks.{among-none, among-more, among-all}
use Rattle.dialect_registry.proofs.constants.judge_dialect.Goals as goal

pub loop-def-init : goal.loop-def-init
loop-def-init g c = record {
  grown = extends-refl c.args.u.now;
  first = λ values e sound. among-none (λ def. Among (λ s. IsConstantFault values (tests (λ p. (goal.NativePredicate-dyn g p).property p.1) c.args.ground.now.natives.now) c.args.ground.now.types.now s.kind) def.statements);
}

pub judge_def-requires : goal.judge_def-requires
judge_def-requires g c =
    record { types = sound-defs-grows (length-grows c.loop-def.invariant.grown) c.requires.types }

pub loop-def-preserved : goal.loop-def-preserved
loop-def-preserved g c = record {
  grown = extends-trans c.loop-def.invariant.grown c.judge_def.ensures.later;
  first = λ values e sound.
      rw c.earlier-first.ensures
      (among-more (λ def. Among (λ s. IsConstantFault values (tests (λ p. (goal.NativePredicate-dyn g p).property p.1) c.args.ground.now.natives.now) c.args.ground.now.types.now s.kind) def.statements)
      c.as_slice-def-items.result.now c.loop-def.def-index c.def-item.result
      c.loop-def.first _ c.loop-def-test.true c.def-item.is
      (c.loop-def.invariant.first values e sound)
      (c.in_ok-judge_def.ensures.first values
      (extends-trans e c.loop-def.invariant.grown) sound));
}

pub returns-clause-first : goal.returns-clause-first
returns-clause-first g c = λ values e sound.
    rw c.as_slice-def-items.ensures at
    (among-all (λ def. Among (λ s. IsConstantFault values (tests (λ p. (goal.NativePredicate-dyn g p).property p.1) c.args.ground.now.natives.now) c.args.ground.now.types.now s.kind) def.statements)
    c.as_slice-def-items.result.now c.loop-def.def-index c.loop-def.first
    c.loop-def.auto.def-index-end c.loop-def-test.false
    (c.loop-def.invariant.first values e sound))
