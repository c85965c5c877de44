use Rattle.constraint_solver.proofs.Grows.{extends-refl, extends-trans, length-grows, sound-defs-grows}
use Rattle.native_predicate.specs.Lists.{tests}
use Rattle.dialect_registry.specs.ConstantFaults.{IsConstantFault}
use Rattle.dialect_registry.specs.Parts.{Among}
use Rattle.dialect_registry.proofs.Walks.{among-none, among-more, among-all}
use Rattle.dialect_registry.proofs.constants.judge_file.Goals as goal

pub loop-dialect-init : goal.loop-dialect-init
loop-dialect-init g c = record {
  grown = extends-refl c.args.u.now;
  first = λ values e sound. among-none (λ dialect. Among (λ def. Among (λ s. IsConstantFault values (tests (λ p. (goal.NativePredicate-dyn g p).property p.1) c.args.ground.now.natives.now) c.args.ground.now.types.now s.kind) def.statements) dialect.defs);
}

pub judge_dialect-requires : goal.judge_dialect-requires
judge_dialect-requires g c =
    record { types = sound-defs-grows (length-grows c.loop-dialect.invariant.grown) c.requires.types }

pub loop-dialect-preserved : goal.loop-dialect-preserved
loop-dialect-preserved g c = record {
  grown = extends-trans c.loop-dialect.invariant.grown c.judge_dialect.ensures.later;
  first = λ values e sound.
      rw c.earlier-first.ensures
      (among-more (λ dialect. Among (λ def. Among (λ s. IsConstantFault values (tests (λ p. (goal.NativePredicate-dyn g p).property p.1) c.args.ground.now.natives.now) c.args.ground.now.types.now s.kind) def.statements) dialect.defs)
      c.as_slice-dialect-items.result.now c.loop-dialect.dialect-index c.dialect-item.result
      c.loop-dialect.first _ c.loop-dialect-test.true c.dialect-item.is
      (c.loop-dialect.invariant.first values e sound)
      (c.in_ok-judge_dialect.ensures.first values
      (extends-trans e c.loop-dialect.invariant.grown) sound));
}

pub returns-clause-first : goal.returns-clause-first
returns-clause-first g c = λ values e sound.
    rw c.as_slice-dialect-items.ensures at
    (among-all (λ dialect. Among (λ def. Among (λ s. IsConstantFault values (tests (λ p. (goal.NativePredicate-dyn g p).property p.1) c.args.ground.now.natives.now) c.args.ground.now.types.now s.kind) def.statements) dialect.defs)
    c.as_slice-dialect-items.result.now c.loop-dialect.dialect-index c.loop-dialect.first
    c.loop-dialect.auto.dialect-index-end c.loop-dialect-test.false
    (c.loop-dialect.invariant.first values e sound))
