use Rattle.constraint_solver.proofs.Grows.{extends-refl, extends-trans, length-grows, sound-defs-grows}
use Rattle.native_predicate.specs.Lists.{tests}
use Rattle.dialect_registry.specs.ConstantFaults.{IsConstantFault}
use Rattle.dialect_registry.proofs.Walks.{among-none, among-more, among-all}
use Rattle.dialect_registry.proofs.constants.judge_def.Goals as goal

pub loop-statement-init : goal.loop-statement-init
loop-statement-init g c = record {
  grown = extends-refl c.args.u.now;
  first = λ values e sound. among-none (λ s. IsConstantFault values (tests (λ p. (goal.NativePredicate-dyn g p).property p.1) c.args.ground.now.natives.now) c.args.ground.now.types.now s.kind);
}

pub judge_statement-requires : goal.judge_statement-requires
judge_statement-requires g c =
    record { types = sound-defs-grows (length-grows c.loop-statement.invariant.grown) c.requires.types }

pub loop-statement-preserved : goal.loop-statement-preserved
loop-statement-preserved g c = record {
  grown = extends-trans c.loop-statement.invariant.grown c.judge_statement.ensures.later;
  first = λ values e sound.
      rw c.earlier-first.ensures
      (among-more (λ s. IsConstantFault values (tests (λ p. (goal.NativePredicate-dyn g p).property p.1) c.args.ground.now.natives.now) c.args.ground.now.types.now s.kind)
      c.as_slice-statement-items.result.now c.loop-statement.statement-index c.statement-item.result
      c.loop-statement.first _ c.loop-statement-test.true c.statement-item.is
      (c.loop-statement.invariant.first values e sound)
      (c.in_ok-judge_statement.ensures.first values
      (extends-trans e c.loop-statement.invariant.grown) sound));
}

pub returns-clause-first : goal.returns-clause-first
returns-clause-first g c = λ values e sound.
    rw c.as_slice-statement-items.ensures at
    (among-all (λ s. IsConstantFault values (tests (λ p. (goal.NativePredicate-dyn g p).property p.1) c.args.ground.now.natives.now) c.args.ground.now.types.now s.kind)
    c.as_slice-statement-items.result.now c.loop-statement.statement-index c.loop-statement.first
    c.loop-statement.auto.statement-index-end c.loop-statement-test.false
    (c.loop-statement.invariant.first values e sound))
