use Rattle.constraint_solver.proofs.Grows.{extends-refl, extends-trans, length-grows, sound-defs-grows}
use Rattle.native_predicate.specs.Lists.{tests}
use Rattle.dialect_registry.specs.ConstantFaults.{IsConstantFault, IsFaultIn}
use Rattle.dialect_registry.proofs.Files.{files-more, files-none}
use Rattle.dialect_registry.proofs.StatementFaults.{in-file-first, in-files-all}
use Rattle.dialect_registry.proofs.Walks.{slice_get-item}
use Rattle.dialect_registry.proofs.constants.judge_constants.Goals as goal

pub loop-number-init : goal.loop-number-init
loop-number-init g c = record {
  grown = extends-refl c.args.u.now;
  first = λ values e sound. files-none (IsFaultIn (IsConstantFault values (tests (λ p. (goal.NativePredicate-dyn g p).property p.1) c.args.ground.now.natives.now)
      c.args.ground.now.types.now) c.args.files.now);
}

pub judge_file-requires : goal.judge_file-requires
judge_file-requires g c =
    record { types = sound-defs-grows (length-grows c.loop-number.invariant.grown) c.requires.types }

pub loop-number-preserved : goal.loop-number-preserved
loop-number-preserved g c =
    let files = c.args.files.now in
    let i = c.loop-number.number in
    let file = c.index-files-number.result in
    record {
      grown = extends-trans c.loop-number.invariant.grown c.judge_file.ensures.later;
      first = λ values e sound.
          let P = IsConstantFault values (tests (λ p. (goal.NativePredicate-dyn g p).property p.1) c.args.ground.now.natives.now) c.args.ground.now.types.now in
          rw c.or_in_file-first.ensures
          (files-more (IsFaultIn P files) i c.loop-number.first c.in_ok-fault.fault
          (c.loop-number.invariant.first values e sound)
          (in-file-first P files i file c.in_ok-fault.fault
          (slice_get-item files i file c.loop-number-test.true c.index-files-number.is)
          (c.in_ok-fault.ensures.first values
          (extends-trans e c.loop-number.invariant.grown) sound)));
    }

pub returns-clause-first : goal.returns-clause-first
returns-clause-first g c = λ values e sound.
    in-files-all (IsConstantFault values (tests (λ p. (goal.NativePredicate-dyn g p).property p.1) c.args.ground.now.natives.now) c.args.ground.now.types.now) c.args.files.now
    c.loop-number.number c.loop-number.first c.loop-number-test.false
    (c.loop-number.invariant.first values e sound)
