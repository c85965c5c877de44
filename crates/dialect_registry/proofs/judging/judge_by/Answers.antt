use Rattle.std.proofs.Common.{take, refl, subst, arith}
use Rattle.native_predicate.specs.Lists.{names}
use Rattle.dialect_registry.specs.DefFaults.{IsFault, dialects_of, world_of}
use Rattle.dialect_registry.specs.Scopes.{HasDialects}
use Rattle.dialect_registry.proofs.Codes.{first-rule}
use Rattle.dialect_registry.proofs.Files.{files-more, files-all, file-first}
use Rattle.dialect_registry.proofs.Seen.{dialects-none}
use Rattle.dialect_registry.proofs.Walks.{flat_map-more, slice_get-item}
use Rattle.dialect_registry.proofs.judging.judge_by.Goals as goal

pub loop-file-init : goal.loop-file-init
loop-file-init g c = record {
  seen = dialects-none c.new-dialects.result c.new-dialects.ensures;
  first = λ n f (below, p). absurd (omega arith);
}

pub loop-file-preserved : goal.loop-file-preserved
loop-file-preserved g c =
    let files = c.args.files.now in
    let natives = names (λ p. (goal.NativePredicate-dyn g p).title p.1) c.args.natives.now in
    let i = c.loop-file.file in
    let defs = c.index-files-file.result in
    let earlier = dialects_of (take i files) in
    let seen = c.loop-file.invariant.seen in
    record {
      seen = subst (λ l. HasDialects l c.judge_file.new.dialects)
          (flat_map-more (λ d. d.dialects) files i defs c.loop-file-test.true c.index-files-file.is)
          (c.in_ok-fault.ensures.seen earlier seen);
      first = rw c.or_in_file-first.ensures
          (files-more (IsFault files natives) i c.loop-file.first c.in_ok-fault.fault
          c.loop-file.invariant.first
          (file-first files natives i defs c.in_ok-fault.fault
          (slice_get-item files i defs c.loop-file-test.true c.index-files-file.is)
          (c.in_ok-fault.ensures.first (world_of files natives) earlier c.requires refl
          seen)));
    }

pub returns-clause-first : goal.returns-clause-first
returns-clause-first g c =
    files-all c.args.files.now _ c.loop-file.file c.loop-file.first c.loop-file-test.false
    c.loop-file.invariant.first

pub returns-clause-rule : goal.returns-clause-rule
returns-clause-rule g c =
    first-rule c.args.files.now _ c.loop-file.first
    (files-all c.args.files.now _ c.loop-file.file c.loop-file.first c.loop-file-test.false
    c.loop-file.invariant.first)
