use Rattle.native_predicate.specs.Lists.{names, tests}
use Rattle.irdl_engine.specs.Judged.{predicates}
use Rattle.irdl_engine.specs.Words.{texts}
use Rattle.irdl_engine.proofs.ModuleFiles.{file-stops, files-stop}
use Rattle.irdl_engine.proofs.module_file.judge_module.Goals as goal

pub returns-in-Err-judge_file-clause-stopped : goal.returns-in-Err-judge_file-clause-stopped
returns-in-Err-judge_file-clause-stopped g c =
    let natives = predicates
    (names (λ p. (goal.NativePredicate-dyn g p).title p.1) c.args.natives.now)
    (tests (λ p. (goal.NativePredicate-dyn g p).property p.1) c.args.natives.now) in
    file-stops (g.F.Files.file_map c.args.files.now) (g.F.Files.file_map c.load_files.new.files)
    (g.F.Files.steady c.args.files.now) (g.F.Files.steady c.load_files.new.files)
    (g.F.Files.faults c.args.files.now) (g.F.Files.faults c.load_files.new.files)
    (g.F.Files.faults c.judge_file.new.files) natives c.args.name.now (texts c.args.defs.now) _
    c.in-Err-judge_file.stop c.load_files.ensures.same_map c.load_files.ensures.stays_steady
    c.load_files.ensures.later c.in-Ok.ensures.loaded c.in-Err-judge_file.ensures.stopped

pub returns-in-Err-clause-stopped : goal.returns-in-Err-clause-stopped
returns-in-Err-clause-stopped g c =
    let natives = predicates
    (names (λ p. (goal.NativePredicate-dyn g p).title p.1) c.args.natives.now)
    (tests (λ p. (goal.NativePredicate-dyn g p).property p.1) c.args.natives.now) in
    files-stop (g.F.Files.file_map c.args.files.now) natives _ c.args.name.now
    (texts c.args.defs.now) c.in-Err.stop c.in-Err.ensures.stopped
