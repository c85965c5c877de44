use Rattle.std.proofs.Common.{inr, refl}
use Rattle.std.specs.declared.option.Option.TheVariants.{Some}
use Rattle.irdl_bytes.specs.Outside.{FaultsByItself}
use Rattle.native_predicate.specs.Lists.{names, tests}
use Rattle.irdl_engine.specs.Command.{Check}
use Rattle.irdl_engine.specs.Judged.{predicates}
use Rattle.irdl_engine.specs.Words.{texts}
use Rattle.irdl_engine.specs.Writes.{change}
use Rattle.irdl_engine.proofs.Given.{done-given, kept, stop-given, stop-unreadable, stop-usage}
use Rattle.irdl_engine.proofs.Given.{unprinted}
use Rattle.irdl_engine.proofs.Judging.{check-answers, loaded-answers}
use Rattle.irdl_engine.proofs.check.check.Goals as goal

pub returns-in-Ok : goal.returns-in-Ok
returns-in-Ok g c =
    let told = g.F.Files.file_map c.args.files.now in
    let natives = predicates (names (λ p. (goal.NativePredicate-dyn g p).title p.1)
    c.args.natives.now) (tests (λ p. (goal.NativePredicate-dyn g p).property p.1)
    c.args.natives.now) in
    record {
      planned = done-given told natives _ (Some (Check (texts c.args.defs.now)))
          (g.O.Sink.written c.args.out.now) (g.E.Sink.written c.args.err.now)
          (loaded-answers told natives _ (texts c.args.defs.now) _ c.in-Ok.ensures.loaded);
      no_command = λ e. absurd (cc);
      usage = λ e. absurd (cc);
      read_fault = λ e. absurd (cc);
      write_fault = λ e. absurd (cc);
      silent = λ _. kept (g.O.Sink.written c.args.out.now);
      untouched = λ _. refl;
      reads_back = unprinted told natives (Some (Check (texts c.args.defs.now))) _ _ refl;
    }

pub returns : goal.returns
returns g c =
    let stop = c.in-Err.stop in
    let told = g.F.Files.file_map c.args.files.now in
    let err = change (g.E.Sink.written c.args.err.now) (g.E.Sink.written c.report.new.err) in
    let natives = predicates (names (λ p. (goal.NativePredicate-dyn g p).title p.1)
    c.args.natives.now) (tests (λ p. (goal.NativePredicate-dyn g p).property p.1)
    c.args.natives.now) in
    record {
      planned = stop-given told natives
          (FaultsByItself (g.F.Files.steady c.args.files.now) (g.F.Files.faults c.args.files.now)
          (g.F.Files.faults c.load_files.new.files))
          (Some (Check (texts c.args.defs.now))) (texts c.args.defs.now) c.report.result
          (g.O.Sink.written c.args.out.now) err stop
          (check-answers told natives _ (texts c.args.defs.now) stop c.in-Err.ensures.stopped)
          c.report.ensures.says;
      no_command = λ e. absurd (cc);
      usage = λ e.
          absurd (stop-usage (texts c.args.defs.now) stop c.report.result err
          c.report.ensures.says e);
      read_fault = λ e.
          c.in-Err.ensures.read_fault
          (stop-unreadable (texts c.args.defs.now) stop c.report.result err c.report.ensures.says e);
      write_fault = λ e. inr (c.report.ensures.fault e);
      silent = λ _. kept (g.O.Sink.written c.args.out.now);
      untouched = λ _. refl;
      reads_back = unprinted told natives (Some (Check (texts c.args.defs.now))) _ _ refl;
    }
