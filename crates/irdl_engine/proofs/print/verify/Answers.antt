use Rattle.std.proofs.Common.{inr, refl}
use Rattle.std.specs.declared.option.Option.TheVariants.{None, Some}
use Rattle.irdl_bytes.specs.Outside.{FaultsByItself}
use Rattle.native_predicate.specs.Lists.{names, tests}
use Rattle.irdl_engine.specs.Command.{Verify}
use Rattle.irdl_engine.specs.Judged.{predicates}
use Rattle.irdl_engine.specs.Words.{texts}
use Rattle.irdl_engine.specs.Writes.{change}
use Rattle.irdl_engine.proofs.Given.{kept, module-stop-given, module-stop-unreadable}
use Rattle.irdl_engine.proofs.Given.{module-stop-usage}
use Rattle.irdl_engine.proofs.Given.{unprinted, verified-given}
use Rattle.irdl_engine.proofs.print.verify.Goals as goal

pub returns-in-Ok : goal.returns-in-Ok
returns-in-Ok g c =
    let told = g.F.Files.file_map c.args.files.now in
    let natives = predicates (names (λ p. (goal.NativePredicate-dyn g p).title p.1)
    c.args.natives.now) (tests (λ p. (goal.NativePredicate-dyn g p).property p.1)
    c.args.natives.now) in
    record {
      planned = verified-given told natives _ c.args.name.now (texts c.args.defs.now) _ _
          (g.O.Sink.written c.args.out.now) (g.E.Sink.written c.args.err.now)
          c.in-Ok.ensures.denoted;
      no_command = λ e. absurd (cc);
      usage = λ e. absurd (cc);
      read_fault = λ e. absurd (cc);
      write_fault = λ e. absurd (cc);
      silent = λ _. kept (g.O.Sink.written c.args.out.now);
      untouched = λ _. refl;
      reads_back = unprinted told natives
          (Some (Verify c.args.name.now (texts c.args.defs.now))) _ _ refl;
    }

pub returns : goal.returns
returns g c =
    let stop = c.in-Err.stop in
    let told = g.F.Files.file_map c.args.files.now in
    let err = change (g.E.Sink.written c.args.err.now) (g.E.Sink.written c.report_module.new.err) in
    let natives = predicates (names (λ p. (goal.NativePredicate-dyn g p).title p.1)
    c.args.natives.now) (tests (λ p. (goal.NativePredicate-dyn g p).property p.1)
    c.args.natives.now) in
    record {
      planned = module-stop-given told natives
          (FaultsByItself (g.F.Files.steady c.args.files.now) (g.F.Files.faults c.args.files.now)
          (g.F.Files.faults c.judge_module.new.files))
          None c.args.name.now (texts c.args.defs.now) c.report_module.result
          (g.O.Sink.written c.args.out.now) err stop c.in-Err.ensures.stopped
          c.report_module.ensures.says;
      no_command = λ e. absurd (cc);
      usage = λ e.
          absurd (module-stop-usage c.args.name.now (texts c.args.defs.now) stop
          c.report_module.result err c.report_module.ensures.says e);
      read_fault = λ e.
          c.in-Err.ensures.read_fault
          (module-stop-unreadable c.args.name.now (texts c.args.defs.now) stop
          c.report_module.result err c.report_module.ensures.says e);
      write_fault = λ e. inr (c.report_module.ensures.fault e);
      silent = λ _. kept (g.O.Sink.written c.args.out.now);
      untouched = λ _. refl;
      reads_back = unprinted told natives
          (Some (Verify c.args.name.now (texts c.args.defs.now))) _ _ refl;
    }
