use Rattle.std.proofs.Common.{inr, refl}
use Rattle.std.specs.declared.option.Option.TheVariants.{Some}
use Rattle.irdl_bytes.specs.Outside.{FaultsByItself}
use Rattle.native_predicate.specs.Lists.{names, tests}
use Rattle.irdl_engine.specs.Command.{Print}
use Rattle.irdl_engine.specs.Judged.{predicates}
use Rattle.irdl_engine.specs.Obeyed.{sink_seen}
use Rattle.irdl_engine.specs.declared.status.Status.TheVariants.{ReadFault, Usage}
use Rattle.irdl_engine.specs.Words.{texts}
use Rattle.irdl_engine.specs.Writes.{change}
use Rattle.irdl_engine.proofs.Given.{kept, module-stop-ends, module-stop-given}
use Rattle.irdl_engine.proofs.Given.{module-stop-unreadable}
use Rattle.irdl_engine.proofs.Given.{module-stop-usage, printed-again, printed-given, printing-no}
use Rattle.irdl_engine.proofs.Given.{prints-or-not, some-none, unfinished}
use Rattle.irdl_engine.proofs.print.print_module.Goals as goal

pub returns-in-Ok : goal.returns-in-Ok
returns-in-Ok g c =
    let told = g.F.Files.file_map c.args.files.now in
    let natives = predicates (names (λ p. (goal.NativePredicate-dyn g p).title p.1)
    c.args.natives.now) (tests (λ p. (goal.NativePredicate-dyn g p).property p.1)
    c.args.natives.now) in
    record {
      planned = printed-given told natives _ c.args.form c.args.name.now (texts c.args.defs.now) _ _
          c.write_module.result
          (sink_seen g.O.Sink.written g.O.Sink.faults c.args.out.now c.write_module.new.out)
          (sink_seen g.E.Sink.written g.E.Sink.faults c.args.err.now c.write_module.new.err)
          c.in-Ok.ensures.denoted c.write_module.ensures;
      no_command = λ e. some-none (Print c.args.form c.args.name.now (texts c.args.defs.now)) e;
      usage = λ e. printing-no c.write_module.result Usage refl c.write_module.ensures.printing e;
      read_fault = λ e.
          printing-no c.write_module.result ReadFault refl c.write_module.ensures.printing e;
      write_fault = λ e. c.write_module.ensures.cause e;
      silent = λ e. absurd (prints-or-not c.write_module.result e c.write_module.ensures.printing);
      untouched = λ e.
          absurd (prints-or-not c.write_module.result e c.write_module.ensures.printing);
      reads_back = printed-again told natives c.args.form c.args.name.now
          (texts c.args.defs.now) _ _ c.write_module.result
          (sink_seen g.O.Sink.written g.O.Sink.faults c.args.out.now c.write_module.new.out)
          (sink_seen g.E.Sink.written g.E.Sink.faults c.args.err.now c.write_module.new.err)
          c.in-Ok.ensures.denoted c.write_module.ensures;
    }

pub returns : goal.returns
returns g c =
    let stop = c.in-Err.stop in
    let told = g.F.Files.file_map c.args.files.now in
    let err = change (g.E.Sink.written c.args.err.now) (g.E.Sink.written c.report_module.new.err) in
    let natives = predicates (names (λ p. (goal.NativePredicate-dyn g p).title p.1)
    c.args.natives.now) (tests (λ p. (goal.NativePredicate-dyn g p).property p.1)
    c.args.natives.now) in
    record {
      planned = module-stop-given told natives
          (FaultsByItself (g.F.Files.steady c.args.files.now) (g.F.Files.faults c.args.files.now)
          (g.F.Files.faults c.judge_module.new.files))
          (Some c.args.form) c.args.name.now (texts c.args.defs.now) c.report_module.result
          (g.O.Sink.written c.args.out.now) err stop c.in-Err.ensures.stopped
          c.report_module.ensures.says;
      no_command = λ e. some-none (Print c.args.form c.args.name.now (texts c.args.defs.now)) e;
      usage = λ e.
          absurd (module-stop-usage c.args.name.now (texts c.args.defs.now) stop
          c.report_module.result err c.report_module.ensures.says e);
      read_fault = λ e.
          c.in-Err.ensures.read_fault
          (module-stop-unreadable c.args.name.now (texts c.args.defs.now) stop
          c.report_module.result err c.report_module.ensures.says e);
      write_fault = λ e. inr (c.report_module.ensures.fault e);
      silent = λ _. kept (g.O.Sink.written c.args.out.now);
      untouched = λ _. refl;
      reads_back = unfinished told natives
          (Some (Print c.args.form c.args.name.now (texts c.args.defs.now))) _ _
          (module-stop-ends c.args.name.now (texts c.args.defs.now) stop c.report_module.result err
          c.report_module.ensures.says);
    }
