use Rattle.std.proofs.Common.{refl}
use Rattle.text_layout.specs.declared.error.PrintError.TheVariants as error
use Rattle.module_meaning.specs.SeenModules.{seen_module}
use Rattle.irdl_engine.specs.Modules.{canonical_text}
use Rattle.irdl_engine.proofs.Wrote.{limit-written, memory-written, part-written, wrote-as}
use Rattle.irdl_engine.proofs.print.write_module.Goals as goal

pub returns-in-Err-WriteFault : goal.returns-in-Err-WriteFault
returns-in-Err-WriteFault g c =
    let ops = c.args.registry.now.ops in
    let text = canonical_text c.args.form ops (seen_module ops c.args.u.now c.args.store.now) in
    let w = g.O.Sink.written c.args.out.now in
    let f = g.O.Sink.faults c.args.out.now in
    let w' = g.O.Sink.written c.lay_module.new.out in
    let f' = g.O.Sink.faults c.lay_module.new.out in
    let e = g.E.Sink.written c.args.err.now in
    let n = g.E.Sink.faults c.args.err.now in
    let wrote = wrote-as w f text w' f' _ error.WriteFault c.in-Err-WriteFault.field-0-is
    c.in-Err-WriteFault.ensures in
    part-written text w w' f f' e e n n wrote.0 wrote.1 wrote.2 refl

pub returns-in-Err-OutputLimit : goal.returns-in-Err-OutputLimit
returns-in-Err-OutputLimit g c =
    let ops = c.args.registry.now.ops in
    let text = canonical_text c.args.form ops (seen_module ops c.args.u.now c.args.store.now) in
    let w = g.O.Sink.written c.args.out.now in
    let f = g.O.Sink.faults c.args.out.now in
    let w' = g.O.Sink.written c.lay_module.new.out in
    let f' = g.O.Sink.faults c.lay_module.new.out in
    let wrote = wrote-as w f text w' f' _ error.OutputLimit c.in-Err-OutputLimit.field-0-is
    c.in-Err-OutputLimit.ensures in
    limit-written text w w' f f' (g.E.Sink.written c.args.err.now)
    (g.E.Sink.written c.report_output_limit.new.err) (g.E.Sink.faults c.args.err.now)
    (g.E.Sink.faults c.report_output_limit.new.err) c.report_output_limit.result wrote.0 wrote.1
    c.report_output_limit.ensures.says c.report_output_limit.ensures.fault

pub returns-in-Err-OutOfMemory : goal.returns-in-Err-OutOfMemory
returns-in-Err-OutOfMemory g c =
    let ops = c.args.registry.now.ops in
    let text = canonical_text c.args.form ops (seen_module ops c.args.u.now c.args.store.now) in
    let w = g.O.Sink.written c.args.out.now in
    let f = g.O.Sink.faults c.args.out.now in
    let w' = g.O.Sink.written c.lay_module.new.out in
    let f' = g.O.Sink.faults c.lay_module.new.out in
    let e = g.E.Sink.written c.args.err.now in
    let n = g.E.Sink.faults c.args.err.now in
    let wrote = wrote-as w f text w' f' _ error.OutOfMemory c.in-Err-OutOfMemory.field-0-is
    c.in-Err-OutOfMemory.ensures in
    memory-written text w w' f f' e e n n wrote refl
