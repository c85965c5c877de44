use Rattle.std.proofs.Common.{◌∙◌, List, subst, sym}
use Rattle.derived_printer.specs.ModuleMarks.{form_marks, module_marks}
use Rattle.dialect_defs.specs.declared.definition.OpDef.{OpDef}
use Rattle.module_meaning.specs.SeenModules.{seen_module}
use Rattle.text_layout.specs.Moment.{Lays, Moment, Wrote}
use Rattle.text_layout.specs.OfLayout.{moment}
use Rattle.text_layout.proofs.Laying.{whole}
use Rattle.irdl_engine.specs.Modules.{canonical_text}
use Rattle.irdl_engine.proofs.print.lay_module.Goals as goal

pub returns : goal.returns
returns g c =
    let w = g.O.Sink.written c.args.out.now in
    let f = g.O.Sink.faults c.args.out.now in
    let marks = module_marks (form_marks c.args.form c.ops.result.now)
    (seen_module c.ops.result.now c.args.u.now c.args.store.now) in
    let laid = subst (λ (x : Moment). Lays x marks c.print.result
    (moment g.O.Sink.written g.O.Sink.faults c.print.new.layout)) c.new-layout.ensures.fresh
    c.print.ensures.lays in
    let wrote = whole w (g.O.Sink.written c.end.new.self.0) f (g.O.Sink.faults c.end.new.self.0)
    marks _ c.print.result c.end.result laid c.end.ensures.ended in
    let ends = c.out-1.given.1 (sym (c.print.ensures.same_sink ∙ c.new-layout.ensures.same_sink)) in
    subst (λ out. Wrote w f (canonical_text c.args.form c.args.registry.now.ops
    (seen_module c.args.registry.now.ops c.args.u.now c.args.store.now)) c.end.result
    (g.O.Sink.written out) (g.O.Sink.faults out)) (sym ends)
    (subst (λ (ops : List OpDef). Wrote w f (canonical_text c.args.form ops
    (seen_module ops c.args.u.now c.args.store.now)) c.end.result
    (g.O.Sink.written c.end.new.self.0) (g.O.Sink.faults c.end.new.self.0)) c.ops.ensures wrote)
