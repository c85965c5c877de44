use Rattle.std.proofs.Common.{map, drop}
use Rattle.ir_lexer.specs.declared.class.Class.TheVariants as c
use Rattle.derived_printer.specs.ModuleMarks.{count_from}
use Rattle.derived_printer.specs.ModuleParts.{all_types, argument_at}
use Rattle.derived_printer.specs.Parts.{from_place}
use Rattle.derived_printer.specs.ValueMarks.{commas}
use Rattle.derived_printer.proofs.Loops.{Went}
use Rattle.derived_printer.proofs.labels.argument_list.Given as goal

abbrev pub invariant-loop-i : goal.invariant-loop-i
invariant-loop-i g l =
    let types = all_types l.m.form l.m.defs.now l.m.u.now l.m.store.now in
    Went g.S.Sink.written g.S.Sink.faults l.initial.layout
    (commas (map (argument_at types) (count_from l.first l.count))) l.layout
    (from_place c.Comma l.i (map (argument_at types) (drop l.i (count_from l.first l.count))))
