use Rattle.std.proofs.Common.{map, drop}
use Rattle.attr_value.specs.Ids.{at}
use Rattle.ir_lexer.specs.declared.class.Class.TheVariants as c
use Rattle.derived_printer.specs.ModuleParts.{all_types}
use Rattle.derived_printer.specs.Parts.{from_place}
use Rattle.derived_printer.specs.ValueMarks.{commas, value_marks}
use Rattle.derived_printer.proofs.Loops.{Went}
use Rattle.derived_printer.proofs.stored.value_types.Given as goal

abbrev pub invariant-loop-i : goal.invariant-loop-i
invariant-loop-i g l =
    let types = all_types l.m.form l.m.defs.now l.m.u.now l.m.store.now in
    Went g.S.Sink.written g.S.Sink.faults l.initial.layout
    (commas (map value_marks (map (at types) l.numbers))) l.layout
    (from_place c.Comma l.i (map value_marks (map (at types) (drop l.i l.numbers))))
