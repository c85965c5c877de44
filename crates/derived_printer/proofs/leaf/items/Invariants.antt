use Rattle.std.proofs.Common.{map, drop}
use Rattle.ir_lexer.specs.declared.class.Class.TheVariants as c
use Rattle.derived_printer.specs.Parts.{from_place}
use Rattle.derived_printer.specs.ValueMarks.{commas, item_marks}
use Rattle.derived_printer.proofs.Loops.{Went}
use Rattle.derived_printer.proofs.leaf.items.Given as goal

abbrev pub invariant-loop-i : goal.invariant-loop-i
invariant-loop-i g l =
    Went g.S.Sink.written g.S.Sink.faults l.initial.layout
    (commas (map (item_marks l.width) l.items)) l.layout
    (from_place c.Comma l.i (map (item_marks l.width) (drop l.i l.items)))
