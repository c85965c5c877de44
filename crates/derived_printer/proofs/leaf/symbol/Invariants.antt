use Rattle.std.proofs.Common.{map, drop}
use Rattle.ir_lexer.specs.declared.class.Class.TheVariants as c
use Rattle.derived_printer.specs.Parts.{from_place}
use Rattle.derived_printer.specs.ValueMarks.{part_marks, symbol_marks}
use Rattle.derived_printer.proofs.Loops.{Went}
use Rattle.derived_printer.proofs.leaf.symbol.Given as goal

abbrev pub invariant-loop-i : goal.invariant-loop-i
invariant-loop-i g l =
    Went g.S.Sink.written g.S.Sink.faults l.initial.layout (symbol_marks l.parts) l.layout
    (from_place c.ColonColon l.i (map part_marks (drop l.i l.parts)))
