use Rattle.std.proofs.Common.{map, drop}
use Rattle.ir_lexer.specs.declared.class.Class.TheVariants as c
use Rattle.derived_printer.specs.ModuleMarks.{block_name}
use Rattle.derived_printer.specs.Parts.{from_place}
use Rattle.derived_printer.specs.ValueMarks.{commas}
use Rattle.derived_printer.proofs.Loops.{Went}
use Rattle.derived_printer.proofs.number_names.block_names.Given as goal

abbrev pub invariant-loop-i : goal.invariant-loop-i
invariant-loop-i g l =
    Went g.S.Sink.written g.S.Sink.faults l.initial.layout (commas (map block_name l.numbers))
    l.layout (from_place c.Comma l.i (map block_name (drop l.i l.numbers)))
