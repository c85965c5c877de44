use Rattle.std.proofs.Common.{◌+◌, ◌*◌, ◌-◌, map, drop}
use Rattle.ir_lexer.specs.declared.class.Class.TheVariants as c
use Rattle.derived_printer.specs.ModuleParts.{ops_marks_of, blocks_marks_of, region_marks_at}
use Rattle.derived_printer.specs.Parts.{from_place}
use Rattle.derived_printer.specs.ValueMarks.{commas}
use Rattle.derived_printer.proofs.Loops.{Went}
use Rattle.derived_printer.proofs.module.+modules.Given as goal

-- What is printed ranks by the room to its right, which each nesting takes.

abbrev pub decreases-operations : goal.decreases-operations
decreases-operations g l = 8 * (130 - l.indent) + 7

abbrev pub decreases-operation : goal.decreases-operation
decreases-operation g l = 8 * (130 - l.indent) + 6

abbrev pub decreases-generic : goal.decreases-generic
decreases-generic g l = 8 * (130 - l.indent) + 5

abbrev pub decreases-regions : goal.decreases-regions
decreases-regions g l = 8 * (130 - l.indent) + 4

abbrev pub decreases-region_list : goal.decreases-region_list
decreases-region_list g l = 8 * (130 - l.indent) + 3

abbrev pub decreases-region : goal.decreases-region
decreases-region g l = 8 * (130 - l.indent) + 2

abbrev pub decreases-blocks : goal.decreases-blocks
decreases-blocks g l = 8 * (130 - l.indent) + 1

abbrev pub decreases-block : goal.decreases-block
decreases-block g l = 8 * (130 - l.indent)

abbrev pub invariant-operations-loop-id : goal.invariant-operations-loop-id
invariant-operations-loop-id g l =
    Went g.S.Sink.written g.S.Sink.faults l.initial.layout
    (ops_marks_of l.m.form l.m.defs.now l.m.u.now l.m.store.now l.indent l.ids) l.layout
    (ops_marks_of l.m.form l.m.defs.now l.m.u.now l.m.store.now l.indent (drop l.id-index l.ids))

abbrev pub invariant-region_list-loop-i : goal.invariant-region_list-loop-i
invariant-region_list-loop-i g l =
    let f = region_marks_at l.m.form l.m.defs.now l.m.u.now l.m.store.now l.indent in
    Went g.S.Sink.written g.S.Sink.faults l.initial.layout (commas (map f l.ids)) l.layout
    (from_place c.Comma l.i (map f (drop l.i l.ids)))

abbrev pub invariant-blocks-loop-i : goal.invariant-blocks-loop-i
invariant-blocks-loop-i g l =
    Went g.S.Sink.written g.S.Sink.faults l.initial.layout
    (blocks_marks_of l.m.form l.m.defs.now l.m.u.now l.m.store.now l.indent 0 l.ids) l.layout
    (blocks_marks_of l.m.form l.m.defs.now l.m.u.now l.m.store.now l.indent l.i (drop l.i l.ids))
