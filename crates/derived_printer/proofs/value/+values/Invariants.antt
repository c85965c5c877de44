use Rattle.std.proofs.Common.{◌+◌, ◌*◌, map, drop}
use Rattle.std.specs.List.{zip}
use Rattle.attr_value.specs.Ids.{at, kids_at}
use Rattle.attr_value.specs.Values.{depth, greatest_depth}
use Rattle.ir_lexer.specs.declared.class.Class.TheVariants as c
use Rattle.derived_printer.specs.Parts.{from_place}
use Rattle.derived_printer.specs.ValueMarks.{commas, marks_of, kid_marks, entry_marks}
use Rattle.derived_printer.proofs.Loops.{Went}
use Rattle.derived_printer.proofs.value.+values.Given as goal

-- A value ranks by its depth, and what is made of kids by the greatest depth of these.

abbrev pub decreases-value : goal.decreases-value
decreases-value g l = 8 * depth (at l.u.now l.id.0)

abbrev pub decreases-entry : goal.decreases-entry
decreases-entry g l = 8 * depth (at l.u.now l.id.0) + 1

abbrev pub decreases-commas : goal.decreases-commas
decreases-commas g l = 8 * greatest_depth (kids_at l.u.now l.kids.now) + 1

abbrev pub decreases-entries : goal.decreases-entries
decreases-entries g l = 8 * greatest_depth (kids_at l.u.now l.kids.now) + 2

abbrev pub decreases-enclosed : goal.decreases-enclosed
decreases-enclosed g l = 8 * greatest_depth (kids_at l.u.now l.kids.now) + 3

abbrev pub decreases-worded : goal.decreases-worded
decreases-worded g l = 8 * greatest_depth (kids_at l.u.now l.kids.now) + 4

abbrev pub decreases-function : goal.decreases-function
decreases-function g l = 8 * greatest_depth (kids_at l.u.now l.kids.now) + 4

abbrev pub decreases-shaped : goal.decreases-shaped
decreases-shaped g l = 8 * greatest_depth (kids_at l.u.now l.kids.now) + 4

abbrev pub decreases-dialect : goal.decreases-dialect
decreases-dialect g l = 8 * greatest_depth (kids_at l.u.now l.kids.now) + 4

abbrev pub decreases-dict : goal.decreases-dict
decreases-dict g l = 8 * greatest_depth (kids_at l.u.now l.kids.now) + 4

abbrev pub decreases-node : goal.decreases-node
decreases-node g l = 8 * greatest_depth (kids_at l.u.now l.kids.now) + 5

abbrev pub invariant-commas-loop-i : goal.invariant-commas-loop-i
invariant-commas-loop-i g l =
    Went g.S.Sink.written g.S.Sink.faults l.initial.layout
    (commas (marks_of (kid_marks (kids_at l.u l.kids)))) l.layout
    (from_place c.Comma l.i (marks_of (kid_marks (kids_at l.u (drop l.i l.kids)))))

abbrev pub invariant-entries-loop-i : goal.invariant-entries-loop-i
invariant-entries-loop-i g l =
    Went g.S.Sink.written g.S.Sink.faults l.initial.layout
    (commas (map entry_marks (zip l.keys (kid_marks (kids_at l.u l.kids))))) l.layout
    (from_place c.Comma l.i
    (map entry_marks (zip (drop l.i l.keys) (kid_marks (kids_at l.u (drop l.i l.kids))))))
