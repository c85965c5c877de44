use Rattle.std.specs.List.{flat_map}
use Rattle.format_checker.specs.Shown.{item_showings}
use Rattle.format_checker.proofs.Noted.{notes-then}
use Rattle.format_checker.proofs.shown.Shown.note_group.Goals as goal

pub returns : goal.returns
returns c =
    notes-then (flat_map (item_showings c.args.op.now) c.args.first.now)
    (flat_map (item_showings c.args.op.now) c.args.otherwise.now) c.args.self.now _ _
    c.in_ok-note_items.ensures c.in_ok-note_items-2.ensures
