use Rattle.format_checker.specs.Shown.{types_things}
use Rattle.format_checker.proofs.Noted.{notes-map}
use Rattle.format_checker.proofs.shown.Shown.note_functional.Goals as goal

pub returns : goal.returns
returns c =
    notes-map c.args.at (types_things c.args.op.now c.args.inputs.now)
    (types_things c.args.op.now c.args.outputs.now) c.args.self.now _ _
    c.in_ok-note_types.ensures c.in_ok-note_types-2.ensures
