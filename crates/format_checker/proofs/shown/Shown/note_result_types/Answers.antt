use Rattle.format_checker.specs.declared.shown.Thing.TheVariants as thing
use Rattle.format_checker.proofs.Noted.{notes-none, notes-number}
use Rattle.format_checker.proofs.shown.Shown.note_result_types.Goals as goal

pub loop-number-init : goal.loop-number-init
loop-number-init c = notes-none c.args.self.now

pub loop-number-preserved : goal.loop-number-preserved
loop-number-preserved c =
    notes-number c.args.at c.loop-number.number (λ i. thing.ResultTypes i) c.args.self.now
    c.loop-number.self c.note.new.self c.loop-number.invariant c.in_ok-note.ensures
