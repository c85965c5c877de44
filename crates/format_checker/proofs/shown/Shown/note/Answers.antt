use Rattle.format_checker.proofs.Noted.{note-one}
use Rattle.format_checker.proofs.shown.Shown.note.Goals as goal

pub returns : goal.returns
returns c =
    note-one c.args.at c.args.thing c.args.self.now c.add.new.self c.repeated_with-repeated.result
    c.in_ok-add.ensures c.repeated_with-repeated.ensures
