use Rattle.std.proofs.Common.{◌≡◌, ◌∙◌, ap, length, subst, Err}
use Rattle.format_checker.specs.Accepted.{IsRefused}
use Rattle.dialect_registry.proofs.AddedFormats.{told-fault}
use Rattle.dialect_registry.proofs.formats.judged_format.Goals as goal

pub returns-in-Err-clause-refused : goal.returns-in-Err-clause-refused
returns-in-Err-clause-refused c =
    told-fault c.args.op.now c.args.text.now c.args.raw.now c.args.file c.args.place c.in-Err.stop
    c.told_stop.result c.requires.read
    (λ code at look entry e. rw c.length_of.ensures at rw c.as_slice.ensures at
    (c.check_format.ensures.refused code at look entry (c.in-Err.is ∙ ap Err e)))
    c.told_stop.ensures
