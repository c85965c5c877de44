use Rattle.std.proofs.Common.{refl}
use Rattle.value_rows.proofs.Sound.{sound-grown, good-printable}
use Rattle.value_rows.proofs.desk.Desk.value_of.Goals as goal

pub returns-in-Ok-clause-sound : goal.returns-in-Ok-clause-sound
returns-in-Ok-clause-sound c =
    sound-grown c.args.types.now c.args.self.now _ c.requires c.value_in.ensures.later refl

pub returns-in-Ok-clause-printable : goal.returns-in-Ok-clause-printable
returns-in-Ok-clause-printable c =
    good-printable c.args.types.now c.args.self.now _ _ c.in-Ok.id c.requires
    c.in-Ok.ensures.known c.in-Ok.ensures.ok.good

pub returns-clause-sound : goal.returns-clause-sound
returns-clause-sound c =
    sound-grown c.args.types.now c.args.self.now _ c.requires c.value_in.ensures.later refl
