use Rattle.std.proofs.Common.{◌∙◌}
use Rattle.value_rows.proofs.Sound.{map-none, sound-defined}
use Rattle.value_rows.proofs.desk.Desk.define.Goals as goal

pub returns-in-Ok : goal.returns-in-Ok
returns-in-Ok c =
    sound-defined c.args.types.now c.args.self.now _ _
    (c.new-natives.ensures.tests ∙ map-none _ _ c.new.ensures.items) c.requires
    c.define_alias.ensures.later c.define_alias.ensures.good

pub returns : goal.returns
returns c =
    sound-defined c.args.types.now c.args.self.now _ _
    (c.new-natives.ensures.tests ∙ map-none _ _ c.new.ensures.items) c.requires
    c.define_alias.ensures.later c.define_alias.ensures.good
