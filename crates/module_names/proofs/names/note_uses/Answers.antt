use Rattle.module_names.specs.ModuleNotes.{use_noted}
use Rattle.module_names.proofs.Saying.{said-more}
use Rattle.module_names.proofs.names.note_uses.Goals as goal

pub loop-u-preserved : goal.loop-u-preserved
loop-u-preserved c =
    said-more use_noted c.args.uses.now _ _ _ _ _ c.loop-u-test.true c.u-item.is c.loop-u.invariant
    c.in_ok-note_use.ensures
