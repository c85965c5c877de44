use Rattle.module_names.specs.ModuleNotes.{successor_noted}
use Rattle.module_names.proofs.Saying.{said-more}
use Rattle.module_names.proofs.names.note_successors.Goals as goal

pub loop-s-preserved : goal.loop-s-preserved
loop-s-preserved c =
    said-more successor_noted c.args.names.now _ _ _ _ _ c.loop-s-test.true c.s-item.is
    c.loop-s.invariant
    c.in_ok-note_successor.ensures
