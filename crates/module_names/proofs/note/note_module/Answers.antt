use Rattle.module_names.specs.ModuleNotes.{ops_notes}
use Rattle.module_names.specs.Said.{Said}
use Rattle.module_names.proofs.Saying.{said-then, on-ok}
use Rattle.module_names.proofs.note.note_module.Goals as goal

pub returns : goal.returns
returns c =
    let aliases = rw c.as_slice.ensures at c.in_ok-note_aliases.ensures in
    on-ok c.note_ops.result
    (λ (d : Said c.note_aliases.new.scopes c.note_ops.new.scopes
    (ops_notes c.as_slice-2.result.now)).
    said-then _ _ _ _ _ aliases (rw c.as_slice-2.ensures at d))
    c.note_ops.ensures
