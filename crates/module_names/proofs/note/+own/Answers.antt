use Rattle.std.proofs.Common.{◌∙◌, ap, subst}
use Rattle.module_names.specs.Mentions.{value_mentions, entry_mentions}
use Rattle.module_names.specs.ModuleNotes.{use_noted, part_own}
use Rattle.module_names.specs.Said.{Said, noted}
use Rattle.module_names.proofs.Opening.{uses-own, value-own, successor-own, types-own}
use Rattle.module_names.proofs.Opening.{functional-own, dict-own, group-own, other-own}
use Rattle.module_names.proofs.Saying.{said-more, said-then, said-nothing, on-ok}
use Rattle.module_names.proofs.note.+own.Goals as goal

pub note_own_parts-loop-part-preserved : goal.note_own_parts-loop-part-preserved
note_own_parts-loop-part-preserved t c =
    said-more part_own c.args.parts.now _ _ _ _ _ c.loop-part-test.true c.part-item.is
    c.loop-part.invariant c.in_ok-note_own_part.ensures

pub note_own_part-returns-in-Uses : goal.note_own_part-returns-in-Uses
note_own_part-returns-in-Uses t c =
    on-ok c.note_uses.result
    (subst (Said c.args.scopes.now c.note_uses.new.scopes)
    (ap (noted use_noted) c.as_slice.ensures
    ∙ uses-own c.args.part.now c.in-Uses.uses c.in-Uses.is))
    c.note_uses.ensures

pub note_own_part-returns-in-Value : goal.note_own_part-returns-in-Value
note_own_part-returns-in-Value t c =
    on-ok c.note_maybe.result
    (subst (Said c.args.scopes.now c.note_maybe.new.scopes)
    (value-own c.args.part.now c.in-Value.value c.in-Value.is))
    c.note_maybe.ensures

pub note_own_part-returns-in-Successor : goal.note_own_part-returns-in-Successor
note_own_part-returns-in-Successor t c =
    on-ok c.note_successor.result
    (subst (Said c.args.scopes.now c.note_successor.new.scopes)
    (successor-own c.args.part.now c.in-Successor.s c.in-Successor.is))
    c.note_successor.ensures

pub note_own_part-returns-in-Types : goal.note_own_part-returns-in-Types
note_own_part-returns-in-Types t c =
    on-ok c.note_values.result
    (subst (Said c.args.scopes.now c.note_values.new.scopes)
    (ap (noted value_mentions) c.as_slice-in-Types.ensures
    ∙ types-own c.args.part.now c.in-Types.types c.in-Types.is))
    c.note_values.ensures

pub note_own_part-returns-in_ok-note_values-in-Functional :
    goal.note_own_part-returns-in_ok-note_values-in-Functional
note_own_part-returns-in_ok-note_values-in-Functional t c =
    let inputs = rw c.as_slice-in-Functional.ensures
    at c.in_ok-note_values-in-Functional.ensures in
    on-ok c.note_values-in-Functional-2.result
    (λ (d : Said c.note_values-in-Functional.new.scopes c.note_values-in-Functional-2.new.scopes
    (noted value_mentions c.as_slice-in-Functional-2.result.now)).
    subst (Said c.args.scopes.now c.note_values-in-Functional-2.new.scopes)
    (functional-own c.args.part.now c.in-Functional.inputs c.in-Functional.outputs
    c.in-Functional.is)
    (said-then _ _ _ _ _ inputs (rw c.as_slice-in-Functional-2.ensures at d)))
    c.note_values-in-Functional-2.ensures

pub note_own_part-returns-in-Dict : goal.note_own_part-returns-in-Dict
note_own_part-returns-in-Dict t c =
    on-ok c.note_entries.result
    (subst (Said c.args.scopes.now c.note_entries.new.scopes)
    (ap (noted entry_mentions) c.as_slice-in-Dict.ensures
    ∙ dict-own c.args.part.now c.in-Dict.entries c.in-Dict.is))
    c.note_entries.ensures

pub note_own_part-returns-in-Group : goal.note_own_part-returns-in-Group
note_own_part-returns-in-Group t c =
    on-ok c.note_own_parts.result
    (subst (Said c.args.scopes.now c.note_own_parts.new.scopes)
    (ap (noted part_own) c.as_slice-in-Group.ensures
    ∙ group-own c.args.part.now c.in-Group.taken c.in-Group.parts c.in-Group.is))
    c.note_own_parts.ensures

pub note_own_part-returns-in-SymbolName : goal.note_own_part-returns-in-SymbolName
note_own_part-returns-in-SymbolName t c =
    subst (Said c.args.scopes.now c.args.scopes.now)
    (other-own c.args.part.now c.in-SymbolName.is) (said-nothing c.args.scopes.now)

pub note_own_part-returns-in-SymbolName-2 : goal.note_own_part-returns-in-SymbolName-2
note_own_part-returns-in-SymbolName-2 t c =
    subst (Said c.args.scopes.now c.args.scopes.now)
    (other-own c.args.part.now c.in-SymbolName.is) (said-nothing c.args.scopes.now)

pub note_own_part-returns-in-SymbolName-3 : goal.note_own_part-returns-in-SymbolName-3
note_own_part-returns-in-SymbolName-3 t c =
    subst (Said c.args.scopes.now c.args.scopes.now)
    (other-own c.args.part.now c.in-SymbolName.is) (said-nothing c.args.scopes.now)
