use Rattle.std.proofs.Common.{◌∙◌, ap, sym, subst, true, false}
use Rattle.module_names.specs.Mentions.{value_mentions, entry_mentions, maybe_mentions}
use Rattle.module_names.specs.Said.{Said, noted}
use Rattle.module_names.proofs.Mentioning.{value-opens, entry-opens, type_alias-node}
use Rattle.module_names.proofs.Mentioning.{attr_alias-node}
use Rattle.module_names.proofs.Mentioning.{dialect-node, function-node, tuple-node, array-node}
use Rattle.module_names.proofs.Mentioning.{shaped-node, complex-node, number-node, dict-node}
use Rattle.module_names.proofs.Mentioning.{other-node, said-alias}
use Rattle.module_names.proofs.Saying.{said-more, said-then, said-nothing, on-ok}
use Rattle.module_names.proofs.mentions.+mentions.Goals as goal

pub note_values-loop-value-preserved : goal.note_values-loop-value-preserved
note_values-loop-value-preserved t c =
    said-more value_mentions c.args.values.now _ _ _ _ _ c.loop-value-test.true c.value-item.is
    c.loop-value.invariant c.in_ok-note_value.ensures

pub note_entries-loop-entry-preserved : goal.note_entries-loop-entry-preserved
note_entries-loop-entry-preserved t c =
    said-more entry_mentions c.args.entries.now _ _ _ _ _ c.loop-entry-test.true c.entry-item.is
    c.loop-entry.invariant
    (subst (Said c.loop-entry.scopes c.note_maybe.new.scopes) (entry-opens c.entry-item.result)
    c.in_ok-note_maybe.ensures)

pub note_value-returns : goal.note_value-returns
note_value-returns t c =
    on-ok c.note_node.result
    (subst (Said c.args.scopes.now c.note_node.new.scopes) (value-opens c.args.value.now))
    c.note_node.ensures

pub note_node-returns-in-TypeAlias : goal.note_node-returns-in-TypeAlias
note_node-returns-in-TypeAlias t c =
    said-alias c.mention_alias.result _ _ true c.in-TypeAlias.name c.bytes.result.now
    c.args.place _
    c.bytes.ensures (type_alias-node c.args.node.now c.args.place c.in-TypeAlias.name
    c.in-TypeAlias.is)
    c.mention_alias.ensures.ok

pub note_node-returns-in-AttrAlias : goal.note_node-returns-in-AttrAlias
note_node-returns-in-AttrAlias t c =
    said-alias c.mention_alias-in-AttrAlias.result _ _ false c.in-AttrAlias.name
    c.bytes-in-AttrAlias.result.now c.args.place _
    c.bytes-in-AttrAlias.ensures (attr_alias-node c.args.node.now c.args.place c.in-AttrAlias.name
    c.in-AttrAlias.is)
    c.mention_alias-in-AttrAlias.ensures.ok

pub note_node-returns-in-Dialect : goal.note_node-returns-in-Dialect
note_node-returns-in-Dialect t c =
    on-ok c.note_values.result
    (subst (Said c.args.scopes.now c.note_values.new.scopes)
    (ap (noted value_mentions) c.as_slice.ensures
    ∙ dialect-node c.args.node.now c.args.place c.in-Dialect.is_type c.in-Dialect.name
    c.in-Dialect.args
    c.in-Dialect.is))
    c.note_values.ensures

pub note_node-returns-in_ok-note_values-in-Function :
    goal.note_node-returns-in_ok-note_values-in-Function
note_node-returns-in_ok-note_values-in-Function t c =
    let inputs = rw c.as_slice-in-Function.ensures at c.in_ok-note_values-in-Function.ensures in
    on-ok c.note_values-in-Function-2.result
    (λ (d : Said c.note_values-in-Function.new.scopes c.note_values-in-Function-2.new.scopes
    (noted value_mentions c.as_slice-in-Function-2.result.now)).
    subst (Said c.args.scopes.now c.note_values-in-Function-2.new.scopes)
    (function-node c.args.node.now c.args.place c.in-Function.inputs c.in-Function.outputs
    c.in-Function.is)
    (said-then _ _ _ _ _ inputs (rw c.as_slice-in-Function-2.ensures at d)))
    c.note_values-in-Function-2.ensures

pub note_node-returns-in-Tuple : goal.note_node-returns-in-Tuple
note_node-returns-in-Tuple t c =
    on-ok c.note_values-in-Tuple.result
    (subst (Said c.args.scopes.now c.note_values-in-Tuple.new.scopes)
    (ap (noted value_mentions) c.as_slice-in-Tuple.ensures
    ∙ tuple-node c.args.node.now c.args.place c.in-Tuple.types c.in-Tuple.is))
    c.note_values-in-Tuple.ensures

pub note_node-returns-in-Array : goal.note_node-returns-in-Array
note_node-returns-in-Array t c =
    on-ok c.note_values-in-Array.result
    (subst (Said c.args.scopes.now c.note_values-in-Array.new.scopes)
    (ap (noted value_mentions) c.as_slice-in-Array.ensures
    ∙ array-node c.args.node.now c.args.place c.in-Array.values c.in-Array.is))
    c.note_values-in-Array.ensures

pub note_node-returns-in-Shaped : goal.note_node-returns-in-Shaped
note_node-returns-in-Shaped t c =
    on-ok c.note_value.result
    (subst (Said c.args.scopes.now c.note_value.new.scopes)
    (ap value_mentions c.get.ensures
    ∙ shaped-node c.args.node.now c.args.place c.in-Shaped.kind c.in-Shaped.dims
    c.in-Shaped.element
    c.in-Shaped.is))
    c.note_value.ensures

pub note_node-returns-in-Complex : goal.note_node-returns-in-Complex
note_node-returns-in-Complex t c =
    on-ok c.note_value-in-Complex.result
    (subst (Said c.args.scopes.now c.note_value-in-Complex.new.scopes)
    (ap value_mentions c.get-in-Complex.ensures
    ∙ complex-node c.args.node.now c.args.place c.in-Complex.element c.in-Complex.is))
    c.note_value-in-Complex.ensures

pub note_node-returns-in-Some : goal.note_node-returns-in-Some
note_node-returns-in-Some t c =
    on-ok c.note_value-in-Some.result
    (subst (Said c.args.scopes.now c.note_value-in-Some.new.scopes)
    (ap value_mentions c.get-in-Some.ensures ∙ ap maybe_mentions (sym c.in-Some.is)
    ∙ number-node c.args.node.now c.args.place c.in-Number.negative c.in-Number.digits
    c.in-Number.ty
    c.in-Number.is))
    c.note_value-in-Some.ensures

pub note_node-returns-in-None : goal.note_node-returns-in-None
note_node-returns-in-None t c =
    subst (Said c.args.scopes.now c.args.scopes.now)
    (ap maybe_mentions (sym c.in-None.is)
    ∙ number-node c.args.node.now c.args.place c.in-Number.negative c.in-Number.digits
    c.in-Number.ty
    c.in-Number.is)
    (said-nothing c.args.scopes.now)

pub note_node-returns-in-Dict : goal.note_node-returns-in-Dict
note_node-returns-in-Dict t c =
    on-ok c.note_entries.result
    (subst (Said c.args.scopes.now c.note_entries.new.scopes)
    (ap (noted entry_mentions) c.as_slice-in-Dict.ensures
    ∙ dict-node c.args.node.now c.args.place c.in-Dict.entries c.in-Dict.is))
    c.note_entries.ensures

pub note_node-returns-in-Word : goal.note_node-returns-in-Word
note_node-returns-in-Word t c =
    subst (Said c.args.scopes.now c.args.scopes.now)
    (other-node c.args.node.now c.args.place c.in-Word.is) (said-nothing c.args.scopes.now)

pub note_node-returns-in-Word-2 : goal.note_node-returns-in-Word-2
note_node-returns-in-Word-2 t c =
    subst (Said c.args.scopes.now c.args.scopes.now)
    (other-node c.args.node.now c.args.place c.in-Word.is) (said-nothing c.args.scopes.now)

pub note_node-returns-in-Word-3 : goal.note_node-returns-in-Word-3
note_node-returns-in-Word-3 t c =
    subst (Said c.args.scopes.now c.args.scopes.now)
    (other-node c.args.node.now c.args.place c.in-Word.is) (said-nothing c.args.scopes.now)

pub note_node-returns-in-Word-4 : goal.note_node-returns-in-Word-4
note_node-returns-in-Word-4 t c =
    subst (Said c.args.scopes.now c.args.scopes.now)
    (other-node c.args.node.now c.args.place c.in-Word.is) (said-nothing c.args.scopes.now)
