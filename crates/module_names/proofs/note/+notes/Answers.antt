use Rattle.std.proofs.Common.{◌≡◌, ◌∙◌, ap, sym, subst, ◌++◌, ◌∷◌, []}
use Rattle.symbol_scopes.specs.ScopeMarks as mark
use Rattle.module_names.specs.ModuleNotes.{op_notes, part_regions, region_notes}
use Rattle.module_names.specs.ModuleNotes.{block_notes}
use Rattle.module_names.specs.Said.{Said, noted}
use Rattle.module_names.proofs.Opening.{op-opens, region-opens, block-opens, generic-opens}
use Rattle.module_names.proofs.Opening.{custom-opens, generic-form, custom-form}
use Rattle.module_names.proofs.Opening.{region-regions, group-regions, other-regions}
use Rattle.module_names.proofs.Saying.{said-more, said-then, order-step, on-ok, said-nothing}
use Rattle.module_names.proofs.Saying.{said-region}
use Rattle.module_names.proofs.note.+notes.Goals as goal

pub note_ops-loop-op-preserved : goal.note_ops-loop-op-preserved
note_ops-loop-op-preserved t c =
    let op = c.op-item.result in
    let results = rw c.as_slice.ensures at c.in_ok-note_results.ensures in
    let now = said-then _ _ _ _ _ results c.in_ok-note_form.ensures in
    said-more op_notes c.args.ops.now _ _ _ _ _ c.loop-op-test.true c.op-item.is
    c.loop-op.invariant
    (subst (Said c.loop-op.scopes c.note_form.new.scopes) (sym (op-opens op)) now)

pub note_part_regions-loop-part-preserved : goal.note_part_regions-loop-part-preserved
note_part_regions-loop-part-preserved t c =
    said-more part_regions c.args.parts.now _ _ _ _ _ c.loop-part-test.true c.part-item.is
    c.loop-part.invariant c.in_ok-note_regions_of.ensures

pub note_regions-loop-region-preserved : goal.note_regions-loop-region-preserved
note_regions-loop-region-preserved t c =
    said-more region_notes c.args.regions.now _ _ _ _ _ c.loop-region-test.true c.region-item.is
    c.loop-region.invariant c.in_ok-note_region.ensures

pub note_blocks-loop-block-preserved : goal.note_blocks-loop-block-preserved
note_blocks-loop-block-preserved t c =
    let block = c.block-item.result in
    let args = rw c.as_slice.ensures at c.in_ok-note_arguments.ensures in
    let ops = rw c.as_slice-in-loop-block.ensures at c.in_ok-note_ops.ensures in
    let now = said-then _ _ _ _ _ c.in_ok-note_label.ensures (said-then _ _ _ _ _ args ops) in
    order-step block_notes c.args.blocks.now _ _ _ _ _ _ c.loop-block-test.true c.block-item.is
    c.loop-block.invariant
    (subst (Said c.loop-block.scopes c.note_ops.new.scopes)
    (sym (block-opens block c.loop-block.number)) now)

pub note_form-returns-in-Generic : goal.note_form-returns-in-Generic
note_form-returns-in-Generic t c =
    on-ok c.note_generic.result
    (subst (Said c.args.scopes.now c.note_generic.new.scopes)
    (generic-form c.args.form.now c.in-Generic.g c.in-Generic.is))
    c.note_generic.ensures

pub note_form-returns-in-Custom : goal.note_form-returns-in-Custom
note_form-returns-in-Custom t c =
    on-ok c.note_custom.result
    (subst (Said c.args.scopes.now c.note_custom.new.scopes)
    (custom-form c.args.form.now c.in-Custom.c c.in-Custom.is))
    c.note_custom.ensures

pub note_generic-returns : goal.note_generic-returns
note_generic-returns t c =
    let uses = rw c.as_slice.ensures at c.in_ok-note_uses.ensures in
    let successors = rw c.as_slice-2.ensures at c.in_ok-note_successors.ensures in
    let props = rw c.as_slice-3.ensures at c.in_ok-note_entries.ensures in
    let attrs = rw c.as_slice-4.ensures at c.in_ok-note_entries-2.ensures in
    let inputs = rw c.as_slice-5.ensures at c.in_ok-note_values.ensures in
    let outputs = rw c.as_slice-6.ensures at c.in_ok-note_values-2.ensures in
    on-ok c.note_regions.result
    (λ (d : Said c.note_values-2.new.scopes c.note_regions.new.scopes
    (noted region_notes c.as_slice-7.result.now)).
    subst (Said c.args.scopes.now c.note_regions.new.scopes) (sym (generic-opens c.args.g.now))
    (said-then _ _ _ _ _ uses (said-then _ _ _ _ _ successors (said-then _ _ _ _ _ props
    (said-then _ _ _ _ _ attrs (said-then _ _ _ _ _ inputs (said-then _ _ _ _ _ outputs
    (rw c.as_slice-7.ensures at d))))))))
    c.note_regions.ensures

pub note_custom-returns : goal.note_custom-returns
note_custom-returns t c =
    let own = rw c.as_slice.ensures at c.in_ok-note_own_parts.ensures in
    on-ok c.note_part_regions.result
    (λ (d : Said c.note_own_parts.new.scopes c.note_part_regions.new.scopes
    (noted part_regions c.as_slice-2.result.now)).
    subst (Said c.args.scopes.now c.note_part_regions.new.scopes)
    (sym (custom-opens c.args.c.now))
    (said-then _ _ _ _ _ own (rw c.as_slice-2.ensures at d)))
    c.note_part_regions.ensures

pub note_regions_of-returns-in-Region : goal.note_regions_of-returns-in-Region
note_regions_of-returns-in-Region t c =
    on-ok c.note_region.result
    (subst (Said c.args.scopes.now c.note_region.new.scopes)
    (region-regions c.args.part.now c.in-Region.region c.in-Region.is))
    c.note_region.ensures

pub note_regions_of-returns-in-Group : goal.note_regions_of-returns-in-Group
note_regions_of-returns-in-Group t c =
    on-ok c.note_part_regions.result
    (subst (Said c.args.scopes.now c.note_part_regions.new.scopes)
    (ap (noted part_regions) c.as_slice.ensures
    ∙ group-regions c.args.part.now c.in-Group.taken c.in-Group.parts c.in-Group.is))
    c.note_part_regions.ensures

pub note_regions_of-returns-in_default : goal.note_regions_of-returns-in_default
note_regions_of-returns-in_default t c =
    subst (Said c.args.scopes.now c.args.scopes.now)
    (other-regions c.args.part.now c.in_default.not-Region c.in_default.not-Group)
    (said-nothing c.args.scopes.now)

pub note_region-returns : goal.note_region-returns
note_region-returns t c =
    let inside = rw c.as_slice.ensures at c.in_ok-note_blocks.ensures in
    on-ok c.leave.result
    (λ (e : c.leave.new.self ≡ c.note_blocks.new.scopes ++ mark.leaves ∷ []).
    subst (Said c.args.scopes.now c.leave.new.self) (sym (region-opens c.args.region.now))
    (said-region _ _ _ _ _ c.in_ok-enter.ensures.ok inside e))
    c.leave.ensures.ok
