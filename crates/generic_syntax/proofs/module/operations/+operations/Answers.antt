use Rattle.std.proofs.Common.{arith, refl, sym, ◌∙◌}
use Rattle.grammar.proofs.Codes.{refuses-is}
use Rattle.grammar.proofs.Repeats.{goes_on, goes-end, goes-err, goes-memory}
use Rattle.grammar.proofs.Runs.{exit, at-tok, at-ret, both-ok, both-first, both-second, left, right, made-ok, made-err, placed-ok, placed-err}
use Rattle.generic_syntax.specs.Modules.{labelled, region_at}
use Rattle.generic_syntax.specs.Operations.{no_customs, op_of}
use Rattle.generic_syntax.proofs.Regions.{modules-fit, reader-of}
use Rattle.generic_syntax.proofs.ModuleTokens.{generic-decides}
use Rattle.generic_syntax.proofs.ModuleSteps.{region-deeper, region-deep, region-refused, blocks-first}
use Rattle.generic_syntax.proofs.Rows.{builds-on, builds-end, builds-err, builds-memory, builds-first}
use Rattle.generic_syntax.proofs.Steps.{memory-after}
use Rattle.generic_syntax.proofs.module.operations.+operations.Goals as goal

pub ops-returns-in_err-op : goal.ops-returns-in_err-op
ops-returns-in_err-op g t c = exit c.from_residual.ensures
    (goes-err (sym c.begins_op.ensures ∙ c.each-test.true) c.each.invariant c.in_err-op.ensures)

pub ops-returns-in_err-push : goal.ops-returns-in_err-push
ops-returns-in_err-push g t c = exit c.from_residual-in_err-push.ensures
    (goes-memory (modules-fit (reader-of no_customs generic-decides c.args.room)) refl
    (sym c.begins_op.ensures ∙ c.each-test.true) c.each.invariant c.in_ok-op.ensures)

pub ops-each-preserved : goal.ops-each-preserved
ops-each-preserved g t c = rw c.in_ok-push.ensures.ok
    (goes_on (modules-fit (reader-of no_customs generic-decides c.args.room)) refl
    (sym c.begins_op.ensures ∙ c.each-test.true) c.each.invariant c.in_ok-op.ensures)

pub ops-returns : goal.ops-returns
ops-returns g t c = rw c.trim.ensures
    (goes-end (sym c.begins_op.ensures ∙ c.each-test.false) c.each.invariant)

pub op-returns-in_err-results : goal.op-returns-in_err-results
op-returns-in_err-results g t c = exit c.from_residual.ensures
    (both-first (c.in_err-results.ensures (reader-of no_customs generic-decides c.args.room)))

pub op-returns-in_err-form : goal.op-returns-in_err-form
op-returns-in_err-form g t c = exit c.from_residual-in_err-form.ensures
    (both-second (c.in_ok-results.ensures (reader-of no_customs generic-decides c.args.room))
    (placed-err c.in_err-form.ensures))

pub op-returns : goal.op-returns
unfolding op_of
op-returns g t c = rw c.place-place.ensures
    (both-ok (c.in_ok-results.ensures (reader-of no_customs generic-decides c.args.room))
    (placed-ok c.in_ok-form.ensures))

pub generic-returns-in_err-name : goal.generic-returns-in_err-name
generic-returns-in_err-name g t c = exit c.from_residual.ensures
    (made-err (both-first (at-tok c.in_err-name.ensures)))

pub generic-returns-in_err-operands : goal.generic-returns-in_err-operands
generic-returns-in_err-operands g t c = exit c.from_residual-in_err-operands.ensures
    (made-err (both-second (at-tok c.in_ok-name.ensures)
    (both-first (c.in_err-operands.ensures (reader-of no_customs generic-decides c.args.room)))))

pub generic-returns-in_err-successors : goal.generic-returns-in_err-successors
generic-returns-in_err-successors g t c = exit c.from_residual-in_err-successors.ensures
    (made-err (both-second (at-tok c.in_ok-name.ensures)
    (both-second (c.in_ok-operands.ensures (reader-of no_customs generic-decides c.args.room))
    (both-first (c.in_err-successors.ensures
    (reader-of no_customs generic-decides c.args.room))))))

pub generic-returns-in_err-props : goal.generic-returns-in_err-props
generic-returns-in_err-props g t c = exit c.from_residual-in_err-props.ensures
    (made-err (both-second (at-tok c.in_ok-name.ensures)
    (both-second (c.in_ok-operands.ensures (reader-of no_customs generic-decides c.args.room))
    (both-second (c.in_ok-successors.ensures (reader-of no_customs generic-decides c.args.room))
    (both-first (c.in_err-props.ensures (reader-of no_customs generic-decides c.args.room)))))))

pub generic-returns-in_err-regions : goal.generic-returns-in_err-regions
generic-returns-in_err-regions g t c = exit c.from_residual-in_err-regions.ensures
    (made-err (both-second (at-tok c.in_ok-name.ensures)
    (both-second (c.in_ok-operands.ensures (reader-of no_customs generic-decides c.args.room))
    (both-second (c.in_ok-successors.ensures (reader-of no_customs generic-decides c.args.room))
    (both-second (c.in_ok-props.ensures (reader-of no_customs generic-decides c.args.room))
    (both-first c.in_err-regions.ensures))))))

pub generic-returns-in_err-attrs : goal.generic-returns-in_err-attrs
generic-returns-in_err-attrs g t c = exit c.from_residual-in_err-attrs.ensures
    (made-err (both-second (at-tok c.in_ok-name.ensures)
    (both-second (c.in_ok-operands.ensures (reader-of no_customs generic-decides c.args.room))
    (both-second (c.in_ok-successors.ensures (reader-of no_customs generic-decides c.args.room))
    (both-second (c.in_ok-props.ensures (reader-of no_customs generic-decides c.args.room))
    (both-second c.in_ok-regions.ensures
    (both-first (c.in_err-attrs.ensures (reader-of no_customs generic-decides c.args.room)))))))))

pub generic-returns-in_err-inputs : goal.generic-returns-in_err-inputs
generic-returns-in_err-inputs g t c = exit c.from_residual-in_err-inputs.ensures
    (made-err (both-second (at-tok c.in_ok-name.ensures)
    (both-second (c.in_ok-operands.ensures (reader-of no_customs generic-decides c.args.room))
    (both-second (c.in_ok-successors.ensures (reader-of no_customs generic-decides c.args.room))
    (both-second (c.in_ok-props.ensures (reader-of no_customs generic-decides c.args.room))
    (both-second c.in_ok-regions.ensures
    (both-second (c.in_ok-attrs.ensures (reader-of no_customs generic-decides c.args.room))
    (c.in_err-inputs.ensures (reader-of no_customs generic-decides c.args.room)))))))))

pub generic-returns : goal.generic-returns
generic-returns g t c = made-ok
    (both-ok (at-tok c.in_ok-name.ensures)
    (both-ok (c.in_ok-operands.ensures (reader-of no_customs generic-decides c.args.room))
    (both-ok (c.in_ok-successors.ensures (reader-of no_customs generic-decides c.args.room))
    (both-ok (c.in_ok-props.ensures (reader-of no_customs generic-decides c.args.room))
    (both-ok c.in_ok-regions.ensures
    (both-ok (c.in_ok-attrs.ensures (reader-of no_customs generic-decides c.args.room))
    (c.in_ok-inputs.ensures (reader-of no_customs generic-decides c.args.room))))))))

pub regions-returns-then-not-is_class : goal.regions-returns-then-not-is_class
regions-returns-then-not-is_class g t c = rw c.new.ensures
    (right (rw (sym c.is_class.ensures.passes ∙ c.if-not-is_class.true) refl) at-ret)

pub regions-returns-in_err-expect : goal.regions-returns-in_err-expect
regions-returns-in_err-expect g t c = exit c.from_residual.ensures
    (left (rw (sym c.is_class.ensures.passes ∙ c.if-not-is_class.false) refl)
    (both-first (at-tok c.in_err-expect.ensures.took)))

pub regions-returns-in_err-found : goal.regions-returns-in_err-found
regions-returns-in_err-found g t c = exit c.from_residual-in_err-found.ensures
    (left (rw (sym c.is_class.ensures.passes ∙ c.if-not-is_class.false) refl)
    (both-second (at-tok c.in_ok-expect.ensures.took) (both-first c.in_err-found.ensures)))

pub regions-returns-in_err-expect-2 : goal.regions-returns-in_err-expect-2
regions-returns-in_err-expect-2 g t c = exit c.from_residual-in_err-expect-2.ensures
    (left (rw (sym c.is_class.ensures.passes ∙ c.if-not-is_class.false) refl)
    (both-second (at-tok c.in_ok-expect.ensures.took)
    (both-second c.in_ok-found.ensures (at-tok c.in_err-expect-2.ensures.took))))

pub regions-returns : goal.regions-returns
regions-returns g t c =
    (left (rw (sym c.is_class.ensures.passes ∙ c.if-not-is_class.false) refl)
    (both-ok (at-tok c.in_ok-expect.ensures.took)
    (both-ok c.in_ok-found.ensures (at-tok c.in_ok-expect-2.ensures.took))))

pub some_regions-returns-in_err-inner_region : goal.some_regions-returns-in_err-inner_region
some_regions-returns-in_err-inner_region g t c = exit c.from_residual.ensures
    (both-first c.in_err-inner_region.ensures)

pub some_regions-returns-in_err-push : goal.some_regions-returns-in_err-push
some_regions-returns-in_err-push g t c = exit c.from_residual-in_err-push.ensures
    (both-first (memory-after c.in_ok-inner_region.ensures))

pub some_regions-each-init : goal.some_regions-each-init
some_regions-each-init g t c = rw (c.in_ok-push.ensures.ok, c.new-found.ensures)
    (builds-first c.in_ok-inner_region.ensures)

pub some_regions-returns-in_err-expect : goal.some_regions-returns-in_err-expect
some_regions-returns-in_err-expect g t c = exit c.from_residual-in_err-expect.ensures
    (builds-err (rw (sym c.is_class.ensures.passes ∙ c.each-test.true) refl) c.each.invariant
    (both-first (at-tok c.in_err-expect.ensures.took)))

pub some_regions-returns-in_err-inner_region-2 : goal.some_regions-returns-in_err-inner_region-2
some_regions-returns-in_err-inner_region-2 g t c = exit
    c.from_residual-in_err-inner_region-2.ensures
    (builds-err (rw (sym c.is_class.ensures.passes ∙ c.each-test.true) refl) c.each.invariant
    (both-second (at-tok c.in_ok-expect.ensures.took) c.in_err-inner_region-2.ensures))

pub some_regions-each-preserved : goal.some_regions-each-preserved
some_regions-each-preserved g t c = rw c.in_ok-push-2.ensures.ok
    (builds-on (modules-fit (reader-of no_customs generic-decides c.args.room)) refl
    (rw (sym c.is_class.ensures.passes ∙ c.each-test.true) refl) c.each.invariant
    (both-ok (at-tok c.in_ok-expect.ensures.took) c.in_ok-inner_region-2.ensures))

pub some_regions-returns-in_err-push-2 : goal.some_regions-returns-in_err-push-2
some_regions-returns-in_err-push-2 g t c = exit c.from_residual-in_err-push-2.ensures
    (builds-memory (modules-fit (reader-of no_customs generic-decides c.args.room)) refl
    (rw (sym c.is_class.ensures.passes ∙ c.each-test.true) refl) c.each.invariant
    (both-ok (at-tok c.in_ok-expect.ensures.took) c.in_ok-inner_region-2.ensures))

pub some_regions-each-smaller : goal.some_regions-each-smaller
some_regions-each-smaller g t c = omega
    (arith, c.in_ok-expect.ensures.took.ran.less, c.in_ok-inner_region-2.ensures.ran.less)

pub some_regions-returns : goal.some_regions-returns
some_regions-returns g t c = rw c.trim.ensures
    (builds-end (rw (sym c.is_class.ensures.passes ∙ c.each-test.false) refl) c.each.invariant)

pub inner_region-returns-then-room-gt0 : goal.inner_region-returns-then-room-gt0
inner_region-returns-then-room-gt0 g t c = region-deeper no_customs _ c.if-room-gt0.true
    c.region.ensures

pub inner_region-returns-then-is_class : goal.inner_region-returns-then-is_class
inner_region-returns-then-is_class g t c = region-deep no_customs _ (omega arith)
    (sym c.is_class.ensures.passes ∙ c.if-is_class.true) c.too_deep.ensures

pub inner_region-returns : goal.inner_region-returns
inner_region-returns g t c = region-refused no_customs _ (omega arith)
    (sym c.is_class.ensures.passes ∙ c.if-is_class.false)
    (refuses-is (g.T.TokenSource.state c.args.t.now).now _ c.refused.ensures)

pub region-returns-in_err-expect : goal.region-returns-in_err-expect
region-returns-in_err-expect g t c = exit c.from_residual.ensures
    (placed-err (both-first (at-tok c.in_err-expect.ensures.took)))

pub region-returns-in_err-blocks : goal.region-returns-in_err-blocks
region-returns-in_err-blocks g t c = exit c.from_residual-in_err-blocks.ensures
    (placed-err (both-second (at-tok c.in_ok-expect.ensures.took)
    (both-first c.in_err-blocks.ensures)))

pub region-returns-in_err-expect-2 : goal.region-returns-in_err-expect-2
region-returns-in_err-expect-2 g t c = exit c.from_residual-in_err-expect-2.ensures
    (placed-err (both-second (at-tok c.in_ok-expect.ensures.took)
    (both-second c.in_ok-blocks.ensures (at-tok c.in_err-expect-2.ensures.took))))

pub region-returns : goal.region-returns
unfolding region_at
region-returns g t c = rw c.place-place.ensures
    (placed-ok (both-ok (at-tok c.in_ok-expect.ensures.took)
    (both-ok c.in_ok-blocks.ensures (at-tok c.in_ok-expect-2.ensures.took))))

pub blocks-returns-in_err-ops : goal.blocks-returns-in_err-ops
blocks-returns-in_err-ops g t c = exit c.from_residual.ensures (both-first c.in_err-ops.ensures)

pub blocks-returns-in_err-found : goal.blocks-returns-in_err-found
blocks-returns-in_err-found g t c = exit c.from_residual-in_err-found.ensures
    (both-first (memory-after c.in_ok-ops.ensures))

pub blocks-each-init : goal.blocks-each-init
blocks-each-init g t c = rw c.in_ok-found.ensures (blocks-first no_customs _ c.in_ok-ops.ensures)

pub blocks-returns-in_err-block : goal.blocks-returns-in_err-block
blocks-returns-in_err-block g t c = exit c.from_residual-in_err-block.ensures
    (builds-err (rw (sym c.is_class.ensures.passes ∙ c.each-test.true) refl) c.each.invariant
    c.in_err-block.ensures)

pub blocks-returns-in_err-push : goal.blocks-returns-in_err-push
blocks-returns-in_err-push g t c = exit c.from_residual-in_err-push.ensures
    (builds-memory (modules-fit (reader-of no_customs generic-decides c.args.room)) refl
    (rw (sym c.is_class.ensures.passes ∙ c.each-test.true) refl) c.each.invariant
    c.in_ok-block.ensures)

pub blocks-each-preserved : goal.blocks-each-preserved
blocks-each-preserved g t c = rw c.in_ok-push.ensures.ok
    (builds-on (modules-fit (reader-of no_customs generic-decides c.args.room)) refl
    (rw (sym c.is_class.ensures.passes ∙ c.each-test.true) refl) c.each.invariant
    c.in_ok-block.ensures)

pub blocks-returns : goal.blocks-returns
blocks-returns g t c = rw c.trim.ensures
    (builds-end (rw (sym c.is_class.ensures.passes ∙ c.each-test.false) refl) c.each.invariant)

pub block-returns-in_err-label : goal.block-returns-in_err-label
block-returns-in_err-label g t c = exit c.from_residual.ensures
    (both-first (at-tok c.in_err-label.ensures))

pub block-returns-in_err-args : goal.block-returns-in_err-args
block-returns-in_err-args g t c = exit c.from_residual-in_err-args.ensures
    (both-second (at-tok c.in_ok-label.ensures)
    (both-first (c.in_err-args.ensures (reader-of no_customs generic-decides c.args.room))))

pub block-returns-in_err-expect : goal.block-returns-in_err-expect
block-returns-in_err-expect g t c = exit c.from_residual-in_err-expect.ensures
    (both-second (at-tok c.in_ok-label.ensures)
    (both-second (c.in_ok-args.ensures (reader-of no_customs generic-decides c.args.room))
    (both-first (at-tok c.in_err-expect.ensures.took))))

pub block-returns-in_err-ops : goal.block-returns-in_err-ops
block-returns-in_err-ops g t c = exit c.from_residual-in_err-ops.ensures
    (both-second (at-tok c.in_ok-label.ensures)
    (both-second (c.in_ok-args.ensures (reader-of no_customs generic-decides c.args.room))
    (both-second (at-tok c.in_ok-expect.ensures.took) c.in_err-ops.ensures)))

pub block-returns : goal.block-returns
unfolding labelled
block-returns g t c = both-ok (at-tok c.in_ok-label.ensures)
    (both-ok (c.in_ok-args.ensures (reader-of no_customs generic-decides c.args.room))
    (both-ok (at-tok c.in_ok-expect.ensures.took) c.in_ok-ops.ensures))
