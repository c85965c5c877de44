use Rattle.std.proofs.Common.{arith, refl}
use Rattle.std.proofs.lemmas.Bool.{false≢true}
use Rattle.type_infer.proofs.Lent.{ordered-attrs, ordered-body, ordered-entries, ordered-vars}
use Rattle.type_infer.proofs.ordered.has_ordered_body.Goals as goal

pub returns-then-not-are_ordered : goal.returns-then-not-are_ordered
returns-then-not-are_ordered c = (
  λ never. absurd (false≢true never),
  λ has. c.if-not-are_ordered.ensures.1
      (ordered-vars c.args.op.now c.as_slice-vars.result.now c.as_slice-vars.ensures has),
)

pub returns-then-not-are_entries_below : goal.returns-then-not-are_entries_below
returns-then-not-are_entries_below c = (
  λ never. absurd (false≢true never),
  λ has. c.if-not-are_entries_below.ensures.1
      (ordered-entries c.args.op.now c.as_slice-vars.result.now c.as_slice-vars.ensures
      c.args.op.now.operands c.as_slice.result.now c.as_slice.ensures has.operands),
)

pub returns-then-not-are_entries_below-2 : goal.returns-then-not-are_entries_below-2
returns-then-not-are_entries_below-2 c = (
  λ never. absurd (false≢true never),
  λ has. c.if-not-are_entries_below-2.ensures.1
      (ordered-entries c.args.op.now c.as_slice-vars.result.now c.as_slice-vars.ensures
      c.args.op.now.results c.as_slice-2.result.now c.as_slice-2.ensures has.results),
)

pub returns : goal.returns
returns c = (
  λ yes. ordered-body c.args.op.now c.as_slice-vars.result.now c.as_slice-vars.ensures
      c.as_slice.result.now c.as_slice-2.result.now c.as_slice-3.result.now c.as_slice.ensures
      c.as_slice-2.ensures c.as_slice-3.ensures
      (omega (arith, c.if-vars-gt-VARIABLE_LIMIT.false))
      (c.if-not-are_ordered.ensures.0 refl) (c.if-not-are_entries_below.ensures.0 refl)
      (c.if-not-are_entries_below-2.ensures.0 refl) (c.are_attrs_below.ensures.0 yes),
  λ has. c.are_attrs_below.ensures.1
      (ordered-attrs c.args.op.now c.as_slice-vars.result.now c.as_slice-vars.ensures
      c.args.op.now.attrs c.as_slice-3.result.now c.as_slice-3.ensures has.attrs),
)
