use Rattle.std.proofs.Common.{◌∙◌, ◌+◌, refl, ap, inl, inr, arith, subst}
use Rattle.std.specs.Slice.{IsItemAt}
use Rattle.value_meaning.proofs.Entering.{paired-none, paired-next, paired-all}
use Rattle.value_meaning.proofs.entries.paired.Goals as goal
use Rattle.value_meaning.proofs.entries.paired.Goals.{else-loop-entry-test, then-loop-entry-test+in_default}

pub loop-entry-init : goal.loop-entry-init
loop-entry-init c = (
  c.in_ok-pairs.ensures.len,
  paired-none c.args.entries.now c.args.ids.now c.in_ok-pairs.pairs.items
      c.in_ok-pairs.ensures.items,
)

pub loop-entry-preserved : goal.loop-entry-preserved
loop-entry-preserved c = (
  c.in_ok-push.ensures.len ∙ ap (λ k. k + 1) c.loop-entry.invariant.0,
  paired-next c.args.entries.now c.args.ids.now c.loop-entry.entry-index c.loop-entry.pairs.items
      c.push.new.self.items c.entry-item.result c.len.result c.in-Some.value _
      c.loop-entry.invariant.1 c.loop-entry-test.true c.entry-item.is
      (c.len.ensures ∙ c.loop-entry.invariant.0) c.in-Some.ensures.lookup
      c.in_ok-push.ensures.items c.bytes.ensures refl,
)

pub returns : goal.returns
returns c =
    paired-all c.args.entries.now c.args.ids.now c.loop-entry.entry-index c.loop-entry.pairs.items
    c.loop-entry.invariant.1
    (elim c.loop-entry-test.branch [
      | else-loop-entry-test w ↦ inl (omega (arith, w.loop-entry-test.false))
      | then-loop-entry-test+in_default w ↦
          let none = subst (IsItemAt c.args.ids.now w.len.result) w.in_default.is w.get.ensures.lookup in
          inr (omega (arith, none.3, w.len.ensures, c.loop-entry.invariant.0))
    ])
