use Rattle.std.proofs.Common.{◌∙◌, sym, subst, arith, refl}
use Rattle.std.proofs.Math.ListN.{drop_of_length-le}
use Rattle.std.proofs.lemmas.Option.{slice_get_read}
use Rattle.std.specs.List.{AllByRecursion}
use Rattle.dialect_defs.specs.declared.entry.AttrEntry.{AttrEntry}
use Rattle.dialect_defs.specs.Assignments.{Assignment}
use Rattle.dialect_defs.specs.Operations.{AttrHas, attr_at}
use Rattle.op_verifier.specs.Views.{view_attrs}
use Rattle.op_verifier.proofs.Asking.{rest-step, rest-refused, rest-end, Decides-true}
use Rattle.op_verifier.proofs.Asking.{Decides-false}
use Rattle.op_verifier.proofs.Walks.{drop-next, all-get}
use Rattle.op_verifier.proofs.wanted.Wanted.ask_attrs.Goals as goal

pub ask_attr-requires-clause-var : goal.ask_attr-requires-clause-var
ask_attr-requires-clause-var c =
    let entry = slice_get_read c.args.entries.now _ c.loop-entry.entry-index c.entry-item.result
    refl c.loop-entry-test.true c.entry-item.is in
    let below = all-get _ c.args.entries.now c.loop-entry.entry-index _ c.requires.vars entry in
    omega (arith, below, c.loop-entry.invariant.rest.size)

pub returns-then-not-ask_attr : goal.returns-then-not-ask_attr
returns-then-not-ask_attr c =
    let Met : Assignment → AttrEntry → Type 0 = λ a entry. AttrHas a entry (attr_at
    (view_attrs c.args.self.now.u.now c.args.op.now) entry.name) in
    let next = drop-next c.args.entries.now c.loop-entry.entry-index c.entry-item.result
    (slice_get_read c.args.entries.now _ c.loop-entry.entry-index c.entry-item.result
    refl c.loop-entry-test.true c.entry-item.is) in
    record {
      same = c.if-not-ask_attr.ensures.same ∙ c.loop-entry.invariant.same;
      decides = Decides-false (rest-refused c.loop-entry.invariant.rest
          (λ a all. (subst (AllByRecursion (Met a)) next all).0)
          (rw c.loop-entry.invariant.same at (c.if-not-ask_attr.ensures.decides.refuses refl)));
    }

pub loop-entry-preserved : goal.loop-entry-preserved
loop-entry-preserved c =
    let Met : Assignment → AttrEntry → Type 0 = λ a entry. AttrHas a entry (attr_at
    (view_attrs c.args.self.now.u.now c.args.op.now) entry.name) in
    let next = drop-next c.args.entries.now c.loop-entry.entry-index c.entry-item.result
    (slice_get_read c.args.entries.now _ c.loop-entry.entry-index c.entry-item.result
    refl c.loop-entry-test.true c.entry-item.is) in
    record {
      same = c.if-not-ask_attr.ensures.same ∙ c.loop-entry.invariant.same;
      rest = rest-step c.loop-entry.invariant.rest
          (λ a all. subst (AllByRecursion (Met a)) next all)
          (λ a here later. subst (AllByRecursion (Met a)) (sym next) (here, later))
          (rw c.loop-entry.invariant.same at (c.if-not-ask_attr.ensures.decides.asks refl));
    }

pub returns : goal.returns
returns c =
    let Met : Assignment → AttrEntry → Type 0 = λ a entry. AttrHas a entry (attr_at
    (view_attrs c.args.self.now.u.now c.args.op.now) entry.name) in
    let none = drop_of_length-le c.args.entries.now {i = c.loop-entry.entry-index}
    c.loop-entry-test.false in
    record {
      same = c.loop-entry.invariant.same;
      decides = Decides-true (rest-end c.loop-entry.invariant.rest
          (λ a. subst (AllByRecursion (Met a)) (sym none) tt));
    }
