use Rattle.std.proofs.Common.{◌≤◌, ◌∙◌, arith, length, refl}
use Rattle.std.proofs.lemmas.Option.{slice_get_within, slice_get_read, slice_get-get_or}
use Rattle.ir_store.specs.Numbering.{ops_in, regions_in, past_op}
use Rattle.op_verifier.proofs.Asking.{Decides-true, Decides-false}
use Rattle.op_verifier.proofs.RegionSteps.{an-element, region-next, regions-start, regions-step}
use Rattle.op_verifier.proofs.RegionSteps.{regions-refuse, regions-end, regions-count}
use Rattle.op_verifier.proofs.wanted.Wanted.ask_stored.Goals as goal

pub returns-then-regions-entries : goal.returns-then-regions-entries
returns-then-regions-entries c =
    let values = c.args.self.now.u.now in
    λ x e. record {
      same = refl;
      decides = Decides-false (regions-count values c.args.store.now (past_op x.at x.head)
          c.args.entries.now
          c.regions_of-regions.result.now c.args.self.now.slots.items x.regions
          (c.regions_of-regions.ensures x e) c.if-regions-entries.true);
    }

pub loop-i-init : goal.loop-i-init
loop-i-init c = record {
  same = refl;
  size = refl;
  state = λ x e. regions-start c.args.self.now.u.now c.args.store.now (past_op x.at x.head)
      c.args.entries.now c.regions_of-regions.result.now c.args.self.now.slots.items x.regions
      (c.regions_of-regions.ensures x e);
}

pub ask_region-requires-clause-region : goal.ask_region-requires-clause-region
ask_region-requires-clause-region c =
    let values = c.args.self.now.u.now in
    let id = slice_get-get_or c.regions_of-regions.result.now c.loop-i.i (record { 0 = 0 })
    (omega arith) in
    let x = an-element (ops_in c.args.store.now) c.args.op.0 c.requires.op in
    let state = c.loop-i.invariant.state x.0 x.1 in
    let next = region-next values c.args.store.now state.c c.regions_of-regions.result.now
    c.loop-i.i _ state.left id state.are in
    slice_get_within (regions_in c.args.store.now) _ next.site next.named

pub returns-then-not-ask_region : goal.returns-then-not-ask_region
returns-then-not-ask_region c =
    let values = c.args.self.now.u.now in
    let id = slice_get-get_or c.regions_of-regions.result.now c.loop-i.i (record { 0 = 0 })
    (omega arith) in
    let entry = slice_get_read c.args.entries.now _ c.loop-i.i c.index-entries-i.result
    refl c.loop-i-test.true c.index-entries-i.is in
    let x = an-element (ops_in c.args.store.now) c.args.op.0 c.requires.op in
    let state = c.loop-i.invariant.state x.0 x.1 in
    let next = region-next values c.args.store.now state.c
    c.regions_of-regions.result.now c.loop-i.i _ state.left id state.are in
    λ x e. record {
      same = (c.if-not-ask_region.ensures next.site next.named).same ∙ c.loop-i.invariant.same;
      decides = Decides-false (regions-refuse values c.args.store.now c.args.entries.now
          c.regions_of-regions.result.now c.loop-i.i c.index-entries-i.result _
          c.args.self.now.slots.items c.loop-i.self.slots.items x.regions entry id
          (c.loop-i.invariant.state x e)
          (λ y f. rw c.loop-i.invariant.same at
          ((c.if-not-ask_region.ensures y f).decides.refuses refl)));
    }

pub loop-i-preserved : goal.loop-i-preserved
loop-i-preserved c =
    let values = c.args.self.now.u.now in
    let id = slice_get-get_or c.regions_of-regions.result.now c.loop-i.i (record { 0 = 0 })
    (omega arith) in
    let entry = slice_get_read c.args.entries.now _ c.loop-i.i c.index-entries-i.result
    refl c.loop-i-test.true c.index-entries-i.is in
    let x = an-element (ops_in c.args.store.now) c.args.op.0 c.requires.op in
    let state = c.loop-i.invariant.state x.0 x.1 in
    let next = region-next values c.args.store.now state.c c.regions_of-regions.result.now
    c.loop-i.i _ state.left id state.are in
    let asked = c.if-not-ask_region.ensures next.site next.named in
    record {
      same = asked.same ∙ c.loop-i.invariant.same;
      size = (asked.decides.asks refl).size ∙ c.loop-i.invariant.size;
      state = λ x e. regions-step values c.args.store.now c.args.entries.now
          c.regions_of-regions.result.now c.loop-i.i c.index-entries-i.result _
          c.args.self.now.slots.items c.loop-i.self.slots.items x.regions
          c.ask_region.new.self.slots.items entry id (c.loop-i.invariant.state x e)
          (λ y f. rw c.loop-i.invariant.same at
          ((c.if-not-ask_region.ensures y f).decides.asks refl));
    }

pub returns : goal.returns
returns c =
    let passed : length c.regions_of-regions.result.now ≤ c.loop-i.i = omega arith in
    λ x e. record {
      same = c.loop-i.invariant.same;
      decides = Decides-true (regions-end c.args.self.now.u.now c.args.store.now c.args.entries.now
          c.regions_of-regions.result.now c.loop-i.i c.args.self.now.slots.items
          c.loop-i.self.slots.items x.regions c.loop-i-test.false passed
          (c.loop-i.invariant.state x e));
    }
