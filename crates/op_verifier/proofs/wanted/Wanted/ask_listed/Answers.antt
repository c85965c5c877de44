use Rattle.std.proofs.Common.{◌≡◌, ◌∙◌, ◌≤◌, List, length, refl, arith, map, ap, sym, subst, take, ◌-◌, drop}
use Rattle.std.proofs.Math.ListN.{drop_of_length-le}
use Rattle.std.proofs.lemmas.Option.{slice_get_read, slice_get-get_or}
use Rattle.attr_value.specs.Values.{Value}
use Rattle.dialect_defs.specs.Operations.{RegionHas}
use Rattle.op_verifier.specs.Asked.{Asks, Refuses}
use Rattle.op_verifier.specs.Seen.{values_at}
use Rattle.op_verifier.proofs.Asking.{rest-step, rest-refused, rest-end, Decides-true}
use Rattle.op_verifier.proofs.Asking.{Decides-false}
use Rattle.op_verifier.proofs.ListedSteps.{listed-first, listed-joined, no-regions-left}
use Rattle.op_verifier.proofs.ListedSteps.{parts-count, all-between, blocks-between}
use Rattle.op_verifier.proofs.PartSteps.{sum-next}
use Rattle.op_verifier.proofs.RegionSteps.{regions-have-length}
use Rattle.op_verifier.proofs.wanted.Wanted.ask_listed.Goals as goal

pub returns-then-counts-entries : goal.returns-then-counts-entries
returns-then-counts-entries c =
    let bs = map (values_at c.args.self.now.u.now) c.args.args.now in
    record {
      same = refl;
      decides = Decides-false (record {
        none = λ a w have. c.if-counts-entries.true (sym (parts-count c.args.counts.now bs)
            ∙ sym (regions-have-length a c.args.entries.now _ have));
      });
    }

pub overflow_add-end : goal.overflow_add-end
overflow_add-end c =
    let size = slice_get-get_or c.args.counts.now c.loop-i.i 0 (omega arith) in
    omega (arith, sum-next c.args.counts.now c.loop-i.i _ size)

pub ask_blocks-requires-clause-known : goal.ask_blocks-requires-clause-known
ask_blocks-requires-clause-known c =
    rw c.loop-i.invariant.same
    (all-between _ c.args.args.now c.loop-i.start _ c.requires.known)

pub returns-then-not-ask_blocks : goal.returns-then-not-ask_blocks
returns-then-not-ask_blocks c =
    let entry = slice_get_read c.args.entries.now _ c.loop-i.i c.index-entries-i.result
    refl c.loop-i-test.true c.index-entries-i.is in
    let size = slice_get-get_or c.args.counts.now c.loop-i.i 0 (omega arith) in
    let values = c.args.self.now.u.now in
    let bs = map (values_at values) c.args.args.now in
    record {
      same = c.if-not-ask_blocks.ensures.same ∙ c.loop-i.invariant.same;
      decides = Decides-false (rest-refused c.loop-i.invariant.rest
          (λ a have. (listed-first c.args.entries.now c.args.counts.now bs c.loop-i.i
          c.loop-i.start c.index-entries-i.result _ a entry size have).0)
          (subst (λ (l : List (List Value)). Refuses values c.loop-i.self.slots.items
          (λ a. RegionHas a c.index-entries-i.result l))
          (blocks-between values c.args.args.now c.loop-i.start _)
          (rw c.loop-i.invariant.same at (c.if-not-ask_blocks.ensures.decides.refuses refl))));
    }

pub loop-i-preserved : goal.loop-i-preserved
loop-i-preserved c =
    let entry = slice_get_read c.args.entries.now _ c.loop-i.i c.index-entries-i.result
    refl c.loop-i-test.true c.index-entries-i.is in
    let size = slice_get-get_or c.args.counts.now c.loop-i.i 0 (omega arith) in
    let values = c.args.self.now.u.now in
    let bs = map (values_at values) c.args.args.now in
    record {
      same = c.if-not-ask_blocks.ensures.same ∙ c.loop-i.invariant.same;
      total = omega (arith, sum-next c.args.counts.now c.loop-i.i _ size);
      rest = rest-step c.loop-i.invariant.rest
          (λ a have. listed-first c.args.entries.now c.args.counts.now bs c.loop-i.i c.loop-i.start
          c.index-entries-i.result _ a entry size have)
          (λ a here later. listed-joined c.args.entries.now c.args.counts.now bs c.loop-i.i
          c.loop-i.start c.index-entries-i.result _ a entry size here later)
          (subst (λ (l : List (List Value)). Asks values c.loop-i.self.slots.items
          c.ask_blocks.new.self.slots.items (λ a. RegionHas a c.index-entries-i.result l))
          (blocks-between values c.args.args.now c.loop-i.start _)
          (rw c.loop-i.invariant.same at (c.if-not-ask_blocks.ensures.decides.asks refl)));
    }

pub returns : goal.returns
returns c =
    let past : length c.args.counts.now ≤ c.loop-i.i = omega arith in
    record {
      same = c.loop-i.invariant.same;
      decides = Decides-true (rest-end c.loop-i.invariant.rest
          (λ a. no-regions-left a c.args.entries.now c.args.counts.now c.loop-i.i _
          (drop_of_length-le c.args.entries.now {i = c.loop-i.i} c.loop-i-test.false)
          (drop_of_length-le c.args.counts.now {i = c.loop-i.i} past)));
    }
