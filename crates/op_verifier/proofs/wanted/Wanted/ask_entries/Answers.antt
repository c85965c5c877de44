use Rattle.std.proofs.Common.{◌∙◌, ◌≤◌, length, refl, arith}
use Rattle.std.proofs.Math.ListN.{drop_of_length-le}
use Rattle.std.proofs.lemmas.Option.{slice_get_read, slice_get-get_or}
use Rattle.op_verifier.specs.Seen.{values_at}
use Rattle.op_verifier.specs.Types.{ids_of}
use Rattle.op_verifier.proofs.Asking.{rest-step, rest-refused, rest-end, Decides-true}
use Rattle.op_verifier.proofs.Asking.{Decides-false}
use Rattle.op_verifier.proofs.PartSteps.{segment-first, segment-joined, sum-next, all-entries}
use Rattle.op_verifier.proofs.wanted.Wanted.ask_entries.Goals as goal

pub overflow_add-end : goal.overflow_add-end
overflow_add-end c =
    let size = slice_get-get_or c.args.sizes.now c.loop-i.i 0 (omega arith) in
    omega (arith, sum-next c.args.sizes.now c.loop-i.i _ size)

pub ask_all-requires-clause-within : goal.ask_all-requires-clause-within
ask_all-requires-clause-within c =
    let size = slice_get-get_or c.args.sizes.now c.loop-i.i 0 (omega arith) in
    omega (arith, sum-next c.args.sizes.now c.loop-i.i _ size)

pub returns-then-not-ask_all : goal.returns-then-not-ask_all
returns-then-not-ask_all c =
    let entry = slice_get_read c.args.entries.now _ c.loop-i.i c.index-entries-i.result
    refl c.loop-i-test.true c.index-entries-i.is in
    let size = slice_get-get_or c.args.sizes.now c.loop-i.i 0 (omega arith) in
    let vs = values_at c.args.self.now.u.now (ids_of c.args.types.now) in
    record {
      same = c.if-not-ask_all.ensures.same ∙ c.loop-i.invariant.same;
      decides = Decides-false (rest-refused c.loop-i.invariant.rest
          (λ a have. (segment-first c.args.entries.now c.args.sizes.now vs c.loop-i.i c.loop-i.start
          c.index-entries-i.result _ a entry size have).0)
          (rw c.loop-i.invariant.same at (c.if-not-ask_all.ensures.decides.refuses refl)));
    }

pub loop-i-preserved : goal.loop-i-preserved
loop-i-preserved c =
    let entry = slice_get_read c.args.entries.now _ c.loop-i.i c.index-entries-i.result
    refl c.loop-i-test.true c.index-entries-i.is in
    let size = slice_get-get_or c.args.sizes.now c.loop-i.i 0 (omega arith) in
    let vs = values_at c.args.self.now.u.now (ids_of c.args.types.now) in
    record {
      same = c.if-not-ask_all.ensures.same ∙ c.loop-i.invariant.same;
      total = omega (arith, sum-next c.args.sizes.now c.loop-i.i _ size);
      rest = rest-step c.loop-i.invariant.rest
          (λ a have. segment-first c.args.entries.now c.args.sizes.now vs c.loop-i.i c.loop-i.start
          c.index-entries-i.result _ a entry size have)
          (λ a here later. segment-joined c.args.entries.now c.args.sizes.now vs c.loop-i.i
          c.loop-i.start c.index-entries-i.result _ a entry size here later)
          (rw c.loop-i.invariant.same at (c.if-not-ask_all.ensures.decides.asks refl));
    }

pub returns : goal.returns
returns c =
    let past : length c.args.sizes.now ≤ c.loop-i.i = omega arith in
    record {
      same = c.loop-i.invariant.same;
      decides = Decides-true (rest-end c.loop-i.invariant.rest
          (λ a. all-entries a c.args.entries.now c.args.sizes.now c.loop-i.i _
          (drop_of_length-le c.args.entries.now {i = c.loop-i.i} c.loop-i-test.false)
          (drop_of_length-le c.args.sizes.now {i = c.loop-i.i} past)));
    }
