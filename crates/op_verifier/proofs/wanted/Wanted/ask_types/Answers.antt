use Rattle.std.proofs.Common.{◌≡◌, ◌∙◌, ◌≤◌, refl, length, arith}
use Rattle.std.proofs.Math.ListN.{drop_of_length-le}
use Rattle.std.proofs.lemmas.List.{length-map}
use Rattle.std.proofs.lemmas.Option.{slice_get-get_or}
use Rattle.attr_value.specs.Ids.{at}
use Rattle.attr_value.specs.declared.head.ValueId.{ValueId}
use Rattle.op_verifier.specs.Seen.{values_at}
use Rattle.op_verifier.proofs.Asking.{rest-step, rest-refused, rest-end, Decides-true}
use Rattle.op_verifier.proofs.Asking.{Decides-false}
use Rattle.op_verifier.proofs.ListedSteps.{types-first, types-joined, no-types}
use Rattle.op_verifier.proofs.Walks.{known-at}
use Rattle.op_verifier.proofs.wanted.Wanted.ask_types.Goals as goal

pub ask-requires-clause-id : goal.ask-requires-clause-id
ask-requires-clause-id c =
    let type = slice_get-get_or c.args.types.now c.loop-i.i (record { 0 = 0 }) (omega arith) in
    rw c.loop-i.invariant.same (known-at _ c.args.types.now c.loop-i.i _ c.requires.known type)

pub returns-then-not-ask : goal.returns-then-not-ask
returns-then-not-ask c =
    let values = c.args.self.now.u.now in
    let var = slice_get-get_or c.args.vars.now c.loop-i.i (record { 0 = 0 }) c.loop-i-test.true in
    let type = slice_get-get_or c.args.types.now c.loop-i.i (record { 0 = 0 }) (omega arith) in
    record {
      same = c.if-not-ask.ensures.same ∙ c.loop-i.invariant.same;
      decides = Decides-false (rest-refused c.loop-i.invariant.rest
          (λ a have. (types-first values c.args.vars.now c.args.types.now c.loop-i.i _ _ a var type
          have).0)
          (rw c.loop-i.invariant.same at (c.if-not-ask.ensures.decides.refuses refl)));
    }

pub loop-i-preserved : goal.loop-i-preserved
loop-i-preserved c =
    let values = c.args.self.now.u.now in
    let var = slice_get-get_or c.args.vars.now c.loop-i.i (record { 0 = 0 }) c.loop-i-test.true in
    let type = slice_get-get_or c.args.types.now c.loop-i.i (record { 0 = 0 }) (omega arith) in
    record {
      same = c.if-not-ask.ensures.same ∙ c.loop-i.invariant.same;
      rest = rest-step c.loop-i.invariant.rest
          (λ a have. types-first values c.args.vars.now c.args.types.now c.loop-i.i _ _ a var type
          have)
          (λ a first later. types-joined values c.args.vars.now c.args.types.now c.loop-i.i _ _ a
          var type first later)
          (rw c.loop-i.invariant.same at (c.if-not-ask.ensures.decides.asks refl));
    }

pub returns : goal.returns
returns c =
    let values = c.args.self.now.u.now in
    let vs = values_at values c.args.types.now in
    let long : length vs ≡ length c.args.types.now =
    length-map c.args.types.now (λ (id : ValueId). at values id.0) in
    let past : length vs ≤ c.loop-i.i = omega arith in
    record {
      same = c.loop-i.invariant.same;
      decides = Decides-true (rest-end c.loop-i.invariant.rest
          (λ a. no-types a c.args.vars.now vs c.loop-i.i
          (drop_of_length-le c.args.vars.now {i = c.loop-i.i} c.loop-i-test.false)
          (drop_of_length-le vs {i = c.loop-i.i} past)));
    }
