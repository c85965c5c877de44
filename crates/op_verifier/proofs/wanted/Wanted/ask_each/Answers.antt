use Rattle.std.proofs.Common.{◌∙◌, ◌<◌, get_or, refl, length, subst, sym}
use Rattle.std.proofs.lemmas.Option.{slice_get-get_or}
use Rattle.attr_value.specs.Ids.{at}
use Rattle.attr_value.specs.declared.head.ValueId.{ValueId}
use Rattle.dialect_defs.specs.Assignments.{Has}
use Rattle.op_verifier.specs.Asked.{Asks, Refuses}
use Rattle.op_verifier.proofs.Asking.{rest-step, rest-refused, rest-end, Decides-true}
use Rattle.op_verifier.proofs.Asking.{Decides-false}
use Rattle.op_verifier.proofs.RegionSteps.{each-first, each-joined, each-none, type-known}
use Rattle.op_verifier.proofs.wanted.Wanted.ask_each.Goals as goal

pub ask-requires-clause-id : goal.ask-requires-clause-id
ask-requires-clause-id c =
    let within = c.requires.there c.loop-i.i c.loop-i-test.true in
    rw c.loop-i.invariant.same
    (subst (λ (id : ValueId). id.0 < length c.args.self.now.u.now) (sym c.type_of.ensures)
    (type-known _ c.args.store.now _ c.requires.known within))

pub returns-then-not-ask : goal.returns-then-not-ask
returns-then-not-ask c =
    let values = c.args.self.now.u.now in
    let var = slice_get-get_or c.args.vars.now c.loop-i.i (record { 0 = 0 }) c.loop-i-test.true in
    record {
      same = c.if-not-ask.ensures.same ∙ c.loop-i.invariant.same;
      decides = Decides-false (rest-refused c.loop-i.invariant.rest
          (λ a have. (each-first values c.args.store.now c.args.vars.now c.args.first c.loop-i.i _
          a var c.loop-i-test.true have).0)
          (subst (λ (id : ValueId). Refuses values c.loop-i.self.slots.items
          (λ a.
          Has a (get_or c.args.vars.now c.loop-i.i (record { 0 = 0 }))
          (at values id.0)))
          c.type_of.ensures
          (rw c.loop-i.invariant.same at (c.if-not-ask.ensures.decides.refuses refl))));
    }

pub loop-i-preserved : goal.loop-i-preserved
loop-i-preserved c =
    let values = c.args.self.now.u.now in
    let var = slice_get-get_or c.args.vars.now c.loop-i.i (record { 0 = 0 }) c.loop-i-test.true in
    record {
      same = c.if-not-ask.ensures.same ∙ c.loop-i.invariant.same;
      rest = rest-step c.loop-i.invariant.rest
          (λ a have. each-first values c.args.store.now c.args.vars.now c.args.first c.loop-i.i _
          a var c.loop-i-test.true have)
          (λ a here later. each-joined values c.args.store.now c.args.vars.now c.args.first
          c.loop-i.i _ a var c.loop-i-test.true here later)
          (subst (λ (id : ValueId). Asks values c.loop-i.self.slots.items
          c.ask.new.self.slots.items (λ a.
          Has a (get_or c.args.vars.now c.loop-i.i (record { 0 = 0 }))
          (at values id.0)))
          c.type_of.ensures
          (rw c.loop-i.invariant.same at (c.if-not-ask.ensures.decides.asks refl)));
    }

pub returns : goal.returns
returns c =
    let values = c.args.self.now.u.now in
    record {
      same = c.loop-i.invariant.same;
      decides = Decides-true (rest-end c.loop-i.invariant.rest
          (λ a. each-none values c.args.store.now c.args.vars.now c.args.first c.loop-i.i a
          c.loop-i-test.false));
    }
