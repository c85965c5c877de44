use Rattle.std.proofs.Common.{◌∙◌, List, ap, refl, sym, subst, length}
use Rattle.attr_value.specs.Values.{Value}
use Rattle.op_verifier.specs.Views.{HasFront}
use Rattle.op_verifier.proofs.Asking.{Decides-false}
use Rattle.op_verifier.proofs.AllParts.{operands-refuse, results-refuse}
use Rattle.op_verifier.proofs.AllParts.{attrs-refuse, parts-asked, successors-refuse}
use Rattle.op_verifier.proofs.Shown.{operands-shown, results-shown, attrs-shown}
use Rattle.op_verifier.proofs.wanted.Wanted.ask_parts.Goals as goal

pub returns-then-op-as_slice : goal.returns-then-op-as_slice
returns-then-op-as_slice c =
    let values = c.args.self.now.u.now in
    λ o shown. record {
      same = refl;
      decides = Decides-false (successors-refuse values c.args.def.now o c.args.self.now.slots.items
          c.args.self.now.slots.items
          c.args.self.now.slots.items
          c.args.self.now.slots.items
          (λ same. c.if-op-as_slice.true
          (sym shown.successors ∙ same ∙ ap length (sym c.as_slice.ensures))));
    }

pub ask_results-requires-clause-op : goal.ask_results-requires-clause-op
ask_results-requires-clause-op c = rw c.if-not-ask_operands.ensures.same c.requires.op

pub ask_attrs-requires-clause-op : goal.ask_attrs-requires-clause-op
ask_attrs-requires-clause-op c =
    rw (c.if-not-ask_results.ensures.same ∙ c.if-not-ask_operands.ensures.same) c.requires.op

pub ask_regions-requires-clause-known : goal.ask_regions-requires-clause-known
ask_regions-requires-clause-known c =
    rw (c.if-not-ask_attrs.ensures.same ∙ c.if-not-ask_results.ensures.same
    ∙ c.if-not-ask_operands.ensures.same) c.requires.op.regions

pub returns-then-not-ask_operands : goal.returns-then-not-ask_operands
returns-then-not-ask_operands c =
    let values = c.args.self.now.u.now in
    λ o shown. record {
      same = c.if-not-ask_operands.ensures.same;
      decides = Decides-false (operands-refuse values c.args.def.now o c.args.self.now.slots.items
          c.args.self.now.slots.items
          c.args.self.now.slots.items
          c.args.self.now.slots.items
          ((operands-shown shown c.args.def.now
          (rw c.as_slice-2.ensures at c.if-not-ask_operands.ensures.decides)).refuses refl));
    }

pub returns-then-not-ask_results : goal.returns-then-not-ask_results
returns-then-not-ask_results c =
    let values = c.args.self.now.u.now in
    let operands = c.if-not-ask_operands.ensures.same in
    λ o shown. record {
      same = c.if-not-ask_results.ensures.same ∙ operands;
      decides = Decides-false (results-refuse values c.args.def.now o c.args.self.now.slots.items
          c.ask_operands.new.self.slots.items
          c.ask_operands.new.self.slots.items
          c.args.self.now.slots.items
          ((operands-shown shown c.args.def.now
          (rw c.as_slice-2.ensures at c.if-not-ask_operands.ensures.decides)).asks refl)
          ((results-shown shown c.args.def.now
          (rw (c.as_slice-3.ensures, operands) at
          c.if-not-ask_results.ensures.decides)).refuses refl));
    }

pub returns-then-not-ask_attrs : goal.returns-then-not-ask_attrs
returns-then-not-ask_attrs c =
    let values = c.args.self.now.u.now in
    let operands = c.if-not-ask_operands.ensures.same in
    let results = c.if-not-ask_results.ensures.same ∙ operands in
    λ o shown. record {
      same = c.if-not-ask_attrs.ensures.same ∙ results;
      decides = Decides-false (attrs-refuse values c.args.def.now o c.args.self.now.slots.items
          c.ask_operands.new.self.slots.items
          c.ask_results.new.self.slots.items
          c.ask_results.new.self.slots.items
          ((operands-shown shown c.args.def.now
          (rw c.as_slice-2.ensures at c.if-not-ask_operands.ensures.decides)).asks refl)
          ((results-shown shown c.args.def.now
          (rw (c.as_slice-3.ensures, operands) at
          c.if-not-ask_results.ensures.decides)).asks refl)
          ((attrs-shown shown c.args.def.now
          (rw (c.as_slice-4.ensures, results) at
          c.if-not-ask_attrs.ensures.decides)).refuses refl));
    }

pub returns : goal.returns
returns c =
    let values = c.args.self.now.u.now in
    let operands = c.if-not-ask_operands.ensures.same in
    let results = c.if-not-ask_results.ensures.same ∙ operands in
    let attrs = c.if-not-ask_attrs.ensures.same ∙ results in
    λ o shown.
    let asked = c.ask_regions.ensures o.regions
    (subst (λ (vs : List Value). HasFront vs c.args.op.now.regions o.regions) (sym attrs)
    shown.regions) in
    record {
      same = asked.same ∙ attrs;
      decides = parts-asked values c.args.def.now o c.args.self.now.slots.items
          c.ask_operands.new.self.slots.items
          c.ask_results.new.self.slots.items
          c.ask_attrs.new.self.slots.items
          c.ask_regions.new.self.slots.items c.ask_regions.result
          (shown.successors ∙ c.if-op-as_slice.false ∙ ap length c.as_slice.ensures)
          ((operands-shown shown c.args.def.now
          (rw c.as_slice-2.ensures at c.if-not-ask_operands.ensures.decides)).asks refl)
          ((results-shown shown c.args.def.now
          (rw (c.as_slice-3.ensures, operands) at
          c.if-not-ask_results.ensures.decides)).asks refl)
          ((attrs-shown shown c.args.def.now
          (rw (c.as_slice-4.ensures, results) at
          c.if-not-ask_attrs.ensures.decides)).asks refl)
          (rw (c.as_slice-5.ensures, attrs) at asked.decides);
    }
