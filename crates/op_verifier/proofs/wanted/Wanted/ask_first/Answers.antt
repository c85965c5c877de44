use Rattle.std.proofs.Common.{◌≡◌, ◌∙◌, Bool, List, Some, slice_get, ap, sym, subst, refl, map, length}
use Rattle.std.proofs.Common.{option_copied}
use Rattle.std.specs.List.{AllByRecursion}
use Rattle.attr_value.specs.Ids.{AreKnown}
use Rattle.attr_value.specs.declared.head.ValueId.{ValueId}
use Rattle.dialect_defs.specs.Operations.{ArgsHave}
use Rattle.op_verifier.specs.Asked.{Decides}
use Rattle.op_verifier.specs.Seen.{values_at}
use Rattle.op_verifier.proofs.Asking.{Decides-false}
use Rattle.op_verifier.proofs.ListedSteps.{first-cut, first-count}
use Rattle.op_verifier.proofs.wanted.Wanted.ask_first.Goals as goal

pub ask_types-requires-clause-known : goal.ask_types-requires-clause-known
ask_types-requires-clause-known c =
    let here : slice_get c.args.blocks.now 0 ≡ Some c.in-Some.first.now =
    sym c.first.ensures.value ∙ ap option_copied c.in-Some.is in
    let (rest, cut) = first-cut c.args.blocks.now c.in-Some.first.now here in
    let known = subst (AllByRecursion (AreKnown (length c.args.self.now.u.now))) cut
    c.requires.known in
    rw c.as_slice.ensures known.0

pub returns-then-len-vars : goal.returns-then-len-vars
returns-then-len-vars c =
    let values = c.args.self.now.u.now in
    let here : slice_get c.args.blocks.now 0 ≡ Some c.in-Some.first.now =
    sym c.first.ensures.value ∙ ap option_copied c.in-Some.is in
    record {
      same = refl;
      decides = Decides-false (record {
        none = λ a w have. first-count a values c.args.vars.now c.args.blocks.now
            c.in-Some.first.now here (λ same. c.if-len-vars.true (c.len.ensures ∙ same)) have;
      });
    }

pub returns : goal.returns
returns c =
    let values = c.args.self.now.u.now in
    let here : slice_get c.args.blocks.now 0 ≡ Some c.in-Some.first.now =
    sym c.first.ensures.value ∙ ap option_copied c.in-Some.is in
    let (rest, cut) = first-cut c.args.blocks.now c.in-Some.first.now here in
    record {
      same = c.ask_types.ensures.same;
      decides = subst (λ (l : List (List ValueId)). Decides values c.args.self.now.slots.items
          c.ask_types.new.self.slots.items c.ask_types.result
          (λ a. ArgsHave a (Some c.args.vars.now) (map (values_at values) l))) (sym cut)
          (rw c.as_slice.ensures at c.ask_types.ensures.decides);
    }
