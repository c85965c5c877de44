use Rattle.std.proofs.Common.{◌≡◌, ◌∙◌, Some, ap, sym, subst, refl, map, length, IfSome, List, true, false, IsTrue}
use Rattle.std.proofs.lemmas.List.{length-map}
use Rattle.attr_value.specs.Values.{Value}
use Rattle.dialect_defs.specs.Operations.{ArgsHave}
use Rattle.op_verifier.specs.Asked.{Decides}
use Rattle.op_verifier.specs.Seen.{values_at}
use Rattle.op_verifier.proofs.Asking.{Decides-true, Decides-false}
use Rattle.op_verifier.proofs.RegionSteps.{region-asked, size-refuses, any-args}
use Rattle.op_verifier.proofs.wanted.Wanted.ask_blocks.Goals as goal

pub returns-then-not-has_size : goal.returns-then-not-has_size
returns-then-not-has_size c =
    let values = c.args.self.now.u.now in
    let seen = map (values_at values) c.args.blocks.now in
    record {
      same = refl;
      decides = Decides-false (size-refuses values c.args.entry.now seen c.args.self.now.slots.items
          (λ size.
          let counted = subst (λ k. IfSome c.args.entry.now.size (λ n. k ≡ n))
          (length-map c.args.blocks.now (values_at values)) size in
          let yes : IsTrue false = c.if-not-has_size.ensures.1 counted in
          absurd (cc yes)));
    }

pub returns-in-Some : goal.returns-in-Some
returns-in-Some c =
    let values = c.args.self.now.u.now in
    let seen = map (values_at values) c.args.blocks.now in
    record {
      same = c.ask_first.ensures.same;
      decides = region-asked values c.args.entry.now seen c.args.self.now.slots.items
          c.ask_first.new.self.slots.items c.ask_first.result
          (subst (λ k. IfSome c.args.entry.now.size (λ n. k ≡ n))
          (sym (length-map c.args.blocks.now (values_at values))) (c.if-not-has_size.ensures.0 refl))
          (subst (λ o. Decides values c.args.self.now.slots.items c.ask_first.new.self.slots.items
          c.ask_first.result (λ a. ArgsHave a o seen))
          (ap Some c.as_slice.ensures ∙ sym c.in-Some.is) c.ask_first.ensures.decides);
    }

pub returns-in-None : goal.returns-in-None
returns-in-None c =
    let values = c.args.self.now.u.now in
    let seen = map (values_at values) c.args.blocks.now in
    record {
      same = refl;
      decides = region-asked values c.args.entry.now seen c.args.self.now.slots.items
          c.args.self.now.slots.items true
          (subst (λ k. IfSome c.args.entry.now.size (λ n. k ≡ n))
          (sym (length-map c.args.blocks.now (values_at values))) (c.if-not-has_size.ensures.0 refl))
          (Decides-true (any-args values _ seen c.args.self.now.slots.items c.in-None.is));
    }
