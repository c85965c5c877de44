use Rattle.std.proofs.Common.{◌≡◌, ◌∙◌, Some, ap, sym, subst, IfSome}
use Rattle.std.proofs.Common.{refl, true, false, IsTrue}
use Rattle.dialect_defs.specs.Operations.{ArgsHave}
use Rattle.ir_store.specs.Numbering.{regions_in, past_region}
use Rattle.op_verifier.specs.Asked.{Decides}
use Rattle.op_verifier.specs.Seen.{blocks_seen}
use Rattle.op_verifier.proofs.Asking.{Decides-true, Decides-false}
use Rattle.op_verifier.proofs.RegionSteps.{an-element, blocks-count, region-asked}
use Rattle.op_verifier.proofs.RegionSteps.{size-refuses, any-args}
use Rattle.op_verifier.proofs.wanted.Wanted.ask_region.Goals as goal

pub returns-then-not-has_size : goal.returns-then-not-has_size
returns-then-not-has_size c =
    let values = c.args.self.now.u.now in
    λ x e. record {
      same = refl;
      decides = Decides-false (size-refuses values c.args.entry.now (blocks_seen values
          x.blocks)
          c.args.self.now.slots.items
          (λ size.
          let count = blocks-count c.args.store.now (past_region x.at) values
          c.blocks_of-blocks.result.now x.blocks (c.blocks_of-blocks.ensures x e) in
          let counted = subst (λ k. IfSome c.args.entry.now.size (λ n. k ≡ n)) (sym count) size in
          let yes : IsTrue false = c.if-not-has_size.ensures.1 counted in
          absurd (cc yes)));
    }

pub ask_args-requires-clause-blocks : goal.ask_args-requires-clause-blocks
ask_args-requires-clause-blocks c =
    let x = an-element (regions_in c.args.store.now) c.args.region.0 c.requires.region in
    (past_region x.0.at, x.0.blocks, c.blocks_of-blocks.ensures x.0 x.1)

pub returns-in-Some : goal.returns-in-Some
returns-in-Some c =
    let values = c.args.self.now.u.now in
    λ x e.
    let are = c.blocks_of-blocks.ensures x e in
    let count = blocks-count c.args.store.now (past_region x.at) values
    c.blocks_of-blocks.result.now x.blocks are in
    let size = c.if-not-has_size.ensures.0 refl in
    record {
      same = (c.ask_args.ensures (past_region x.at) x.blocks are).same;
      decides = region-asked values c.args.entry.now
          (blocks_seen values x.blocks)
          c.args.self.now.slots.items c.ask_args.new.self.slots.items c.ask_args.result
          (subst (λ k. IfSome c.args.entry.now.size (λ n. k ≡ n)) count size)
          (subst (λ o. Decides values c.args.self.now.slots.items c.ask_args.new.self.slots.items
          c.ask_args.result (λ a. ArgsHave a o (blocks_seen values x.blocks)))
          (ap Some c.as_slice.ensures ∙ sym c.in-Some.is)
          (c.ask_args.ensures (past_region x.at) x.blocks are).decides);
    }

pub returns-in-None : goal.returns-in-None
returns-in-None c =
    let values = c.args.self.now.u.now in
    λ x e.
    let count = blocks-count c.args.store.now (past_region x.at) values
    c.blocks_of-blocks.result.now x.blocks (c.blocks_of-blocks.ensures x e) in
    let size = c.if-not-has_size.ensures.0 refl in
    record {
      same = refl;
      decides = region-asked values c.args.entry.now
          (blocks_seen values x.blocks)
          c.args.self.now.slots.items c.args.self.now.slots.items true
          (subst (λ k. IfSome c.args.entry.now.size (λ n. k ≡ n)) count size)
          (Decides-true (any-args values _ (blocks_seen values x.blocks)
          c.args.self.now.slots.items c.in-None.is));
    }
