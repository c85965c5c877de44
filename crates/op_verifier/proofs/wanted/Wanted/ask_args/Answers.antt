use Rattle.std.proofs.Common.{◌≡◌, ◌∙◌, Some, slice_get, ap, sym, refl, option_copied, arith}
use Rattle.std.proofs.lemmas.Option.{slice_get_within}
use Rattle.ir_store.specs.Numbering.{blocks_in}
use Rattle.op_verifier.proofs.Asking.{Decides-false}
use Rattle.op_verifier.proofs.RegionSteps.{first-block, args-count, args-asked}
use Rattle.op_verifier.proofs.RegionSteps.{args-there}
use Rattle.op_verifier.proofs.wanted.Wanted.ask_args.Goals as goal

pub args_of-first-requires : goal.args_of-first-requires
args_of-first-requires c =
    let values = c.args.self.now.u.now in
    let here : slice_get c.args.blocks.now 0 ≡ Some c.in-Some.block.now =
    sym c.first.ensures.value ∙ ap option_copied c.in-Some.is in
    let first = first-block c.args.store.now c.requires.blocks.0 values c.args.blocks.now
    c.in-Some.block.now c.requires.blocks.1 c.requires.blocks.2 here in
    slice_get_within (blocks_in c.args.store.now) c.in-Some.block.now.0 first.site first.named

pub returns-then-count-vars : goal.returns-then-count-vars
returns-then-count-vars c =
    let values = c.args.self.now.u.now in
    let here : slice_get c.args.blocks.now 0 ≡ Some c.in-Some.block.now =
    sym c.first.ensures.value ∙ ap option_copied c.in-Some.is in
    λ n bs are. record {
      same = refl;
      decides = Decides-false (args-count values c.args.store.now c.args.vars.now
          c.in-Some.block.now bs
          c.args.self.now.slots.items c.args_of-first.result.1
          (first-block c.args.store.now n values c.args.blocks.now c.in-Some.block.now bs are here)
          (λ x e. (c.args_of-first.ensures.numbers x e).1) c.if-count-vars.true);
    }

pub ask_each-requires-clause-there : goal.ask_each-requires-clause-there
ask_each-requires-clause-there c =
    let values = c.args.self.now.u.now in
    let here : slice_get c.args.blocks.now 0 ≡ Some c.in-Some.block.now =
    sym c.first.ensures.value ∙ ap option_copied c.in-Some.is in
    let first = first-block c.args.store.now c.requires.blocks.0 values c.args.blocks.now
    c.in-Some.block.now c.requires.blocks.1 c.requires.blocks.2 here in
    let count = (c.args_of-first.ensures.numbers first.site first.named).1 in
    let same = c.if-count-vars.false in
    λ i less. args-there c.args.store.now c.args_of-first.result.0 first.site.args
    (c.args_of-first.ensures.types first.site first.named) i (omega (arith, count, same, less))

pub returns : goal.returns
returns c =
    let values = c.args.self.now.u.now in
    let here : slice_get c.args.blocks.now 0 ≡ Some c.in-Some.block.now =
    sym c.first.ensures.value ∙ ap option_copied c.in-Some.is in
    λ n bs are. record {
      same = c.ask_each.ensures.same;
      decides = args-asked values c.args.store.now c.args.vars.now c.in-Some.block.now bs
          c.args.self.now.slots.items c.ask_each.new.self.slots.items c.ask_each.result
          c.args_of-first.result.1 c.args_of-first.result.0
          (first-block c.args.store.now n values c.args.blocks.now c.in-Some.block.now bs are here)
          c.args_of-first.ensures.numbers c.args_of-first.ensures.types c.if-count-vars.false
          c.ask_each.ensures.decides;
    }
