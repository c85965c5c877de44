use Rattle.std.proofs.Common.{arith, ◌+◌, subst, sym, take}
use Rattle.std.proofs.lemmas.List.{take_all}
use Rattle.std.proofs.lemmas.Option.{slice_get-get_or}
use Rattle.elaborate.specs.Uses.{IsWrongUse}
use Rattle.first_fault.specs.Firsts.{IsFirst}
use Rattle.ir_store.specs.Modules.{types_in}
use Rattle.elaborate.proofs.WrongUses.{wrong-next}
use Rattle.elaborate.proofs.uses.first_of_uses.Goals as goal

pub loop-i-preserved : goal.loop-i-preserved
loop-i-preserved c =
    subst (λ f. IsFirst (IsWrongUse (types_in c.args.store.now)
    (take (c.loop-i.i + 1) c.args.uses.now) c.args.shown.now c.args.numbers.now) f)
    (sym c.earlier-first.ensures)
    (wrong-next (types_in c.args.store.now) c.args.uses.now c.loop-i.i c.index-uses-i.result
    c.args.shown.now c.args.numbers.now _ _ c.loop-i.first c.use_fault.result
    c.loop-i-test.true c.index-uses-i.is
    (slice_get-get_or c.args.shown.now c.loop-i.i (record { 0 = 0 })
    (let there = c.loop-i-test.true in let shown = c.requires.shown in omega arith))
    (slice_get-get_or c.args.numbers.now c.loop-i.i 0
    (let there = c.loop-i-test.true in let numbers = c.requires.numbers in omega arith))
    c.loop-i.invariant c.use_fault.ensures)

pub returns : goal.returns
returns c =
    subst (λ us. IsFirst (IsWrongUse (types_in c.args.store.now) us c.args.shown.now
    c.args.numbers.now) c.loop-i.first) (take_all c.loop-i.i c.args.uses.now (omega arith))
    c.loop-i.invariant
