use Rattle.std.proofs.Common.{refl}
use Rattle.format_checker.specs.declared.shown.Thing.TheVariants as thing
use Rattle.format_checker.specs.Tables.{flag}
use Rattle.format_checker.proofs.Completeness.{not-shown}
use Rattle.format_checker.proofs.complete.shows_all.Goals as goal

pub returns-then-not-has_all : goal.returns-then-not-has_all
returns-then-not-has_all c =
    let no = not-shown c.args.op.now c.args.elements.now c.args.shown.now (λ i. thing.Operand i)
    (flag c.args.shown.now.operands) c.len.result _ c.has_all.result c.requires.saw (λ k. refl)
    c.has_all.ensures c.len.ensures c.if-not-has_all.true in
    (no.0, λ all. no.1 all.operands)

pub returns-then-not-has_all-2 : goal.returns-then-not-has_all-2
returns-then-not-has_all-2 c =
    let no = not-shown c.args.op.now c.args.elements.now c.args.shown.now (λ i. thing.Region i)
    (flag c.args.shown.now.regions) c.len-2.result _ c.has_all-2.result c.requires.saw (λ k. refl)
    c.has_all-2.ensures c.len-2.ensures c.if-not-has_all-2.true in
    (no.0, λ all. no.1 all.regions)

pub returns-then-not-has_all-3 : goal.returns-then-not-has_all-3
returns-then-not-has_all-3 c =
    let no = not-shown c.args.op.now c.args.elements.now c.args.shown.now (λ i. thing.Successor i)
    (flag c.args.shown.now.successors) c.len-3.result _ c.has_all-3.result c.requires.saw (λ k. refl)
    c.has_all-3.ensures c.len-3.ensures c.if-not-has_all-3.true in
    (no.0, λ all. no.1 all.successors)
