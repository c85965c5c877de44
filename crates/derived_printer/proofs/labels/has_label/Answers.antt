use Rattle.std.proofs.Common.{◌∙◌, sym}
use Rattle.derived_printer.specs.ModuleParts.{block_here}
use Rattle.derived_printer.proofs.ModuleForms.{label-of-args, label-of-ops}
use Rattle.derived_printer.proofs.ModuleWalk.{block-is}
use Rattle.derived_printer.proofs.labels.has_label.Goals as goal

pub returns-then-count-ne0 : goal.returns-then-count-ne0
returns-then-count-ne0 c =
    let x = block_here c.args.store.now c.args.id in
    let count = (c.args_of-count.ensures.numbers x (block-is c.args.store.now c.args.id c.requires)).1 in
    label-of-args c.args.place x.args x.ops (λ none. c.if-count-ne0.true (count ∙ none))

pub returns : goal.returns
returns c =
    let x = block_here c.args.store.now c.args.id in
    let is = block-is c.args.store.now c.args.id c.requires in
    let count = (c.args_of-count.ensures.numbers x is).1 in
    c.is_empty.ensures
    ∙ label-of-ops c.args.store.now _ c.args.place x.args _ x.ops c.if-place-ne0.false
    (sym count ∙ c.if-count-ne0.false) (c.ops_of.ensures x is)
