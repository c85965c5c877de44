use Rattle.std.proofs.Common.{◌<◌, length, arith}
use Rattle.derived_printer.specs.ModuleParts.{block_here}
use Rattle.ir_store.proofs.Inside.{block-placed}
use Rattle.derived_printer.proofs.ModuleForms.{label-same}
use Rattle.derived_printer.proofs.ModuleStored.{have-seen, have-within}
use Rattle.derived_printer.proofs.ModuleWalk.{block-is}
use Rattle.derived_printer.proofs.Printing.{named}
use Rattle.derived_printer.proofs.labels.written_label.Goals as goal

pub label_line-requires-clause-known : goal.label_line-requires-clause-known
label_line-requires-clause-known g c =
    let m = c.args.m.now.store.now in
    let x = block_here m c.args.id in
    let is = block-is m c.args.id c.requires.known in
    let numbers = c.args_of-args.ensures.numbers x is in
    λ i less.
    let here : i < length x.args = omega (arith, less, numbers.1) in
    let within = have-within m x.at.values x.args (block-placed m c.args.id x is).1 i here in
    omega (arith, within, numbers.0)

pub returns : goal.returns
returns g c =
    let m = c.args.m.now in
    let x = block_here m.store.now c.args.id in
    let is = block-is m.store.now c.args.id c.requires.known in
    let numbers = c.args_of-args.ensures.numbers x is in
    named
    (label-same _ m.u.now c.args.indent c.args.place x.at.values _ _ x.args
    (have-seen m.form m.defs.now m.u.now m.store.now x.at.values x.args
    (block-placed m.store.now c.args.id x is).1) numbers.0 numbers.1)
    c.label_line.ensures
