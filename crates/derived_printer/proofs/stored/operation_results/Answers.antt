use Rattle.std.proofs.Common.{◌+◌, ◌≤◌, ◌∙◌, sym, ap, length, max, arith, rules}
use Rattle.derived_printer.specs.ModuleMarks.{results_marks}
use Rattle.derived_printer.specs.ModuleParts.{op_here}
use Rattle.ir_store.proofs.Inside.{op-placed}
use Rattle.derived_printer.proofs.ModuleStored.{have-most}
use Rattle.derived_printer.proofs.ModuleWalk.{op-is}
use Rattle.derived_printer.proofs.Printing.{named}
use Rattle.derived_printer.proofs.stored.operation_results.Goals as goal

pub results-requires : goal.results-requires
results-requires g c =
    let m = c.args.m.now.store.now in
    let x = op_here m c.args.id in
    let is = op-is m c.args.id c.requires.known in
    let first = c.first_result-first.ensures.number x is in
    let count = ap (λ h. length h.results) (c.op.ensures.head x is) in
    let most = have-most m x.at.values x.head.results (op-placed m c.args.id x is).1 in
    let within : c.first_result-first.result + c.len-count.result
    ≤ max c.first_result-first.result c.values-values.result =
    omega (arith, first, count, c.len-count.ensures.value, c.values-values.ensures, most) in
    search rules

pub returns : goal.returns
returns g c =
    let m = c.args.m.now.store.now in
    let x = op_here m c.args.id in
    let is = op-is m c.args.id c.requires.known in
    let first = c.first_result-first.ensures.number x is in
    let count = ap (λ h. length h.results) (c.op.ensures.head x is) in
    named
    (ap (λ n. results_marks n (length x.head.results)) (sym first)
    ∙ ap (results_marks _) (count ∙ sym c.len-count.ensures.value))
    c.results.ensures
