use Rattle.derived_printer.proofs.ModuleForms.{outs-bare, outs-listed}
use Rattle.derived_printer.proofs.Printing.{named}
use Rattle.derived_printer.proofs.stored.result_types.Goals as goal

pub returns-then-stands_bare : goal.returns-then-stands_bare
returns-then-stands_bare g c =
    named
    (outs-bare c.args.u.now c.args.types.now _ c.stands_bare.ensures c.if-stands_bare.true)
    c.commas.ensures

pub returns : goal.returns
returns g c =
    named
    (outs-listed c.args.u.now c.args.types.now _ c.stands_bare.ensures c.if-stands_bare.false)
    c.enclosed.ensures
