use Rattle.derived_printer.proofs.ModuleForms.{some-arguments}
use Rattle.derived_printer.proofs.Printing.{exit, step, stop, named}
use Rattle.derived_printer.proofs.labels.arguments.Goals as goal

pub returns-in_err-sign : goal.returns-in_err-sign
returns-in_err-sign g c =
    named (some-arguments _ c.args.first c.args.count c.if-count-eq0.false)
    (exit c.from_residual.ensures (stop _ _ c.in_err-sign.ensures))

pub returns-in_err-argument_list : goal.returns-in_err-argument_list
returns-in_err-argument_list g c =
    named (some-arguments _ c.args.first c.args.count c.if-count-eq0.false)
    (exit c.from_residual-in_err-argument_list.ensures
    (step _ _ c.in_ok-sign.ensures (stop _ _ c.in_err-argument_list.ensures)))

pub returns : goal.returns
returns g c =
    named (some-arguments _ c.args.first c.args.count c.if-count-eq0.false)
    (step _ _ c.in_ok-sign.ensures (step _ _ c.in_ok-argument_list.ensures c.sign-2.ensures))
