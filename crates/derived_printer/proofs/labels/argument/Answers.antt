use Rattle.derived_printer.proofs.Printing.{exit, step, stop}
use Rattle.derived_printer.proofs.labels.argument.Goals as goal

pub returns-in_err-value_name : goal.returns-in_err-value_name
returns-in_err-value_name g c =
    exit c.from_residual.ensures (stop _ _ c.in_err-value_name.ensures)

pub returns-in_err-sign : goal.returns-in_err-sign
returns-in_err-sign g c =
    exit c.from_residual-in_err-sign.ensures (step _ _ c.in_ok-value_name.ensures (stop _ _ c.in_err-sign.ensures))

pub returns : goal.returns
returns g c =
    step _ _ c.in_ok-value_name.ensures (step _ _ c.in_ok-sign.ensures (c.value_type.ensures))
