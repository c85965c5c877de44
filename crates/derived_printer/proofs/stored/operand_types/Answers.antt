use Rattle.derived_printer.proofs.Printing.{exit, step, stop}
use Rattle.derived_printer.proofs.stored.operand_types.Goals as goal

pub returns-in_err-sign : goal.returns-in_err-sign
returns-in_err-sign g c =
    exit c.from_residual.ensures (stop _ _ c.in_err-sign.ensures)

pub returns-in_err-value_types : goal.returns-in_err-value_types
returns-in_err-value_types g c =
    exit c.from_residual-in_err-value_types.ensures (step _ _ c.in_ok-sign.ensures (stop _ _ c.in_err-value_types.ensures))

pub returns : goal.returns
returns g c =
    step _ _ c.in_ok-sign.ensures (step _ _ c.in_ok-value_types.ensures (c.sign-2.ensures))
