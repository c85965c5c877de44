use Rattle.derived_printer.proofs.Printing.{exit, step, stop}
use Rattle.derived_printer.proofs.stored.back.Goals as goal

pub returns-in_err-attributes : goal.returns-in_err-attributes
returns-in_err-attributes g c =
    exit c.from_residual.ensures (stop _ _ c.in_err-attributes.ensures)

pub returns-in_err-sign : goal.returns-in_err-sign
returns-in_err-sign g c =
    exit c.from_residual-in_err-sign.ensures (step _ _ c.in_ok-attributes.ensures (stop _ _ c.in_err-sign.ensures))

pub returns-in_err-operand_types : goal.returns-in_err-operand_types
returns-in_err-operand_types g c =
    exit c.from_residual-in_err-operand_types.ensures (step _ _ c.in_ok-attributes.ensures (step _ _ c.in_ok-sign.ensures (stop _ _ c.in_err-operand_types.ensures)))

pub returns-in_err-sign-2 : goal.returns-in_err-sign-2
returns-in_err-sign-2 g c =
    exit c.from_residual-in_err-sign-2.ensures (step _ _ c.in_ok-attributes.ensures (step _ _ c.in_ok-sign.ensures (step _ _ c.in_ok-operand_types.ensures (stop _ _ c.in_err-sign-2.ensures))))

pub returns : goal.returns
returns g c =
    step _ _ c.in_ok-attributes.ensures (step _ _ c.in_ok-sign.ensures (step _ _ c.in_ok-operand_types.ensures (step _ _ c.in_ok-sign-2.ensures (c.result_types.ensures))))
