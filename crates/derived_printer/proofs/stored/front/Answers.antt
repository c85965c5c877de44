use Rattle.derived_printer.proofs.Printing.{exit, step, stop}
use Rattle.derived_printer.proofs.stored.front.Goals as goal

pub returns-in_err-string : goal.returns-in_err-string
returns-in_err-string g c =
    exit c.from_residual.ensures (stop _ _ c.in_err-string.ensures)

pub returns-in_err-operands : goal.returns-in_err-operands
returns-in_err-operands g c =
    exit c.from_residual-in_err-operands.ensures (step _ _ c.in_ok-string.ensures (stop _ _ c.in_err-operands.ensures))

pub returns : goal.returns
returns g c =
    step _ _ c.in_ok-string.ensures (step _ _ c.in_ok-operands.ensures (c.successors.ensures))
