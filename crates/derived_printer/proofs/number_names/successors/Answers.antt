use Rattle.derived_printer.proofs.ModulePieces.{some-marks}
use Rattle.derived_printer.proofs.Parts.{not-empty}
use Rattle.derived_printer.proofs.Printing.{exit, step, stop, named}
use Rattle.derived_printer.proofs.number_names.successors.Goals as goal

pub returns-in_err-sign : goal.returns-in_err-sign
returns-in_err-sign g c =
    named
    (some-marks c.args.numbers.now _ (not-empty _ _ c.is_empty.ensures c.if-is_empty.false))
    (exit c.from_residual.ensures (stop _ _ c.in_err-sign.ensures))

pub returns-in_err-block_names : goal.returns-in_err-block_names
returns-in_err-block_names g c =
    named
    (some-marks c.args.numbers.now _ (not-empty _ _ c.is_empty.ensures c.if-is_empty.false))
    (exit c.from_residual-in_err-block_names.ensures
    (step _ _ c.in_ok-sign.ensures (stop _ _ c.in_err-block_names.ensures)))

pub returns : goal.returns
returns g c =
    named
    (some-marks c.args.numbers.now _ (not-empty _ _ c.is_empty.ensures c.if-is_empty.false))
    (step _ _ c.in_ok-sign.ensures (step _ _ c.in_ok-block_names.ensures c.sign-2.ensures))
