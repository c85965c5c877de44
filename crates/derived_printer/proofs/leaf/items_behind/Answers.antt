use Rattle.derived_printer.proofs.Printing.{exit, step, stop, named}
use Rattle.derived_printer.proofs.Parts.{not-empty, some-items}
use Rattle.derived_printer.proofs.leaf.items_behind.Goals as goal

pub returns-in_err-sign : goal.returns-in_err-sign
returns-in_err-sign g c =
    named (some-items _ _ (not-empty _ _ c.is_empty.ensures c.if-is_empty.false))
    (exit c.from_residual.ensures (stop _ _ c.in_err-sign.ensures))

pub returns : goal.returns
returns g c =
    named (some-items _ _ (not-empty _ _ c.is_empty.ensures c.if-is_empty.false))
    (step _ _ c.in_ok-sign.ensures c.items.ensures)
