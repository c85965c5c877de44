use Rattle.derived_printer.proofs.Printing.{exit, step, stop}
use Rattle.derived_printer.proofs.leaf.dense.Goals as goal

pub returns-in_err-word : goal.returns-in_err-word
returns-in_err-word g c = exit c.from_residual.ensures (stop _ _ c.in_err-word.ensures)

pub returns-in_err-sign : goal.returns-in_err-sign
returns-in_err-sign g c =
    exit c.from_residual-in_err-sign.ensures
    (step _ _ c.in_ok-word.ensures (stop _ _ c.in_err-sign.ensures))

pub returns-in_err-int_type : goal.returns-in_err-int_type
returns-in_err-int_type g c =
    exit c.from_residual-in_err-int_type.ensures
    (step _ _ c.in_ok-word.ensures
    (step _ _ c.in_ok-sign.ensures (stop _ _ c.in_err-int_type.ensures)))

pub returns-in_err-items_behind : goal.returns-in_err-items_behind
returns-in_err-items_behind g c =
    exit c.from_residual-in_err-items_behind.ensures
    (step _ _ c.in_ok-word.ensures
    (step _ _ c.in_ok-sign.ensures
    (step _ _ c.in_ok-int_type.ensures (stop _ _ c.in_err-items_behind.ensures))))

pub returns : goal.returns
returns g c =
    step _ _ c.in_ok-word.ensures
    (step _ _ c.in_ok-sign.ensures
    (step _ _ c.in_ok-int_type.ensures (step _ _ c.in_ok-items_behind.ensures c.sign-2.ensures)))
