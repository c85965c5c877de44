use Rattle.std.proofs.Common.{[], ◌∷◌}
use Rattle.text_layout.specs.Lines.{break_line}
use Rattle.derived_printer.proofs.Printing.{exit, step, stop}
use Rattle.derived_printer.proofs.labels.label_line.Goals as goal

pub returns-in_err-new_line : goal.returns-in_err-new_line
returns-in_err-new_line g c =
    exit c.from_residual.ensures (stop (break_line c.args.indent ∷ []) _ c.in_err-new_line.ensures)

pub returns-in_err-block_name : goal.returns-in_err-block_name
returns-in_err-block_name g c =
    exit c.from_residual-in_err-block_name.ensures (step (break_line c.args.indent ∷ []) _ c.in_ok-new_line.ensures (stop _ _ c.in_err-block_name.ensures))

pub returns-in_err-arguments : goal.returns-in_err-arguments
returns-in_err-arguments g c =
    exit c.from_residual-in_err-arguments.ensures (step (break_line c.args.indent ∷ []) _ c.in_ok-new_line.ensures (step _ _ c.in_ok-block_name.ensures (stop _ _ c.in_err-arguments.ensures)))

pub returns : goal.returns
returns g c =
    step (break_line c.args.indent ∷ []) _ c.in_ok-new_line.ensures (step _ _ c.in_ok-block_name.ensures (step _ _ c.in_ok-arguments.ensures (c.sign.ensures)))
