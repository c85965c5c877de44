use Rattle.derived_printer.proofs.ModulePieces.{some-results}
use Rattle.derived_printer.proofs.Printing.{exit, step, stop, named}
use Rattle.derived_printer.proofs.number_names.results.Goals as goal

pub returns-in_err-names_from : goal.returns-in_err-names_from
returns-in_err-names_from g c =
    named (some-results c.args.first c.args.count c.if-count-eq0.false)
    (exit c.from_residual.ensures (stop _ _ c.in_err-names_from.ensures))

pub returns : goal.returns
returns g c =
    named (some-results c.args.first c.args.count c.if-count-eq0.false)
    (step _ _ c.in_ok-names_from.ensures c.sign.ensures)
