use Rattle.std.proofs.Common.{◌∙◌, sym}
use Rattle.derived_printer.proofs.ModulePieces.{where-true, where-false}
use Rattle.derived_printer.proofs.Printing.{named, prints-nothing}
use Rattle.derived_printer.proofs.labels.label.Goals as goal

pub returns-then-has_label : goal.returns-then-has_label
returns-then-has_label g c =
    named (where-true _ _ (sym c.has_label.ensures ∙ c.if-has_label.true)) c.written_label.ensures

pub returns : goal.returns
returns g c = named (where-false _ _ (sym c.has_label.ensures ∙ c.if-has_label.false)) prints-nothing
