use Rattle.derived_printer.proofs.ModuleForms.{no-attrs, attrs-marks-same}
use Rattle.derived_printer.proofs.Parts.{not-empty}
use Rattle.derived_printer.proofs.Printing.{named, prints-nothing}
use Rattle.derived_printer.proofs.stored.attributes.Goals as goal

pub returns-then-is_empty : goal.returns-then-is_empty
returns-then-is_empty g c =
    named (no-attrs c.args.keys.now _ _ c.is_empty.ensures c.if-is_empty.true) prints-nothing

pub returns : goal.returns
returns g c =
    named
    (attrs-marks-same c.args.u.now c.args.keys.now c.args.values.now c.requires.count
    (not-empty _ _ c.is_empty.ensures c.if-is_empty.false))
    c.dict.ensures
