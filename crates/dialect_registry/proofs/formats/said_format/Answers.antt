use Rattle.std.proofs.Common.{◌≡◌, subst}
use Rattle.dialect_registry.specs.FormatFaults.{IsTextFault}
use Rattle.dialect_registry.specs.Formatting.{InFile}
use Rattle.dialect_registry.specs.Refusals.{Refuses}
use Rattle.dialect_registry.proofs.Loads.{handed-on}
use Rattle.dialect_registry.proofs.formats.said_format.Goals as goal

pub returns-in_err-raw-clause-refused : goal.returns-in_err-raw-clause-refused
returns-in_err-raw-clause-refused c =
    handed-on c.from_residual.result c.in_err-raw.field-0.0
    (Refuses (InFile c.args.number (λ r. (r.place ≡ c.args.text.now.place)
    × IsTextFault c.args.op.now c.args.text.now.text r))) c.from_residual.ensures
    (rw c.bytes-bytes.ensures at (c.in_err-raw.ensures.refused c.args.op.now))

pub returns-clause-refused : goal.returns-clause-refused
returns-clause-refused c = rw c.bytes-bytes.ensures at c.judged_format.ensures.refused
