use Rattle.std.proofs.Common.{◌≡◌, ◌∙◌, ap, sym}
use Rattle.std.specs.Prelude.{option_map}
use Rattle.dialect_registry.specs.FormatFaults.{IsFormatFault, IsTextFault, format_in}
use Rattle.dialect_registry.specs.Formatting.{InFile}
use Rattle.dialect_registry.specs.Resolved.{located}
use Rattle.dialect_registry.proofs.AddedFormats.{fault-said, in-file}
use Rattle.dialect_registry.proofs.Loads.{passed-on}
use Rattle.dialect_registry.proofs.formats.op_format.Goals as goal

pub returns-in_err-said_format-clause-refused : goal.returns-in_err-said_format-clause-refused
returns-in_err-said_format-clause-refused c =
    let d = located c.args.own.now c.args.def.now in
    let text = c.in-Some.text.now in
    let op = c.in_ok-op.op in
    let at = ap format_in (sym c.as_slice.ensures) ∙ sym c.format_in.ensures
    ∙ ap (option_map (λ t. t.now)) c.in-Some.is in
    passed-on c.from_residual-in_err-said_format.result c.in_err-said_format.field-0.0
    (InFile c.args.number (λ r. (r.place ≡ text.place) × IsTextFault op text.text r))
    (InFile c.args.number (IsFormatFault d)) c.from_residual-in_err-said_format.ensures
    (in-file (λ r. (r.place ≡ text.place) × IsTextFault op text.text r) (IsFormatFault d)
    (fault-said d op text c.in_ok-op.ensures at))
    c.in_err-said_format.ensures.refused
