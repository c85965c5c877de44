use Rattle.std.proofs.Common.{ap}
use Rattle.dialect_registry.specs.FormatFaults.{IsFirstFault, IsFormatFault}
use Rattle.dialect_registry.specs.Formatting.{InFile, def_ops}
use Rattle.dialect_registry.specs.Resolved.{located, op_by}
use Rattle.dialect_registry.proofs.AddedFormats.{first-alone, in-file}
use Rattle.dialect_registry.proofs.Loads.{passed-on}
use Rattle.dialect_registry.proofs.formats.add_def.Goals as goal

pub returns-in_err-op_format-in-OfOp-clause-refused :
    goal.returns-in_err-op_format-in-OfOp-clause-refused
returns-in_err-op_format-in-OfOp-clause-refused c =
    let d = located c.args.own.now c.args.def.now in
    let ds = def_ops c.args.own.now c.args.def.now in
    passed-on c.from_residual.result c.in_err-op_format-in-OfOp.field-0.0
    (InFile c.args.number (IsFormatFault d)) (InFile c.args.number (IsFirstFault ds))
    c.from_residual.ensures
    (in-file (IsFormatFault d) (IsFirstFault ds) (first-alone ds d (ap (op_by d) c.in-OfOp.is)))
    c.in_err-op_format-in-OfOp.ensures.refused
