use Rattle.std.proofs.Common.{subst}
use Rattle.std.specs.List.{flat_map}
use Rattle.dialect_registry.specs.FormatFaults.{IsFirstFault}
use Rattle.dialect_registry.specs.Formatting.{InFile, dialect_ops}
use Rattle.dialect_registry.proofs.AddedFormats.{adds-next, first-next, in-file}
use Rattle.dialect_registry.proofs.Loads.{passed-on}
use Rattle.dialect_registry.proofs.formats.add_file.Goals as goal

pub returns-in_err-add_dialect-clause-refused : goal.returns-in_err-add_dialect-clause-refused
returns-in_err-add_dialect-clause-refused c =
    let x = c.dialect-item.result in
    let all = flat_map dialect_ops c.args.file.now.dialects in
    passed-on c.from_residual.result c.in_err-add_dialect.field-0.0
    (InFile c.args.number (IsFirstFault (dialect_ops x)))
    (InFile c.args.number (IsFirstFault all)) c.from_residual.ensures
    (in-file (IsFirstFault (dialect_ops x)) (IsFirstFault all)
    (λ r first. subst (λ l. IsFirstFault (flat_map dialect_ops l) r)
    c.as_slice-dialect-items.ensures
    (first-next dialect_ops c.as_slice-dialect-items.result.now c.loop-dialect.dialect-index x
    c.loop-dialect-test.true c.dialect-item.is _ _ r c.loop-dialect.invariant first)))
    c.in_err-add_dialect.ensures.refused

pub loop-dialect-preserved : goal.loop-dialect-preserved
loop-dialect-preserved c =
    adds-next dialect_ops c.as_slice-dialect-items.result.now c.loop-dialect.dialect-index
    c.dialect-item.result c.loop-dialect-test.true c.dialect-item.is _ _ _
    c.loop-dialect.invariant c.in_ok-add_dialect.ensures.ok
