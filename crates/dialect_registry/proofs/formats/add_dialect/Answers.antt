use Rattle.std.proofs.Common.{subst}
use Rattle.std.specs.List.{flat_map}
use Rattle.dialect_registry.specs.FormatFaults.{IsFirstFault}
use Rattle.dialect_registry.specs.Formatting.{Adds, InFile, def_ops, dialect_ops}
use Rattle.dialect_registry.proofs.AddedFormats.{adds-next, first-next, in-file}
use Rattle.dialect_registry.proofs.Loads.{passed-on}
use Rattle.dialect_registry.proofs.formats.add_dialect.Goals as goal

pub returns-in_err-add_def-clause-refused : goal.returns-in_err-add_def-clause-refused
returns-in_err-add_def-clause-refused c =
    let f = def_ops c.args.dialect.now.name in
    let x = c.def-item.result in
    passed-on c.from_residual.result c.in_err-add_def.field-0.0
    (InFile c.args.number (IsFirstFault (f x)))
    (InFile c.args.number (IsFirstFault (dialect_ops c.args.dialect.now)))
    c.from_residual.ensures
    (in-file (IsFirstFault (f x)) (IsFirstFault (dialect_ops c.args.dialect.now))
    (λ r first. subst (λ l. IsFirstFault (flat_map f l) r) c.as_slice-def-items.ensures
    (first-next f c.as_slice-def-items.result.now c.loop-def.def-index x c.loop-def-test.true
    c.def-item.is _ _ r c.loop-def.invariant first)))
    (rw c.bytes-own.ensures at c.in_err-add_def.ensures.refused)

pub loop-def-preserved : goal.loop-def-preserved
loop-def-preserved c =
    adds-next (def_ops c.args.dialect.now.name) c.as_slice-def-items.result.now
    c.loop-def.def-index c.def-item.result c.loop-def-test.true c.def-item.is _ _ _
    c.loop-def.invariant (rw c.bytes-own.ensures at c.in_ok-add_def.ensures.ok)
