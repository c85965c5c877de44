use Rattle.std.specs.List.{flat_map}
use Rattle.irdl_ops.specs.declared.raw.RawDefs.{RawDefs}
use Rattle.dialect_registry.specs.FormatFaults.{IsFirstFault, IsFirstRefused}
use Rattle.dialect_registry.specs.Formatting.{InFile, dialect_ops}
use Rattle.dialect_registry.proofs.AddedFormats.{adds-next, all-formats, earlier-more, file-have, first-refused}
use Rattle.dialect_registry.proofs.Loads.{passed-on}
use Rattle.dialect_registry.proofs.Walks.{slice_get-item}
use Rattle.dialect_registry.proofs.formats.read_formats.Goals as goal

pub returns-in_err-add_file-clause-refused : goal.returns-in_err-add_file-clause-refused
returns-in_err-add_file-clause-refused c =
    let files = c.args.files.now in
    let i = c.loop-number.number in
    let file = c.index-files-number.result in
    passed-on c.from_residual.result c.in_err-add_file.field-0.0
    (InFile i (IsFirstFault (flat_map dialect_ops file.dialects))) (IsFirstRefused files)
    c.from_residual.ensures
    (first-refused files i file
    (slice_get-item files i file c.loop-number-test.true c.index-files-number.is)
    c.loop-number.invariant.earlier)
    c.in_err-add_file.ensures.refused

pub loop-number-preserved : goal.loop-number-preserved
loop-number-preserved c =
    let files = c.args.files.now in
    let i = c.loop-number.number in
    let file = c.index-files-number.result in
    record {
      each = adds-next (λ (f : RawDefs). flat_map dialect_ops f.dialects) files i file
          c.loop-number-test.true c.index-files-number.is _ _ _ c.loop-number.invariant.each
          c.in_ok-add_file.ensures.ok;
      earlier = earlier-more files i file
          (slice_get-item files i file c.loop-number-test.true c.index-files-number.is)
          c.loop-number.invariant.earlier (file-have file _ _ c.in_ok-add_file.ensures.ok);
    }

pub returns-clause-ok : goal.returns-clause-ok
returns-clause-ok c =
    all-formats c.args.files.now c.loop-number.number c.loop-number.formats.items
    c.loop-number.auto.number-end c.loop-number-test.false c.loop-number.invariant.each
