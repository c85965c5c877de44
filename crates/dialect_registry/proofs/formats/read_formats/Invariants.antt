use Rattle.std.proofs.Common.{◌≡◌, ◌<◌, ℕ, [], take}
use Rattle.std.specs.Prelude.{slice_get}
use Rattle.std.specs.List.{flat_map}
use Rattle.std.specs.declared.option.Option.TheVariants.{Some}
use Rattle.irdl_ops.specs.declared.raw.RawDefs.{RawDefs}
use Rattle.dialect_registry.specs.FormatFaults.{HaveFormats, ops_in}
use Rattle.dialect_registry.specs.Formatting.{Adds, dialect_ops}
use Rattle.dialect_registry.proofs.formats.read_formats.Given as goal

abbrev pub invariant-loop-number : goal.invariant-loop-number
invariant-loop-number l = record {
  each : Adds (flat_map (λ (file : RawDefs). flat_map dialect_ops file.dialects)
      (take l.number l.files)) [] l.formats.items;
  earlier : (n : ℕ) (file : RawDefs) → n < l.number → slice_get l.files n ≡ Some file
      → HaveFormats (ops_in file.dialects);
}
