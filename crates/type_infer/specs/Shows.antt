-- From a format's rule to its operations.
--
--   TellsAll operands results shown    the types that a format shows are shown of an operation
--   InfersMore                         what can be found where a format shows types, can be found of
--                                      each operation of which they are shown
use Rattle.std.specs.Prelude.{Bool, List}
use Rattle.dialect_defs.specs.declared.definition.OpDef.{OpDef}
use Rattle.type_infer.specs.declared.entries.EntryRef.{EntryRef}
use Rattle.type_infer.specs.declared.entries.Shown.{Shown}
use Rattle.type_infer.specs.Completes.{Tells}
use Rattle.type_infer.specs.Determined.{Infers}
use Rattle.type_infer.specs.Rule.{ShowsBy}

-- each type that the format shows is shown
abbrev pub TellsAll : List Bool → List Bool → Shown → Type 0
TellsAll operands results shown =
    (i : EntryRef) → ShowsBy operands results i → Tells shown i

-- more is determined where more is shown
abbrev pub InfersMore : Type 0
InfersMore =
    (d : OpDef) (operands results : List Bool) (shown : Shown)
    → TellsAll operands results shown → Infers d (ShowsBy operands results)
    → Infers d (Tells shown)
