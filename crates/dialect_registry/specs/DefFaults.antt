-- The faults of definition files that come before those of constants and formats.
--
-- A dialect is judged with the dialects before it in all files, and a definition with those before
-- it in its dialect. References are judged by all files.
--
--   IsStatementFault w own s f f is a fault of a statement by itself
--   IsDefFault w own before d f, IsDialectFault w before d f
--                              f is a fault of a definition, and of a dialect
--   dialects_of files          the dialects of some files, in order
--   IsFault files natives n f  f is a fault of the file with the number n, counted from 0
--   fault_in r                 the fault of a refusal, without its file
--   IsFirstIn P first          the first fault of the first file that has one, or that none has
use Rattle.std.specs.Prelude.{◌≡◌, ◌<◌, ◌⊎◌, ℕ, Bool, true, List, [], map, take, slice_get, bytes_eq}
use Rattle.std.specs.List.{list_any, flat_map}
use Rattle.std.specs.declared.option.Option.{Option}
use Rattle.std.specs.declared.option.Option.TheVariants.{Some, None}
use Rattle.first_fault.specs.declared.fault.Fault.{Fault}
use Rattle.first_fault.specs.Firsts.{IsFirst}
use Rattle.ir_lexer.specs.Spelling.{Text}
use Rattle.dialect_defs.specs.declared.body.TheConstants.{VARIABLE_LIMIT}
use Rattle.dialect_defs.specs.declared.entry.TheConstants.{ENTRY_LIMIT}
use Rattle.irdl_ops.specs.declared.raw.RawAttr.{RawAttr}
use Rattle.irdl_ops.specs.declared.raw.RawDef.{RawDef}
use Rattle.irdl_ops.specs.declared.raw.RawDefs.{RawDefs}
use Rattle.irdl_ops.specs.declared.raw.RawDialect.{RawDialect}
use Rattle.irdl_ops.specs.declared.raw.StatementKind.{StatementKind}
use Rattle.irdl_ops.specs.declared.raw.StatementKind.TheVariants.{Constraint, Operands, Results, Attributes}
use Rattle.dialect_registry.specs.declared.code.DefCode.TheVariants.{NameRepeated, ChoiceLimit, ReservedName}
use Rattle.dialect_registry.specs.declared.limits.TheConstants.{CHOICE_LIMIT}
use Rattle.dialect_registry.specs.declared.refusal.FileFault.{FileFault}
use Rattle.dialect_registry.specs.Codes.{Breaks}
use Rattle.dialect_registry.specs.Limits.{IsExtra, variables}
use Rattle.dialect_registry.specs.NameFaults.{IsFaultIn, marks_of_body, choices}
use Rattle.dialect_registry.specs.Parts.{Among, Behind}
use Rattle.dialect_registry.specs.References.{IsExprFault}
use Rattle.dialect_registry.specs.NameShapes.{IsBadDefName, IsBadDialectName, IsBadAttrName}
use Rattle.dialect_registry.specs.Targets.{World}

-- ---- statements

-- an attribute of an operation isn't one of those that hold the sizes of segments
abbrev pub IsAttrFault : RawAttr → Fault → Type 0
IsAttrFault a = Breaks (IsBadAttrName a.name.text) a.name.place ReservedName

-- what a constraint refers to is there, a list of operands or results is no longer than the limit,
-- and no attribute has a reserved name
abbrev pub IsStatementFault : World → Text → StatementKind → Fault → Type 0
IsStatementFault w own (Constraint name expr) = IsExprFault w own expr
IsStatementFault w own (Operands entries) = IsExtra ENTRY_LIMIT (map (λ e. e.place) entries)
IsStatementFault w own (Results entries) = IsExtra ENTRY_LIMIT (map (λ e. e.place) entries)
IsStatementFault w own (Attributes attrs) = Among IsAttrFault attrs
IsStatementFault w own _ = λ f. ⊥

-- ---- definitions

-- a definition has this name
abbrev pub is_def : List RawDef → Text → Bool
is_def defs name = list_any (λ d. bytes_eq d.name name) defs

-- a fault of a definition of the dialect `own`, behind those before it
abbrev pub IsDefFault : World → Text → List RawDef → RawDef → Fault → Type 0
IsDefFault w own before def f =
    -- its name stands once in the dialect
    (Breaks (is_def before def.name ≡ true) def.place NameRepeated f
    -- and has its shape
    ⊎ Breaks (IsBadDefName def.name) def.place ReservedName f)
    -- names in its body are distinct and known, and its statements stand once
    ⊎ ((IsFaultIn (marks_of_body def) f
    -- the choices of its body keep to the limit
    ⊎ Breaks (CHOICE_LIMIT < choices (marks_of_body def)) def.place ChoiceLimit f)
    -- so do its variables
    ⊎ (IsExtra VARIABLE_LIMIT (variables def.statements) f
    -- and each of its statements is right
    ⊎ Among (λ s. IsStatementFault w own s.kind) def.statements f))

-- ---- dialects and files

-- a dialect has this name
abbrev pub is_dialect : List RawDialect → Text → Bool
is_dialect dialects name = list_any (λ d. bytes_eq d.name name) dialects

-- a fault of a dialect, behind those before it
abbrev pub IsDialectFault : World → List RawDialect → RawDialect → Fault → Type 0
IsDialectFault w before dialect f =
    -- its name stands once in all files
    (Breaks (is_dialect before dialect.name ≡ true) dialect.place NameRepeated f
    -- it has its shape and isn't reserved
    ⊎ Breaks (IsBadDialectName dialect.name) dialect.place ReservedName f)
    -- and the definitions are right
    ⊎ Behind (IsDefFault w dialect.name) [] dialect.defs f

-- the dialects of some files, in order
abbrev pub dialects_of : List RawDefs → List RawDialect
dialects_of files = flat_map (λ d. d.dialects) files

-- a fault of a file, behind the dialects of those before it
abbrev pub IsFileFault : World → List RawDialect → RawDefs → Fault → Type 0
IsFileFault w earlier defs = Behind (IsDialectFault w) earlier defs.dialects

-- what references of some files may name
abbrev pub world_of : List RawDefs → List Text → World
world_of files natives = record { dialects = dialects_of files; natives = natives }

-- a fault of the file with this number
abbrev pub IsFault : List RawDefs → List Text → ℕ → Fault → Type 0
IsFault files natives n f =
    (defs : RawDefs) × (slice_get files n ≡ Some defs)
    × IsFileFault (world_of files natives) (dialects_of (take n files)) defs f

-- a refusal without its file
abbrev pub fault_in : FileFault → Fault
fault_in r = record { place = r.place; code = r.code }

-- the first fault of the first of some files that has one, or nothing where none has any
abbrev pub IsFirstIn : (ℕ → Fault → Type 0) → Option FileFault → Type 0
IsFirstIn P None = (n : ℕ) (f : Fault) → P n f → ⊥
IsFirstIn P (Some r) =
    IsFirst (P r.file) (Some (fault_in r))
    × ((n : ℕ) → n < r.file → (f : Fault) → P n f → ⊥)
