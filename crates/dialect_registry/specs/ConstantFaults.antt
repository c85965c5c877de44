-- The faults of constants in definition files.
--
-- Constants are judged in two stages, over all files each. In the first, names and numbers of
-- parameters count alone: a constant mentions no alias, obeys the rules of values, and names types
-- and attributes of the files with as many parameters as they have. In the second it is judged by
-- the bodies of what it names.
--
--   IsConstantFault .. s f    f is the fault of a statement that gives a constant
--   IsFaultOfFile P defs f, IsFaultIn P files n f
--                             f is such a fault of a statement of a file, and of the file with the
--                             number n
--   shape_of d                a type or an attribute, as far as its name and the number of its
--                             parameters go
--   shapes_of files           those of all files
use Rattle.std.specs.Prelude.{◌≡◌, ℕ, zero, suc, List, [], ◌∷◌, ◌++◌, map, slice_get}
use Rattle.std.specs.declared.option.Option.TheVariants.{Some, None}
use Rattle.attr_value.specs.Values.{Value}
use Rattle.dialect_defs.specs.declared.body.Constraint.{Constraint}
use Rattle.dialect_defs.specs.declared.body.Constraint.TheVariants.{Any}
use Rattle.dialect_defs.specs.declared.definition.TypeDef.{TypeDef}
use Rattle.dialect_defs.specs.declared.entry.Arity.TheVariants.{Single}
use Rattle.dialect_defs.specs.declared.entry.Entry.{Entry}
use Rattle.dialect_defs.specs.Assignments.{Tests}
use Rattle.first_fault.specs.declared.fault.Fault.{Fault}
use Rattle.irdl_ops.specs.declared.raw.RawDefs.{RawDefs}
use Rattle.irdl_ops.specs.declared.raw.RawExpr.{RawExpr}
use Rattle.irdl_ops.specs.declared.raw.RawExpr.TheVariants.{Is}
use Rattle.irdl_ops.specs.declared.raw.StatementKind.{StatementKind}
use Rattle.irdl_ops.specs.declared.raw.StatementKind.TheVariants.{Constraint as Defines}
use Rattle.dialect_registry.specs.declared.code.DefCode.TheVariants.{ConstantBad}
use Rattle.dialect_registry.specs.Codes.{Breaks}
use Rattle.dialect_registry.specs.DefFaults.{dialects_of}
use Rattle.dialect_registry.specs.Parts.{Among}
use Rattle.dialect_registry.specs.Resolved.{IsMeaningless, Located, full_name, is_type_kind}
use Rattle.dialect_registry.specs.Resolved.{located_in, types_among}
use Rattle.dialect_registry.specs.Targets.{parameter_count}

-- ---- statements

module _ (values : List Value) (tests : Tests) (types : List TypeDef) where
  -- a constant has a good value
  abbrev pub IsExprConstantFault : RawExpr → Fault → Type 0
  IsExprConstantFault (Is cst) =
      Breaks (IsMeaningless values tests types cst) cst.place ConstantBad
  IsExprConstantFault _ = λ f. ⊥

  abbrev pub IsConstantFault : StatementKind → Fault → Type 0
  IsConstantFault (Defines name expr) = IsExprConstantFault expr
  IsConstantFault _ = λ f. ⊥

-- ---- files

-- a fault of a statement of a file
abbrev pub IsFaultOfFile : (StatementKind → Fault → Type 0) → RawDefs → Fault → Type 0
IsFaultOfFile P defs =
    Among (λ dialect. Among (λ def. Among (λ s. P s.kind) def.statements) dialect.defs)
    defs.dialects

-- a fault of a statement of the file with this number
abbrev pub IsFaultIn : (StatementKind → Fault → Type 0) → List RawDefs → ℕ → Fault → Type 0
IsFaultIn P files n f =
    (defs : RawDefs) × (slice_get files n ≡ Some defs) × IsFaultOfFile P defs f

-- ---- shapes

-- a parameter without a name
abbrev pub own_param : ℕ → Entry
own_param n = record { name = None; arity = Single; var = record { 0 = n } }

-- so many parameters, each with a variable of its own, in order
abbrev pub own_params : ℕ → List Entry
own_params zero = []
own_params (suc n) = own_params n ++ own_param n ∷ []

-- so many variables of which nothing is asked
abbrev pub free_vars : ℕ → List Constraint
free_vars zero = []
free_vars (suc n) = free_vars n ++ Any ∷ []

-- a type or an attribute, as far as its name and the number of its parameters go
abbrev pub shape_of : Located → TypeDef
shape_of d = record {
  is_type = is_type_kind d.def.kind;
  name = full_name d.dialect d.def.name;
  body = record { vars = free_vars (parameter_count d.def.statements) };
  params = own_params (parameter_count d.def.statements);
}

-- the shapes of all types and attributes of some files, in order
abbrev pub shapes_of : List RawDefs → List TypeDef
shapes_of files = map shape_of (types_among (located_in (dialects_of files)))
