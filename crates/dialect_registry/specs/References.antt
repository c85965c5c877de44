-- What constraints refer to: predicates, kinds of heads, and types and attributes of the files.
--
--   is_given natives name    a predicate in the list has this name
--   IsNoBase name            no kind of head has this name
--   IsUnknown w own r        the reference names no type or attribute
--   IsMiscounted w own r n   it names one that hasn't n parameters
--   IsExprFault w own e f    f is a fault of what a constraint of the dialect `own` refers to
use Rattle.std.specs.Prelude.{◌≡◌, ◌⊎◌, ℕ, Bool, false, List, length, bytes_eq}
use Rattle.std.specs.List.{list_any}
use Rattle.std.specs.declared.option.Option.TheVariants.{Some, None}
use Rattle.attr_value.specs.declared.base.BaseKind.{BaseKind}
use Rattle.attr_value.specs.Bases.{base_name}
use Rattle.first_fault.specs.declared.fault.Fault.{Fault}
use Rattle.ir_lexer.specs.Spelling.{Text}
use Rattle.irdl_ops.specs.declared.raw.RawExpr.{RawExpr}
use Rattle.irdl_ops.specs.declared.raw.RawExpr.TheVariants.{Pred, BaseRef, BaseName, Parametric}
use Rattle.irdl_ops.specs.declared.raw.RawRef.{RawRef}
use Rattle.dialect_registry.specs.declared.code.DefCode.TheVariants.{RefUnknown, ParamCount, PredicateUnknown, BaseUnknown}
use Rattle.dialect_registry.specs.declared.targets.Target.{Target}
use Rattle.dialect_registry.specs.Codes.{Breaks}
use Rattle.dialect_registry.specs.Targets.{World, target}

-- a predicate that the program is given has this name
abbrev pub is_given : List Text → Text → Bool
is_given natives name = list_any (λ own. bytes_eq own name) natives

-- the reference names no type or attribute
abbrev pub IsUnknown : World → Text → RawRef → Type 0
IsUnknown w own r = target w own r ≡ None

-- the reference names one that has another number of parameters
abbrev pub IsMiscounted : World → Text → RawRef → ℕ → Type 0
IsMiscounted w own r n = (t : Target) × (target w own r ≡ Some t) × (t.parameters ≡ n → ⊥)

-- no kind of head has this name
abbrev pub IsNoBase : Text → Type 0
IsNoBase name = (base : BaseKind) → base_name base ≡ name → ⊥

-- what a constraint refers to is there: a predicate in the list, a kind of head in the table, a
-- type or attribute of the files, with as many parameters as there are parts
abbrev pub IsExprFault : World → Text → RawExpr → Fault → Type 0
IsExprFault w own (Pred p) =
    Breaks (is_given w.natives p.text ≡ false) p.place PredicateUnknown
IsExprFault w own (BaseName b) = Breaks (IsNoBase b.text) b.place BaseUnknown
IsExprFault w own (BaseRef r) = Breaks (IsUnknown w own r) r.place RefUnknown
IsExprFault w own (Parametric r parts) = λ f.
    Breaks (IsUnknown w own r) r.place RefUnknown f
    ⊎ Breaks (IsMiscounted w own r (length parts)) r.place ParamCount f
IsExprFault w own _ = λ f. ⊥
