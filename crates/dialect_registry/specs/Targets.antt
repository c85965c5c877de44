-- What references to definitions name.
--
-- References go to any dialect of any file, before or behind. Where a dialect stands twice, the
-- first in the order of the files is meant, and so is the first of a dialect's definitions of one
-- name.
--
--   World                    what references may name: all dialects, and predicates by their names
--   listed by statements     what a body lists first of one kind
--   parameters_in statements its parameters
--   target_of def            what a reference to a type or an attribute names: whether it is a
--                            type, and how many parameters it has; no operation is referred to
--   named dialects d n       what the reference `@d::@n` names, where it names one of these
--   target w own r           the same of a reference that stands in the dialect `own`
use Rattle.std.specs.Prelude.{ℕ, true, false, List, [], ◌∷◌, length, find, bytes_eq}
use Rattle.std.specs.Prelude.{option_and_then}
use Rattle.std.specs.Option.{unwrap_or}
use Rattle.std.specs.declared.option.Option.{Option}
use Rattle.std.specs.declared.option.Option.TheVariants.{Some, None}
use Rattle.ir_lexer.specs.Spelling.{Text}
use Rattle.irdl_ops.specs.declared.raw.DefKind.{DefKind}
use Rattle.irdl_ops.specs.declared.raw.DefKind.TheVariants.{OfType, OfAttr, OfOp}
use Rattle.irdl_ops.specs.declared.raw.RawDef.{RawDef}
use Rattle.irdl_ops.specs.declared.raw.RawDialect.{RawDialect}
use Rattle.irdl_ops.specs.declared.raw.RawEntry.{RawEntry}
use Rattle.irdl_ops.specs.declared.raw.RawRef.{RawRef}
use Rattle.irdl_ops.specs.declared.raw.RawStatement.{RawStatement}
use Rattle.irdl_ops.specs.declared.raw.StatementKind.{StatementKind}
use Rattle.irdl_ops.specs.declared.raw.StatementKind.TheVariants.{Parameters}
use Rattle.dialect_registry.specs.declared.targets.Target.{Target}

-- what references may name: the dialects of all files, in order, and the predicates
pub record World : Type 0 where
  pub dialects : List RawDialect
  pub natives : List Text

-- what a body lists first of one kind; no list is an empty one
abbrev pub listed : {A : Type 0} → (StatementKind → Option (List A)) → List RawStatement → List A
listed by [] = []
listed by (s ∷ ss) = unwrap_or (by s.kind) (listed by ss)

-- the parameters that a statement lists
abbrev pub parameters_by : StatementKind → Option (List RawEntry)
parameters_by (Parameters entries) = Some entries
parameters_by _ = None

-- the first list of parameters of a body
abbrev pub parameters_in : List RawStatement → List RawEntry
parameters_in statements = listed parameters_by statements

-- the number of parameters that a body lists
abbrev pub parameter_count : List RawStatement → ℕ
parameter_count statements = length (parameters_in statements)

-- what a reference to a definition with these statements names
abbrev pub target_by : DefKind → List RawStatement → Option Target
target_by OfType statements =
    Some (record { is_type = true; parameters = parameter_count statements })
target_by OfAttr statements =
    Some (record { is_type = false; parameters = parameter_count statements })
target_by OfOp statements = None

abbrev pub target_of : RawDef → Option Target
target_of def = target_by def.kind def.statements

-- the first of some definitions that has the name
abbrev pub def_named : List RawDef → Text → Option RawDef
def_named defs name = find (λ d. bytes_eq d.name name) defs

-- the first of some dialects that has the name
abbrev pub dialect_named : List RawDialect → Text → Option RawDialect
dialect_named dialects name = find (λ d. bytes_eq d.name name) dialects

-- what the definition of this name in the dialect is
abbrev pub named_in : Text → RawDialect → Option Target
named_in name dialect = option_and_then target_of (def_named dialect.defs name)

-- what the reference `@d::@n` names
abbrev pub named : List RawDialect → Text → Text → Option Target
named dialects d n = option_and_then (named_in n) (dialect_named dialects d)

-- the same of a reference; one without a dialect means that in which it stands
abbrev pub target : World → Text → RawRef → Option Target
target w own r = named w.dialects (unwrap_or r.dialect own) r.name
