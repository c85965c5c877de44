-- The faults of names in the body of a definition.
--
-- What a body says of names is a list of marks: a value name is defined or used, an entry is named,
-- a statement begins with its word. Each mark is judged by those before it:
--
--   a value name is defined once in a body
--   the entries of one definition have distinct names, of all their lists together
--   a use means a value name that is defined earlier in the same body, for what it is used as; the
--   first definition of a name counts
--   a statement other than constraints and regions stands once in a body
--
-- The marks stand in the order of the text, but what a constraint or a region uses comes before
-- the name that it defines: it is no earlier definition of itself.
--
--   NameMark               one thing that a body says of a name
--   marks_of_body def      what the body of a definition says of names
--   fault_of before m      the fault of the mark m, behind those before it
--   IsFaultIn ms f         f is the fault of a mark of ms
--   choices ms             in how many ways one may choose a member of each `irdl.any_of`
use Rattle.std.specs.Prelude.{ℕ, ◌*◌, Bool, true, false, List, [], ◌∷◌, ◌++◌, map, length, is_some, bytes_eq, codes, if◌then◌else◌}
use Rattle.std.specs.List.{list_any, flat_map}
use Rattle.std.specs.Option.{option_or}
use Rattle.std.specs.declared.option.Option.{Option}
use Rattle.std.specs.declared.option.Option.TheVariants.{Some, None}
use Rattle.first_fault.specs.declared.fault.Fault.{Fault}
use Rattle.first_fault.specs.Firsts.{IsFaultBy}
use Rattle.ir_lexer.specs.Spelling.{Text}
use Rattle.generic_syntax.specs.declared.cst.NameCst.{NameCst}
use Rattle.irdl_ops.specs.declared.raw.RawAttr.{RawAttr}
use Rattle.irdl_ops.specs.declared.raw.RawDef.{RawDef}
use Rattle.irdl_ops.specs.declared.raw.RawEntry.{RawEntry}
use Rattle.irdl_ops.specs.declared.raw.RawExpr.{RawExpr}
use Rattle.irdl_ops.specs.declared.raw.RawExpr.TheVariants.{Parametric, AnyOf, AllOf}
use Rattle.irdl_ops.specs.declared.raw.RawStatement.{RawStatement}
use Rattle.irdl_ops.specs.declared.raw.StatementKind.{StatementKind}
use Rattle.irdl_ops.specs.declared.raw.StatementKind.TheVariants.{Constraint, Region, Parameters, Operands, Results, Attributes, Regions, Successors, Terminator, Format}
use Rattle.dialect_registry.specs.declared.code.DefCode.TheVariants.{NameRepeated, RefUnknown, StatementRepeated}
use Rattle.dialect_registry.specs.declared.scope.ValueSort.{ValueSort}
use Rattle.dialect_registry.specs.declared.scope.ValueSort.TheVariants as sort
use Rattle.dialect_registry.specs.Codes.{refusal}

-- one thing that a body says of a name, and the place of that name
pub data NameMark : Type 0 where
  -- this value name is defined here, by a constraint with so many choices, or by a region
  defines : ValueSort → ℕ → Text → ℕ → NameMark
  -- this value name is used here, as the name of a constraint or a region
  uses : ValueSort → ℕ → Text → NameMark
  -- an entry has this name
  labels : ℕ → Text → NameMark
  -- a statement begins with this word
  begins : ℕ → Text → NameMark

-- ---- the marks of a body

-- an entry's name, where it has one
abbrev pub label_of : Option NameCst → List NameMark
label_of None = []
label_of (Some n) = labels n.place n.name ∷ []

-- what an entry says of names: its own name, and the value name that it uses
abbrev pub marks_of_entry : ValueSort → RawEntry → List NameMark
marks_of_entry s e = label_of e.name ++ uses s e.var.place e.var.name ∷ []

-- what an entry of attributes says of names
abbrev pub marks_of_attr : RawAttr → List NameMark
marks_of_attr a = labels a.name.place a.name.text ∷ uses sort.Constraint a.var.place a.var.name ∷ []

-- the uses of names of constraints
abbrev pub uses_of : List NameCst → List NameMark
uses_of names = map (λ n. uses sort.Constraint n.place n.name) names

-- the names that a constraint uses
abbrev pub uses_in : RawExpr → List NameMark
uses_in (Parametric target parts) = uses_of parts
uses_in (AnyOf members) = uses_of members
uses_in (AllOf members) = uses_of members
uses_in _ = []

-- in how many ways a constraint lets one choose
abbrev pub choices_of : RawExpr → ℕ
choices_of (AnyOf members) = length members
choices_of _ = 1

-- the names that the arguments of a region use, where they are declared
abbrev pub uses_by : Option (List NameCst) → List NameMark
uses_by None = []
uses_by (Some names) = uses_of names

-- what a statement says of names of values and entries
abbrev pub marks_of_kind : StatementKind → List NameMark
marks_of_kind (Constraint n expr) =
    uses_in expr ++ defines sort.Constraint n.place n.name (choices_of expr) ∷ []
marks_of_kind (Region n args size) = uses_by args ++ defines sort.Region n.place n.name 1 ∷ []
marks_of_kind (Parameters entries) = flat_map (marks_of_entry sort.Constraint) entries
marks_of_kind (Operands entries) = flat_map (marks_of_entry sort.Constraint) entries
marks_of_kind (Results entries) = flat_map (marks_of_entry sort.Constraint) entries
marks_of_kind (Attributes attrs) = flat_map marks_of_attr attrs
marks_of_kind (Regions entries) = flat_map (marks_of_entry sort.Region) entries
marks_of_kind (Successors names) = map (λ n. labels n.place n.name) names
marks_of_kind Terminator = []
marks_of_kind (Format text) = []

-- the word of a statement that stands once in a body
abbrev pub word_of : StatementKind → Option Text
word_of (Constraint n expr) = None
word_of (Region n args size) = None
word_of (Parameters entries) = Some (codes "irdl.parameters")
word_of (Operands entries) = Some (codes "irdl.operands")
word_of (Results entries) = Some (codes "irdl.results")
word_of (Attributes attrs) = Some (codes "irdl.attributes")
word_of (Regions entries) = Some (codes "irdl.regions")
word_of (Successors names) = Some (codes "irdl_opt.successors")
word_of Terminator = Some (codes "irdl_opt.terminator")
word_of (Format text) = Some (codes "irdl_opt.format")

-- a word at a place, where there is one
abbrev pub beginning : ℕ → Option Text → List NameMark
beginning place None = []
beginning place (Some word) = begins place word ∷ []

-- what a statement says of names
abbrev pub marks_of_statement : RawStatement → List NameMark
marks_of_statement s = beginning s.place (word_of s.kind) ++ marks_of_kind s.kind

-- what the body of a definition says of names
abbrev pub marks_of_body : RawDef → List NameMark
marks_of_body def = flat_map marks_of_statement def.statements

-- ---- the fault of a mark

-- what a mark makes of a value name, if it defines it
abbrev pub defined_as : Text → NameMark → Option ValueSort
defined_as name (defines s place n choices) = if bytes_eq n name then Some s else None
defined_as name _ = None

-- the mark names an entry so
abbrev pub labels_name : Text → NameMark → Bool
labels_name name (labels place n) = bytes_eq n name
labels_name name _ = false

-- the mark says that a statement begins with this word
abbrev pub begins_with : Text → NameMark → Bool
begins_with word (begins place w) = bytes_eq w word
begins_with word _ = false

-- what a value name stands for, by the first of these marks that defines it
abbrev pub stands_for : List NameMark → Text → Option ValueSort
stands_for [] name = None
stands_for (m ∷ ms) name = option_or (defined_as name m) (stands_for ms name)

-- an entry is named so by one of these marks
abbrev pub is_label : List NameMark → Text → Bool
is_label ms name = list_any (labels_name name) ms

-- a statement begins with this word by one of these marks
abbrev pub is_begun : List NameMark → Text → Bool
is_begun ms word = list_any (begins_with word) ms

-- a name that stands for this may be used as that
abbrev pub is_usable : Option ValueSort → ValueSort → Bool
is_usable (Some sort.Constraint) sort.Constraint = true
is_usable (Some sort.Region) sort.Region = true
is_usable _ _ = false

-- the fault of a mark, behind those before it, where it has one
abbrev pub fault_of : List NameMark → NameMark → Option Fault
fault_of before (defines s place name choices) =
    if is_some (stands_for before name) then Some (refusal place NameRepeated) else None
fault_of before (uses s place name) =
    if is_usable (stands_for before name) s then None else Some (refusal place RefUnknown)
fault_of before (labels place name) =
    if is_label before name then Some (refusal place NameRepeated) else None
fault_of before (begins place word) =
    if is_begun before word then Some (refusal place StatementRepeated) else None

-- a fault of one of the marks, each behind those before it
abbrev pub IsFaultIn : List NameMark → Fault → Type 0
IsFaultIn ms = IsFaultBy fault_of ms

-- ---- the choices of a body

-- the choices that a mark adds to those before it: the first definition of a name counts
abbrev pub own_choices : List NameMark → NameMark → ℕ
own_choices before (defines s place name n) = if is_some (stands_for before name) then 1 else n
own_choices before _ = 1

-- the choices of marks behind others
abbrev pub choices_behind : List NameMark → List NameMark → ℕ
choices_behind before [] = 1
choices_behind before (m ∷ ms) = own_choices before m * choices_behind (before ++ m ∷ []) ms

-- in how many ways one may choose a member of each `irdl.any_of`
abbrev pub choices : List NameMark → ℕ
choices ms = choices_behind [] ms
