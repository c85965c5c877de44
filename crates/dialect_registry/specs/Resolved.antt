-- What definition files define: definitions with their names resolved, and constants as values.
--
-- What a name stands for is said of every file, whatever it breaks. A variable that isn't there has
-- a number that no variable has, and a constraint that names nothing else asks nothing; where no
-- rule is broken there is none of either. Of statements that stand twice the first counts.
--
--   AreEach R xs ys           xs and ys are related one by one
--   constraints_in statements the constraints of a body, in order, each with its name
--   variable constraints n    the variable of this name in a body of these
--   operands_in, results_in, attrs_in, regions_in, successors_in, is_terminator
--                             what a body says first of each
--   entry_of, attr_of, region_of
--                             an entry of each kind
--   Located, located_in dialects
--                             a definition and the name of its dialect; those of dialects, in order
--   full_name dialect name    the full name of a definition
--   IsMeaningless .. cst      a constant has no good value
--   HasConstant .. cst id     the constant means the value of this id
--   IsConstraint .. e c       the constraint e is resolved to c
--   IsBody .. constraints b   the constraints of a body are resolved to those of b
--   IsType .. d t, IsOp .. d o
--                             a definition is resolved to this one
--   types_among, ops_among    the types and attributes, and the operations, of some definitions
use Rattle.std.specs.Prelude.{◌≡◌, ◌<◌, ◌⊎◌, ℕ, Bool, true, false, List, [], ◌∷◌, ◌++◌, length, map}
use Rattle.std.specs.Prelude.{position, bytes_eq, option_map, codes}
use Rattle.std.specs.Prelude.{if◌then◌else◌}
use Rattle.std.specs.List.{flat_map, list_any, position_or_len}
use Rattle.std.specs.Option.{unwrap_or, option_or}
use Rattle.std.specs.declared.option.Option.{Option}
use Rattle.std.specs.declared.option.Option.TheVariants.{Some, None}
use Rattle.attr_value.specs.declared.base.BaseKind.{BaseKind}
use Rattle.attr_value.specs.declared.head.ValueId.{ValueId}
use Rattle.attr_value.specs.Bases.{base_name}
use Rattle.attr_value.specs.Ids.{at}
use Rattle.attr_value.specs.Values.{Value}
use Rattle.dialect_defs.specs.declared.body.BaseRef.TheVariants.{Builtin, Defined}
use Rattle.dialect_defs.specs.declared.body.Body.{Body}
use Rattle.dialect_defs.specs.declared.body.Constraint.{Constraint}
use Rattle.dialect_defs.specs.declared.body.Constraint.TheVariants as con
use Rattle.dialect_defs.specs.declared.body.VarId.{VarId}
use Rattle.dialect_defs.specs.declared.definition.OpDef.{OpDef}
use Rattle.dialect_defs.specs.declared.definition.TypeDef.{TypeDef}
use Rattle.dialect_defs.specs.declared.entry.AttrEntry.{AttrEntry}
use Rattle.dialect_defs.specs.declared.entry.Entry.{Entry}
use Rattle.dialect_defs.specs.declared.entry.RegionEntry.{RegionEntry}
use Rattle.dialect_defs.specs.Assignments.{Tests}
use Rattle.generic_syntax.specs.declared.cst.EntryCst.{EntryCst}
use Rattle.generic_syntax.specs.declared.cst.NameCst.{NameCst}
use Rattle.generic_syntax.specs.declared.cst.ValueCst.{ValueCst}
use Rattle.generic_syntax.specs.declared.cst.ValueNode.{ValueNode, out-ValueNode}
use Rattle.generic_syntax.specs.declared.cst.ValueNode.TheOpen.{ValueNode-F}
use Rattle.ir_lexer.specs.Spelling.{Text}
use Rattle.irdl_ops.specs.declared.raw.DefKind.{DefKind}
use Rattle.irdl_ops.specs.declared.raw.DefKind.TheVariants.{OfType, OfAttr, OfOp}
use Rattle.irdl_ops.specs.declared.raw.RawAttr.{RawAttr}
use Rattle.irdl_ops.specs.declared.raw.RawDef.{RawDef}
use Rattle.irdl_ops.specs.declared.raw.RawDialect.{RawDialect}
use Rattle.irdl_ops.specs.declared.raw.RawEntry.{RawEntry}
use Rattle.irdl_ops.specs.declared.raw.RawExpr.{RawExpr}
use Rattle.irdl_ops.specs.declared.raw.RawExpr.TheVariants as raw
use Rattle.irdl_ops.specs.declared.raw.RawRef.{RawRef}
use Rattle.irdl_ops.specs.declared.raw.RawStatement.{RawStatement}
use Rattle.irdl_ops.specs.declared.raw.StatementKind.{StatementKind}
use Rattle.irdl_ops.specs.declared.raw.StatementKind.TheVariants as says
use Rattle.value_meaning.specs.Faults.{Means}
use Rattle.value_meaning.specs.Meaning.{Aliases}
use Rattle.dialect_registry.specs.declared.targets.Target.{Target}
use Rattle.dialect_registry.specs.References.{IsNoBase}
use Rattle.dialect_registry.specs.Targets.{World, listed, parameters_in, target}

-- ---- lists

-- there are as many of the one as of the other, related at each place
abbrev pub AreEach : {A B : Type 0} → (A → B → Type 0) → List A → List B → Type 0
AreEach R [] [] = Unit {0}
AreEach R (x ∷ xs) (y ∷ ys) = R x y × AreEach R xs ys
AreEach R [] (y ∷ ys) = ⊥
AreEach R (x ∷ xs) [] = ⊥

-- ---- the names of a body

-- a constraint and its name
pub record Named : Type 0 where
  pub name : Text
  pub expr : RawExpr

-- the constraint that a statement defines
abbrev pub constraint_in : StatementKind → List Named
constraint_in (says.Constraint name expr) = record { name = name.name; expr = expr } ∷ []
constraint_in _ = []

-- the constraints of a body, in order
abbrev pub constraints_in : List RawStatement → List Named
constraints_in statements = flat_map (λ s. constraint_in s.kind) statements

-- the number of the first constraint that has the name, or how many there are
abbrev pub number_of : List Named → Text → ℕ
number_of cs name = position_or_len (λ c. bytes_eq c.name name) cs

-- the variable of this name
abbrev pub variable : List Named → NameCst → VarId
variable cs n = record { 0 = number_of cs n.name }

-- the variables of some names
abbrev pub variables : List Named → List NameCst → List VarId
variables cs names = map (variable cs) names

-- what a region says: its arguments, where they are declared, and how many blocks, where it is said
pub record RegionSays : Type 0 where
  pub args : Option (List NameCst)
  pub size : Option ℕ

-- what a statement says of the region of this name, if it defines it
abbrev pub region_as : Text → StatementKind → Option RegionSays
region_as name (says.Region n args size) =
    if bytes_eq n.name name then Some (record { args = args; size = size }) else None
region_as name _ = None

-- what a body says of the first region of this name
abbrev pub region_named : List RawStatement → Text → Option RegionSays
region_named [] name = None
region_named (s ∷ ss) name = option_or (region_as name s.kind) (region_named ss name)

-- ---- the lists of a body

-- the operands that a statement lists
abbrev pub operands_by : StatementKind → Option (List RawEntry)
operands_by (says.Operands entries) = Some entries
operands_by _ = None

-- the first list of operands
abbrev pub operands_in : List RawStatement → List RawEntry
operands_in statements = listed operands_by statements

-- the results that a statement lists
abbrev pub results_by : StatementKind → Option (List RawEntry)
results_by (says.Results entries) = Some entries
results_by _ = None

-- the first list of results
abbrev pub results_in : List RawStatement → List RawEntry
results_in statements = listed results_by statements

-- the attributes that a statement lists
abbrev pub attrs_by : StatementKind → Option (List RawAttr)
attrs_by (says.Attributes attrs) = Some attrs
attrs_by _ = None

-- the first list of attributes
abbrev pub attrs_in : List RawStatement → List RawAttr
attrs_in statements = listed attrs_by statements

-- the regions that a statement lists
abbrev pub regions_by : StatementKind → Option (List RawEntry)
regions_by (says.Regions entries) = Some entries
regions_by _ = None

-- the first list of regions
abbrev pub regions_in : List RawStatement → List RawEntry
regions_in statements = listed regions_by statements

-- the successors that a statement lists
abbrev pub successors_by : StatementKind → Option (List NameCst)
successors_by (says.Successors names) = Some names
successors_by _ = None

-- the first list of successors
abbrev pub successors_in : List RawStatement → List NameCst
successors_in statements = listed successors_by statements

-- a statement says that the operation is a terminator
abbrev pub ends_block : StatementKind → Bool
ends_block says.Terminator = true
ends_block _ = false

-- the operation is declared a terminator
abbrev pub is_terminator : List RawStatement → Bool
is_terminator statements = list_any (λ s. ends_block s.kind) statements

-- ---- entries

-- the name of an entry
abbrev pub label : Option NameCst → Option Text
label name = option_map (λ n. n.name) name

-- an entry of parameters, operands or results
abbrev pub entry_of : List Named → RawEntry → Entry
entry_of cs e = record { name = label e.name; arity = e.arity; var = variable cs e.var }

-- a constraint asks for the unit attribute
abbrev pub is_unit_node : ValueNode-F ValueNode EntryCst ValueCst → Bool
is_unit_node (ValueNode-F.Word word) = bytes_eq word (codes "unit")
is_unit_node _ = false

abbrev pub is_unit : RawExpr → Bool
is_unit (raw.Is cst) = is_unit_node (out-ValueNode cst.node)
is_unit _ = false

-- the first constraint of this name asks for the unit attribute
abbrev pub is_unit_named : List Named → Text → Bool
is_unit_named [] name = false
is_unit_named (c ∷ cs) name = if bytes_eq c.name name then is_unit c.expr else is_unit_named cs name

-- an entry of attributes
abbrev pub attr_of : List Named → RawAttr → AttrEntry
attr_of cs a = record {
  name = a.name.text;
  optional = a.optional;
  unit = is_unit_named cs a.var.name;
  var = variable cs a.var;
}

-- a region of which the body says this
abbrev pub region_by : List Named → Option Text → Option RegionSays → RegionEntry
region_by cs name None = record { name = name; args = None; size = None }
region_by cs name (Some r) =
    record { name = name; args = option_map (variables cs) r.args; size = r.size }

-- an entry of regions
abbrev pub region_of : List RawStatement → RawEntry → RegionEntry
region_of statements e =
    region_by (constraints_in statements) (label e.name) (region_named statements e.var.name)

-- ---- constraints

-- the full name of a definition: that of its dialect, a dot and its own
abbrev pub full_name : Text → Text → Text
full_name dialect name = dialect ++ codes "." ++ name

-- the full name of what a reference in the dialect `own` names
abbrev pub full_name_of : Text → RawRef → Text
full_name_of own r = full_name (unwrap_or r.dialect own) r.name

-- the constraint that a predicate is true, by its place
abbrev pub native_by : Option ℕ → Constraint
native_by None = con.Any
native_by (Some i) = con.Native i

-- the constraint that a head is of the kind of this name
abbrev pub IsBuiltIn : Text → Constraint → Type 0
IsBuiltIn name c =
    ((base : BaseKind) × (base_name base ≡ name) × (c ≡ con.Base (Builtin base)))
    ⊎ (IsNoBase name × (c ≡ con.Any))

-- the constraint that a value is of what a reference of the dialect `own` names
abbrev pub base_by : Text → RawRef → Option Target → Constraint
base_by own r None = con.Any
base_by own r (Some t) = con.Base (Defined t.is_type (full_name_of own r))

-- the same over the values of these variables
abbrev pub parametric_by : Text → RawRef → List VarId → Option Target → Constraint
parametric_by own r parts None = con.Any
parametric_by own r parts (Some t) = con.Parametric t.is_type (full_name_of own r) parts

-- no alias is there
abbrev pub no_aliases : Aliases
no_aliases is_type name = None

-- with these definitions a constant has no value that is good
abbrev pub IsMeaningless : List Value → Tests → List TypeDef → ValueCst → Type 0
IsMeaningless values tests types cst =
    (v : Value) → Means values tests types no_aliases cst v → ⊥

module _ (tests : Tests) (shapes : List TypeDef) (values : List Value) where
  -- The constant means the value of this id. Of what dialects define, names and numbers of
  -- parameters count; what bodies ask is judged of the value afterwards.
  pub record HasConstant (cst : ValueCst) (id : ValueId) : Type 0 where
    pub known : id.0 < length values
    pub means : Means [] tests shapes no_aliases cst (at values id.0)

module _ (w : World) (tests : Tests) (shapes : List TypeDef) (values : List Value) where
  -- a constraint of the dialect `own`, in a body of these
  abbrev pub IsConstraint : Text → List Named → RawExpr → Constraint → Type 0
  IsConstraint own body (raw.Is cst) c =
      (id : ValueId) × HasConstant tests shapes values cst id × (c ≡ con.Is id)
  IsConstraint own body raw.Any c = c ≡ con.Any
  IsConstraint own body (raw.Pred p) c =
      c ≡ native_by (position (λ own. bytes_eq own p.text) w.natives)
  IsConstraint own body (raw.BaseName b) c = IsBuiltIn b.text c
  IsConstraint own body (raw.BaseRef r) c = c ≡ base_by own r (target w own r)
  IsConstraint own body (raw.Parametric r parts) c =
      c ≡ parametric_by own r (variables body parts) (target w own r)
  IsConstraint own body (raw.AnyOf members) c = c ≡ con.AnyOf (variables body members)
  IsConstraint own body (raw.AllOf members) c = c ≡ con.AllOf (variables body members)

  -- each variable has the constraint at its place
  abbrev pub IsBody : Text → List Named → Body → Type 0
  IsBody own cs body = AreEach (λ named c. IsConstraint own cs named.expr c) cs body.vars

-- ---- definitions

-- a definition and the name of its dialect
pub record Located : Type 0 where
  pub dialect : Text
  pub def : RawDef

abbrev pub located : Text → RawDef → Located
located dialect def = record { dialect = dialect; def = def }

-- the definitions of a dialect
abbrev pub located_of : RawDialect → List Located
located_of d = map (located d.name) d.defs

-- the definitions of some dialects, in order
abbrev pub located_in : List RawDialect → List Located
located_in dialects = flat_map located_of dialects

-- a type or an attribute, alone
abbrev pub type_by : Located → DefKind → List Located
type_by d OfType = d ∷ []
type_by d OfAttr = d ∷ []
type_by d OfOp = []

-- the types and attributes among some definitions
abbrev pub types_among : List Located → List Located
types_among ds = flat_map (λ d. type_by d d.def.kind) ds

-- an operation, alone
abbrev pub op_by : Located → DefKind → List Located
op_by d OfOp = d ∷ []
op_by d _ = []

-- the operations among some definitions
abbrev pub ops_among : List Located → List Located
ops_among ds = flat_map (λ d. op_by d d.def.kind) ds

-- a definition of this kind defines a type
abbrev pub is_type_kind : DefKind → Bool
is_type_kind OfType = true
is_type_kind _ = false

module _ (w : World) (tests : Tests) (shapes : List TypeDef) (values : List Value) where
  -- a type or an attribute
  pub record IsType (d : Located) (t : TypeDef) : Type 0 where
    pub kind : t.is_type ≡ is_type_kind d.def.kind
    pub name : t.name ≡ full_name d.dialect d.def.name
    pub body : IsBody w tests shapes values d.dialect (constraints_in d.def.statements) t.body
    pub params : t.params
        ≡ map (entry_of (constraints_in d.def.statements)) (parameters_in d.def.statements)

  -- an operation
  pub record IsOp (d : Located) (o : OpDef) : Type 0 where
    pub name : o.name ≡ full_name d.dialect d.def.name
    pub body : IsBody w tests shapes values d.dialect (constraints_in d.def.statements) o.body
    pub operands : o.operands
        ≡ map (entry_of (constraints_in d.def.statements)) (operands_in d.def.statements)
    pub results : o.results
        ≡ map (entry_of (constraints_in d.def.statements)) (results_in d.def.statements)
    pub attrs : o.attrs
        ≡ map (attr_of (constraints_in d.def.statements)) (attrs_in d.def.statements)
    pub regions : o.regions ≡ map (region_of d.def.statements) (regions_in d.def.statements)
    pub successors : o.successors ≡ map (λ n. n.name) (successors_in d.def.statements)
    pub terminator : o.terminator ≡ is_terminator d.def.statements
