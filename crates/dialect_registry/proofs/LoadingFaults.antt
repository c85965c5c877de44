-- The faults of constants and formats as files are loaded.
use Rattle.std.proofs.Common.{◌≡◌, ℕ, zero, suc, inl, inr, List, [], ◌∷◌, length, refl, sym, ap, subst, arith}
use Rattle.std.specs.Prelude.{slice_get}
use Rattle.std.specs.List.{Contains}
use Rattle.std.specs.declared.option.Option.TheVariants.{Some}
use Rattle.attr_value.specs.Values.{Value}
use Rattle.constraint_solver.specs.Definitions.{AreSoundDefs}
use Rattle.constraint_solver.specs.Grown.{Extends}
use Rattle.dialect_defs.specs.declared.body.Constraint.{Constraint}
use Rattle.dialect_defs.specs.declared.definition.TypeDef.{TypeDef}
use Rattle.dialect_defs.specs.Assignments.{Tests}
use Rattle.first_fault.specs.declared.fault.Fault.{Fault}
use Rattle.ir_lexer.specs.Spelling.{Text}
use Rattle.irdl_ops.specs.declared.raw.DefKind.{DefKind}
use Rattle.irdl_ops.specs.declared.raw.DefKind.TheVariants.{OfType, OfAttr, OfOp}
use Rattle.irdl_ops.specs.declared.raw.RawDefs.{RawDefs}
use Rattle.irdl_ops.specs.declared.raw.RawExpr.{RawExpr}
use Rattle.irdl_ops.specs.declared.raw.RawExpr.TheVariants as raw
use Rattle.irdl_ops.specs.declared.raw.StatementKind.{StatementKind}
use Rattle.irdl_ops.specs.declared.raw.StatementKind.TheVariants as k
use Rattle.value_meaning.proofs.Meant.{means-grows}
use Rattle.dialect_registry.specs.declared.code.DefCode.TheVariants.{ConstantBad}
use Rattle.dialect_registry.specs.declared.refusal.FileFault.{FileFault}
use Rattle.dialect_registry.specs.declared.resolve.definition.Resolved.{Resolved}
use Rattle.dialect_registry.specs.Codes.{IsRule}
use Rattle.dialect_registry.specs.ConstantFaults.{IsConstantFault, IsExprConstantFault, IsFaultIn}
use Rattle.dialect_registry.specs.DefFaults.{IsFirstIn, dialects_of, fault_in}
use Rattle.dialect_registry.specs.Resolved.{AreEach, Named, IsConstraint, IsMeaningless, IsOp, IsType, Located, constraint_in, constraints_in, located, located_in, located_of, op_by, ops_among, type_by, types_among}
use Rattle.dialect_registry.specs.Resolving.{Resolves}
use Rattle.dialect_registry.specs.Targets.{World}
use Rattle.dialect_registry.proofs.Members.{contains-cases, contains-head, contains-tail, in-flat_map, in-map}

-- ---- the rules of these faults

-- the first of such faults has a rule, where each has
pub first-in-rule : (P : StatementKind → Fault → Type 0)
    → ((s : StatementKind) (f : Fault) → P s f → IsRule f.code) → (files : List RawDefs)
    → (r : FileFault) → IsFirstIn (IsFaultIn P files) (Some r) → IsRule r.code
first-in-rule P each files r first =
    let found = first.0.0 in
    let dialect = found.2 in
    let def = dialect.2 in
    let s = def.2 in
    each s.0.kind (fault_in r) s.2

expr-rule : (values : List Value) (tests : Tests) (types : List TypeDef) (e : RawExpr) (f : Fault)
    → IsExprConstantFault values tests types e f → IsRule f.code
expr-rule values tests types (raw.Is cst) f p = (ConstantBad, ap (λ g. g.code) p.1)
expr-rule values tests types raw.Any f p = absurd p
expr-rule values tests types (raw.Pred n) f p = absurd p
expr-rule values tests types (raw.BaseRef r) f p = absurd p
expr-rule values tests types (raw.BaseName b) f p = absurd p
expr-rule values tests types (raw.Parametric r parts) f p = absurd p
expr-rule values tests types (raw.AnyOf members) f p = absurd p
expr-rule values tests types (raw.AllOf members) f p = absurd p

pub constant-rule : (values : List Value) (tests : Tests) (types : List TypeDef)
    (s : StatementKind) (f : Fault) → IsConstantFault values tests types s f → IsRule f.code
constant-rule values tests types (k.Constraint n e) f p = expr-rule values tests types e f p
constant-rule values tests types (k.Region n args size) f p = absurd p
constant-rule values tests types (k.Parameters entries) f p = absurd p
constant-rule values tests types (k.Operands entries) f p = absurd p
constant-rule values tests types (k.Results entries) f p = absurd p
constant-rule values tests types (k.Attributes attrs) f p = absurd p
constant-rule values tests types (k.Regions entries) f p = absurd p
constant-rule values tests types (k.Successors names) f p = absurd p
constant-rule values tests types k.Terminator f p = absurd p
constant-rule values tests types (k.Format text) f p = absurd p

-- ---- faults of one kind that are faults of another

pub fault-moved : (P Q : StatementKind → Fault → Type 0)
    → ((s : StatementKind) (f : Fault) → P s f → Q s f) → (files : List RawDefs) (n : ℕ)
    (f : Fault) → IsFaultIn P files n f → IsFaultIn Q files n f
fault-moved P Q each files n f (file, at, (dialect, in_file, (def, in_dialect, (s, in_def, p)))) =
    (file, at, (dialect, in_file, (def, in_dialect, (s, in_def, each s.kind f p))))

-- a constant without a good value over two tables
pub expr-moved : (old new : List Value) (tests : Tests) (types kinds : List TypeDef)
    → ((cst : _) → IsMeaningless old tests types cst → IsMeaningless new tests kinds cst)
    → (e : RawExpr) (f : Fault) → IsExprConstantFault old tests types e f
    → IsExprConstantFault new tests kinds e f
expr-moved old new tests types kinds each (raw.Is cst) f p = (each cst p.0, p.1)
expr-moved old new tests types kinds each raw.Any f p = p
expr-moved old new tests types kinds each (raw.Pred n) f p = p
expr-moved old new tests types kinds each (raw.BaseRef r) f p = p
expr-moved old new tests types kinds each (raw.BaseName b) f p = p
expr-moved old new tests types kinds each (raw.Parametric r parts) f p = p
expr-moved old new tests types kinds each (raw.AnyOf members) f p = p
expr-moved old new tests types kinds each (raw.AllOf members) f p = p

pub constant-moved : (old new : List Value) (tests : Tests) (types kinds : List TypeDef)
    → ((cst : _) → IsMeaningless old tests types cst → IsMeaningless new tests kinds cst)
    → (s : StatementKind) (f : Fault) → IsConstantFault old tests types s f
    → IsConstantFault new tests kinds s f
constant-moved old new tests types kinds each (k.Constraint n e) f p =
    expr-moved old new tests types kinds each e f p
constant-moved old new tests types kinds each (k.Region n args size) f p = p
constant-moved old new tests types kinds each (k.Parameters entries) f p = p
constant-moved old new tests types kinds each (k.Operands entries) f p = p
constant-moved old new tests types kinds each (k.Results entries) f p = p
constant-moved old new tests types kinds each (k.Attributes attrs) f p = p
constant-moved old new tests types kinds each (k.Regions entries) f p = p
constant-moved old new tests types kinds each (k.Successors names) f p = p
constant-moved old new tests types kinds each k.Terminator f p = p
constant-moved old new tests types kinds each (k.Format text) f p = p

-- constants that are good over a table are so over a longer one
pub good-longer : (files : List RawDefs) (tests : Tests) {old new : List Value} {count : ℕ}
    (types : List TypeDef) → Extends old new → AreSoundDefs (length old) count types
    → ((n : ℕ) (f : Fault) → IsFaultIn (IsConstantFault old tests types) files n f → ⊥)
    → (n : ℕ) (f : Fault) → IsFaultIn (IsConstantFault new tests types) files n f → ⊥
good-longer files tests {old} {new} types e sound none n f p =
    none n f (fault-moved (IsConstantFault new tests types) (IsConstantFault old tests types)
    (constant-moved new old tests types types
    (λ cst bad v means. bad v (means-grows e sound means))) files n f p)

-- ---- constants that were resolved have values

-- what is related to a member
each-of : {A B : Type 0} (R : A → B → Type 0) (xs : List A) (ys : List B) → AreEach R xs ys
    → (x : A) → Contains xs x → (y : B) × R x y
each-of R [] ys each x (j, less, is) = absurd (omega (arith, less))
each-of R (z ∷ xs) [] each x has = absurd each
each-of {A} {B} R (z ∷ xs) (y ∷ ys) each x has = elim (contains-cases z x xs has) [
  | inl same ↦ (y, subst (λ a. R a y) same each.0)
  | inr later ↦ each-of R xs ys each.1 x later
]

module _ (w : World) (tests : Tests) (shapes : List TypeDef) (values : List Value) where
  expr-valued : (own : Text) (cs : List Named) (e : RawExpr) (c : Constraint)
      → IsConstraint w tests shapes values own cs e c → (f : Fault)
      → IsExprConstantFault [] tests shapes e f → ⊥
  expr-valued own cs (raw.Is cst) c (id, has, is) f p = p.0 _ has.means
  expr-valued own cs raw.Any c is f p = p
  expr-valued own cs (raw.Pred n) c is f p = p
  expr-valued own cs (raw.BaseRef r) c is f p = p
  expr-valued own cs (raw.BaseName b) c is f p = p
  expr-valued own cs (raw.Parametric r parts) c is f p = p
  expr-valued own cs (raw.AnyOf members) c is f p = p
  expr-valued own cs (raw.AllOf members) c is f p = p

  -- of a body that was resolved no constant is without a value
  body-valued : (d : Located) (vars : List Constraint)
      → AreEach (λ x c. IsConstraint w tests shapes values d.dialect
      (constraints_in d.def.statements) x.expr c) (constraints_in d.def.statements) vars
      → (s : _) → Contains d.def.statements s → (f : Fault)
      → IsConstantFault [] tests shapes s.kind f → ⊥
  body-valued d vars each s has f p = by s.kind refl p
    where
      by : (x : StatementKind) → s.kind ≡ x → IsConstantFault [] tests shapes x f → ⊥
      by (k.Constraint n e) is p =
          let named : Named = record { name = n.name; expr = e } in
          let member = in-flat_map (λ x. constraint_in x.kind) d.def.statements s named has
          (subst (λ x. Contains (constraint_in x) named) (sym is) (contains-head named [])) in
          let found = each-of (λ x c. IsConstraint w tests shapes values d.dialect
          (constraints_in d.def.statements) x.expr c) (constraints_in d.def.statements) vars each
          named member in
          expr-valued d.dialect (constraints_in d.def.statements) e found.0 found.1 f p
      by (k.Region n args size) is p = p
      by (k.Parameters entries) is p = p
      by (k.Operands entries) is p = p
      by (k.Results entries) is p = p
      by (k.Attributes attrs) is p = p
      by (k.Regions entries) is p = p
      by (k.Successors names) is p = p
      by k.Terminator is p = p
      by (k.Format text) is p = p

  -- of definitions that were resolved
  def-valued : (ds : List Located) (r : Resolved) → Resolves w tests shapes values ds r
      → (d : Located) → Contains ds d → (s : _) → Contains d.def.statements s → (f : Fault)
      → IsConstantFault [] tests shapes s.kind f → ⊥
  def-valued ds r resolves d has s in_def f p = by d.def.kind refl
    where
      typed : Contains (type_by d d.def.kind) d → ⊥
      typed member =
          let found = each-of (IsType w tests shapes values) (types_among ds) r.types.items
          resolves.types d (in-flat_map (λ x. type_by x x.def.kind) ds d d has member) in
          body-valued d found.0.body.vars found.1.body s in_def f p

      operated : Contains (op_by d d.def.kind) d → ⊥
      operated member =
          let found = each-of (IsOp w tests shapes values) (ops_among ds) r.ops.items
          resolves.ops d (in-flat_map (λ x. op_by x x.def.kind) ds d d has member) in
          body-valued d found.0.body.vars found.1.body s in_def f p

      by : (x : DefKind) → d.def.kind ≡ x → ⊥
      by OfType is =
          typed (subst (λ x. Contains (type_by d x) d) (sym is) (contains-head d []))
      by OfAttr is =
          typed (subst (λ x. Contains (type_by d x) d) (sym is) (contains-head d []))
      by OfOp is =
          operated (subst (λ x. Contains (op_by d x) d) (sym is) (contains-head d []))

  -- and so of files
  pub resolved-valued : (files : List RawDefs) (r : Resolved)
      → Resolves w tests shapes values (located_in (dialects_of files)) r → (n : ℕ) (f : Fault)
      → IsFaultIn (IsConstantFault [] tests shapes) files n f → ⊥
  resolved-valued files r resolves n f
      (file, at, (dialect, in_file, (def, in_dialect, (s, in_def, p)))) =
      def-valued (located_in (dialects_of files)) r resolves (located dialect.name def)
      (in-flat_map located_of (dialects_of files) dialect (located dialect.name def)
      (in-flat_map (λ x. x.dialects) files file dialect (member files n at) in_file)
      (in-map (located dialect.name) dialect.defs def in_dialect))
      s in_def f p
    where
      member : (xs : List RawDefs) (i : ℕ) → slice_get xs i ≡ Some file → Contains xs file
      member [] i e = absurd (cc)
      member (y ∷ xs) zero e = let same : y ≡ file = cc in (0, omega arith, same)
      member (y ∷ xs) (suc i) e = contains-tail y file xs (member xs i e)
