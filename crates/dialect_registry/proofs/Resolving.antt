-- What was resolved stays so as the table of values grows, and definitions are resolved one by one.
use Rattle.std.proofs.Common.{◌≡◌, ◌∙◌, ℕ, ◌+◌, ◌<◌, ◌⊎◌, inl, inr, List, [], ◌∷◌, ◌++◌, length, take, get_or, map, sym, ap, subst, arith, append-nil, append_assoc, refl}
use Rattle.std.proofs.lemmas.List.{map-append, take_more}
use Rattle.std.specs.List.{flat_map}
use Rattle.std.proofs.lemmas.Grind.{flat_map-append}
use Rattle.attr_value.specs.declared.head.ValueId.{ValueId}
use Rattle.attr_value.specs.Values.{Value}
use Rattle.constraint_solver.specs.Grown.{Extends}
use Rattle.constraint_solver.proofs.Grows.{at-grows, length-grows}
use Rattle.dialect_defs.specs.declared.body.Body.{Body}
use Rattle.dialect_defs.specs.declared.body.Constraint.{Constraint}
use Rattle.dialect_defs.specs.declared.definition.OpDef.{OpDef}
use Rattle.dialect_defs.specs.declared.definition.TypeDef.{TypeDef}
use Rattle.dialect_defs.specs.Assignments.{Tests}
use Rattle.generic_syntax.specs.declared.cst.ValueCst.{ValueCst}
use Rattle.ir_lexer.specs.Spelling.{Text}
use Rattle.irdl_ops.specs.declared.raw.DefKind.TheVariants.{OfType, OfAttr, OfOp}
use Rattle.irdl_ops.specs.declared.raw.RawDef.{RawDef}
use Rattle.irdl_ops.specs.declared.raw.RawExpr.{RawExpr}
use Rattle.irdl_ops.specs.declared.raw.RawExpr.TheVariants as raw
use Rattle.value_meaning.specs.Faults.{Means}
use Rattle.irdl_ops.specs.declared.raw.RawDefs.{RawDefs}
use Rattle.dialect_registry.specs.declared.resolve.definition.Resolved.{Resolved}
use Rattle.dialect_registry.specs.declared.resolve.names.NamedExpr.{NamedExpr}
use Rattle.dialect_registry.specs.DefFaults.{dialects_of}
use Rattle.dialect_registry.specs.FormatFaults.{op_of}
use Rattle.dialect_registry.specs.Resolved.{AreEach, IsBody, Named, HasConstant, IsConstraint}
use Rattle.dialect_registry.specs.Resolved.{IsType, IsOp, Located, located, types_among, ops_among}
use Rattle.dialect_registry.specs.Resolved.{no_aliases, type_by, op_by, constraints_in, located_in, located_of}
use Rattle.dialect_registry.specs.Resolving.{Resolves, named_seen, one_seen}
use Rattle.dialect_registry.specs.Targets.{World}
use Rattle.dialect_registry.proofs.Each.{each-more, each-weaker}
use Rattle.dialect_registry.proofs.Walks.{flat_map-more}

module _ {tests : Tests} {shapes : List TypeDef} {old new : List Value} (e : Extends old new) where
  -- a constant means the value of its id over a longer table
  pub constant-grows : (cst : ValueCst) (id : ValueId) → HasConstant tests shapes old cst id
      → HasConstant tests shapes new cst id
  constant-grows cst id has = record {
    known = omega (arith, has.known, length-grows e);
    means = subst (Means [] tests shapes no_aliases cst) (sym (at-grows e id.0 has.known)) has.means;
  }

module _ (w : World) (tests : Tests) (shapes : List TypeDef) {old new : List Value}
    (e : Extends old new) where
  constraint-grows : (own : Text) (cs : List Named) (x : RawExpr) (c : Constraint)
      → IsConstraint w tests shapes old own cs x c → IsConstraint w tests shapes new own cs x c
  constraint-grows own cs (raw.Is cst) c (id, has, is) = (id, constant-grows e cst id has, is)
  constraint-grows own cs raw.Any c is = is
  constraint-grows own cs (raw.Pred p) c is = is
  constraint-grows own cs (raw.BaseName b) c is = is
  constraint-grows own cs (raw.BaseRef r) c is = is
  constraint-grows own cs (raw.Parametric r parts) c is = is
  constraint-grows own cs (raw.AnyOf members) c is = is
  constraint-grows own cs (raw.AllOf members) c is = is

  -- constraints that were resolved are so over a longer table
  pub constraints-grow : (own : Text) (cs xs : List Named) (vars : List Constraint)
      → AreEach (λ x c. IsConstraint w tests shapes old own cs x.expr c) xs vars
      → AreEach (λ x c. IsConstraint w tests shapes new own cs x.expr c) xs vars
  constraints-grow own cs xs vars each =
      each-weaker (λ x c. IsConstraint w tests shapes old own cs x.expr c)
      (λ x c. IsConstraint w tests shapes new own cs x.expr c)
      (λ x c is. constraint-grows own cs x.expr c is) xs vars each

  pub type-grows : (d : Located) (t : TypeDef) → IsType w tests shapes old d t
      → IsType w tests shapes new d t
  type-grows d t is = record {
    kind = is.kind;
    name = is.name;
    body = constraints-grow d.dialect (constraints_in d.def.statements)
        (constraints_in d.def.statements) t.body.vars is.body;
    params = is.params;
  }

  pub op-grows : (d : Located) (o : OpDef) → IsOp w tests shapes old d o → IsOp w tests shapes new d o
  op-grows d o is = record {
    name = is.name;
    body = constraints-grow d.dialect (constraints_in d.def.statements)
        (constraints_in d.def.statements) o.body.vars is.body;
    operands = is.operands;
    results = is.results;
    attrs = is.attrs;
    regions = is.regions;
    successors = is.successors;
    terminator = is.terminator;
  }

  -- definitions that were resolved are so over a longer table
  pub resolves-grows : {ds : List Located} {r : Resolved} → Resolves w tests shapes old ds r
      → Resolves w tests shapes new ds r
  resolves-grows {ds} {r} is = record {
    types = each-weaker (IsType w tests shapes old) (IsType w tests shapes new) type-grows
        (types_among ds) r.types.items is.types;
    ops = each-weaker (IsOp w tests shapes old) (IsOp w tests shapes new) op-grows
        (ops_among ds) r.ops.items is.ops;
  }

-- an operation that is made of its definition and a body that was resolved
pub op-made : (w : World) (tests : Tests) (shapes : List TypeDef) (values : List Value)
    (d : Located) (body : Body) (o : OpDef) → o ≡ op_of d body
    → IsBody w tests shapes values d.dialect (constraints_in d.def.statements) body
    → IsOp w tests shapes values d o
op-made w tests shapes values d body o is resolved =
    subst (IsOp w tests shapes values d) (sym is) (record {
      name = refl;
      body = resolved;
      operands = refl;
      results = refl;
      attrs = refl;
      regions = refl;
      successors = refl;
      terminator = refl;
    })

-- one constraint more is resolved
pub constraints-next : (w : World) (tests : Tests) (shapes : List TypeDef) {old new : List Value}
    → Extends old new → (own : Text) (cs : List Named) (items : List NamedExpr) (i : ℕ)
    (x : NamedExpr) (vars longer : List Constraint) (c : Constraint) → i < length items
    → x ≡ get_or items i x
    → AreEach (λ y c. IsConstraint w tests shapes old own cs y.expr c)
    (named_seen (take i items)) vars
    → IsConstraint w tests shapes new own cs x.expr.now c → longer ≡ vars ++ c ∷ []
    → AreEach (λ y c. IsConstraint w tests shapes new own cs y.expr c)
    (named_seen (take (i + 1) items)) longer
constraints-next w tests shapes {old} {new} e own cs items i x vars longer c less is each one more =
    let R : Named → Constraint → Type 0 =
    λ y c. IsConstraint w tests shapes new own cs y.expr c in
    let front : named_seen (take i items) ++ one_seen x ∷ [] ≡ named_seen (take (i + 1) items) =
    ap (λ y. named_seen (take i items) ++ one_seen y ∷ []) is
    ∙ sym (map-append one_seen (take i items) (get_or items i x ∷ []))
    ∙ ap named_seen (sym (take_more items i x less)) in
    subst (λ l. AreEach R l longer) front
    (subst (λ l. AreEach R (named_seen (take i items) ++ one_seen x ∷ []) l) (sym more)
    (each-more R (named_seen (take i items)) vars (one_seen x) c
    (constraints-grow w tests shapes e own cs (named_seen (take i items)) vars each) one))

among-more : (f : Located → List Located) (ds : List Located) (d : Located)
    → flat_map f (ds ++ d ∷ []) ≡ flat_map f ds ++ f d
among-more f ds d = flat_map-append f ds (d ∷ []) ∙ ap (λ l. flat_map f ds ++ l) (append-nil (f d))

module _ (w : World) (tests : Tests) (shapes : List TypeDef) (values : List Value)
    (ds : List Located) (own : Text) (def : RawDef) (old new : Resolved) where
  -- with one operation more
  pub resolves-op : (o : OpDef) → def.kind ≡ OfOp → new.types ≡ old.types
      → new.ops.items ≡ old.ops.items ++ o ∷ [] → Resolves w tests shapes values ds old
      → IsOp w tests shapes values (located own def) o
      → Resolves w tests shapes values (ds ++ located own def ∷ []) new
  resolves-op o kind same added before is = record {
    types = subst (λ l. AreEach (IsType w tests shapes values) l new.types.items)
        (sym (among-more (λ d. type_by d d.def.kind) ds (located own def)
        ∙ ap (λ k. types_among ds ++ type_by (located own def) k) kind
        ∙ append-nil (types_among ds)))
        (subst (λ t. AreEach (IsType w tests shapes values) (types_among ds) t.items) (sym same)
        before.types);
    ops = subst (λ l. AreEach (IsOp w tests shapes values) l new.ops.items)
        (sym (among-more (λ d. op_by d d.def.kind) ds (located own def)
        ∙ ap (λ k. ops_among ds ++ op_by (located own def) k) kind))
        (subst (AreEach (IsOp w tests shapes values) (ops_among ds ++ located own def ∷ []))
        (sym added) (each-more (IsOp w tests shapes values) (ops_among ds) old.ops.items
        (located own def) o before.ops is));
  }

  -- with one type or attribute more
  pub resolves-type : (t : TypeDef) → types_among (located own def ∷ []) ≡ located own def ∷ []
      → ops_among (located own def ∷ []) ≡ [] → new.ops ≡ old.ops
      → new.types.items ≡ old.types.items ++ t ∷ [] → Resolves w tests shapes values ds old
      → IsType w tests shapes values (located own def) t
      → Resolves w tests shapes values (ds ++ located own def ∷ []) new
  resolves-type t one nothing same added before is = record {
    types = subst (λ l. AreEach (IsType w tests shapes values) l new.types.items)
        (sym (flat_map-append (λ d. type_by d d.def.kind) ds (located own def ∷ [])
        ∙ ap (λ l. types_among ds ++ l) one))
        (subst (AreEach (IsType w tests shapes values) (types_among ds ++ located own def ∷ []))
        (sym added) (each-more (IsType w tests shapes values) (types_among ds) old.types.items
        (located own def) t before.types is));
    ops = subst (λ l. AreEach (IsOp w tests shapes values) l new.ops.items)
        (sym (flat_map-append (λ d. op_by d d.def.kind) ds (located own def ∷ [])
        ∙ ap (λ l. ops_among ds ++ l) nothing ∙ append-nil (ops_among ds)))
        (subst (λ o. AreEach (IsOp w tests shapes values) (ops_among ds) o.items) (sym same)
        before.ops);
  }

-- a definition of one of these kinds is a type or an attribute
pub one-type : (d : Located) → (d.def.kind ≡ OfType) ⊎ (d.def.kind ≡ OfAttr)
    → (types_among (d ∷ []) ≡ d ∷ []) × (ops_among (d ∷ []) ≡ [])
one-type d (inl is) =
    (ap (λ k. type_by d k ++ []) is, ap (λ k. op_by d k ++ []) is)
one-type d (inr is) =
    (ap (λ k. type_by d k ++ []) is, ap (λ k. op_by d k ++ []) is)

module _ (w : World) (tests : Tests) (shapes : List TypeDef) (values : List Value) where
  -- with what one more of some things defines
  pub resolves-next : {A : Type 0} (f : A → List Located) (ds : List Located) (xs : List A) (i : ℕ)
      (x : A) (r : Resolved) → i < length xs → x ≡ get_or xs i x
      → Resolves w tests shapes values ((ds ++ flat_map f (take i xs)) ++ f x) r
      → Resolves w tests shapes values (ds ++ flat_map f (take (i + 1) xs)) r
  resolves-next f ds xs i x r less is resolves =
      subst (λ l. Resolves w tests shapes values l r)
      (append_assoc ds (flat_map f (take i xs)) (f x)
      ∙ ap (λ l. ds ++ l) (flat_map-more f xs i x less is)) resolves

  -- with one definition more of a dialect
  pub resolves-def : (own : Text) (ds : List Located) (xs : List RawDef) (i : ℕ) (x : RawDef)
      (r : Resolved) → i < length xs → x ≡ get_or xs i x
      → Resolves w tests shapes values ((ds ++ map (located own) (take i xs)) ++ located own x ∷ []) r
      → Resolves w tests shapes values (ds ++ map (located own) (take (i + 1) xs)) r
  resolves-def own ds xs i x r less is resolves =
      let more : map (located own) (take i xs) ++ located own x ∷ []
      ≡ map (located own) (take (i + 1) xs) =
      ap (λ y. map (located own) (take i xs) ++ located own y ∷ []) is
      ∙ sym (map-append (located own) (take i xs) (get_or xs i x ∷ []))
      ∙ ap (map (located own)) (sym (take_more xs i x less)) in
      subst (λ l. Resolves w tests shapes values l r)
      (append_assoc ds (map (located own) (take i xs)) (located own x ∷ [])
      ∙ ap (λ l. ds ++ l) more) resolves

  -- with the definitions of one file more
  pub resolves-file : (files : List RawDefs) (i : ℕ) (file : RawDefs) (r : Resolved)
      → i < length files → file ≡ get_or files i file
      → Resolves w tests shapes values
      (located_in (dialects_of (take i files)) ++ located_in file.dialects) r
      → Resolves w tests shapes values (located_in (dialects_of (take (i + 1) files))) r
  resolves-file files i file r less is resolves =
      subst (λ l. Resolves w tests shapes values l r)
      (sym (flat_map-append located_of (dialects_of (take i files)) file.dialects)
      ∙ ap located_in (flat_map-more (λ d. d.dialects) files i file less is)) resolves
