-- The operations of files that break no rule on names, references and limits are sound and have
-- distinct names, and so has the registry of such files.
use Rattle.std.proofs.Common.{◌≡◌, ◌∙◌, ℕ, zero, suc, ◌<◌, ◌≤◌, inl, inr, Bool, true, false, List, [], ◌∷◌, length, map, refl, sym, ap, subst, arith, codes, bytes_eq, if◌then◌else◌}
use Rattle.std.specs.Prelude.{slice_get, IfSome, option_map}
use Rattle.std.specs.List.{flat_map, Contains, AllByRecursion}
use Rattle.std.specs.Option.{option_or}
use Rattle.std.specs.declared.option.Option.{Option}
use Rattle.std.specs.declared.option.Option.TheVariants.{Some, None}
use Rattle.std.proofs.lemmas.Bool.{cases_lt}
use Rattle.std.proofs.lemmas.List.Elements.{Contains-append_left, Contains-append_right}
use Rattle.attr_value.specs.Values.{Value}
use Rattle.dialect_defs.specs.declared.body.Constraint.{Constraint}
use Rattle.dialect_defs.specs.declared.definition.OpDef.{OpDef}
use Rattle.dialect_defs.specs.declared.definition.TypeDef.{TypeDef}
use Rattle.dialect_defs.specs.declared.entry.Entry.{Entry}
use Rattle.dialect_defs.specs.declared.entry.TheConstants.{ENTRY_LIMIT}
use Rattle.dialect_defs.specs.Assignments.{Tests}
use Rattle.dialect_defs.specs.Bodies.{AreBelow, IsSoundAt}
use Rattle.first_fault.specs.declared.fault.Fault.{Fault}
use Rattle.generic_syntax.specs.declared.cst.NameCst.{NameCst}
use Rattle.ir_lexer.specs.Spelling.{Text}
use Rattle.irdl_ops.specs.declared.raw.RawDefs.{RawDefs}
use Rattle.irdl_ops.specs.declared.raw.RawEntry.{RawEntry}
use Rattle.irdl_ops.specs.declared.raw.RawStatement.{RawStatement}
use Rattle.irdl_ops.specs.declared.raw.StatementKind.{StatementKind}
use Rattle.irdl_ops.specs.declared.raw.StatementKind.TheVariants as k
use Rattle.op_verifier.specs.Sound.{AreSoundOps, AttrsAreBelow, EntriesAreBelow, IsSoundOp, RegionsAreBelow}
use Rattle.dialect_registry.specs.DefFaults.{IsFault, dialects_of, world_of}
use Rattle.dialect_registry.specs.Loaded.{module_op}
use Rattle.dialect_registry.specs.NameFaults.{marks_of_kind, marks_of_statement, uses_by}
use Rattle.dialect_registry.specs.NameShapes.{is_one_of, reserved_dialects}
use Rattle.dialect_registry.specs.Registered.{AreApart, HasFullName, IsSound, Registered}
use Rattle.dialect_registry.specs.Resolved.{AreEach, IsOp, IsType, Located, Named, attr_of, attrs_in, constraints_in, entry_of, full_name, located_in, operands_in, ops_among, region_as, region_by, region_named, region_of, regions_in, results_in, types_among, variable, variables}
use Rattle.dialect_registry.specs.Targets.{World}
use Rattle.dialect_registry.proofs.DistinctNames.{SameName, apart-at, dialect-open, dialect-shape, full-name-same, no-dot, no-dot-of, op-among, ops-apart, type-among}
use Rattle.dialect_registry.proofs.Each.{each-at, each-holds, each-length}
use Rattle.dialect_registry.proofs.Faultless.{IsFaultless, located-faultless}
use Rattle.dialect_registry.proofs.Listed.{attr-used, few-operands, few-results, of-kind, operand-used, result-used, use_of}
use Rattle.dialect_registry.proofs.Members.{all-mapped, contains-head, in-map}
use Rattle.dialect_registry.proofs.SoundBodies.{sound-body}
use Rattle.dialect_registry.proofs.SoundTypes.{distinct-types, named-types, sound-types}
use Rattle.dialect_registry.proofs.UsedNames.{used-is}

-- ---- regions

-- the arguments of a region are among the first n variables
module _ (cs : List Named) (n : ℕ) where
  args-below : (args : Option (List NameCst))
      → ((x : NameCst) → Contains (uses_by args) (use_of x) → (variable cs x).0 < n)
      → IfSome (option_map (variables cs) args) (AreBelow n)
  args-below None each = tt
  args-below (Some names) each =
      all-mapped (λ v. v.0 < n) (variable cs) names (λ x has. each x (in-map use_of names x has))

  region-step : (name : Text) (own : Option Text) (x : StatementKind) (rest : List RawStatement)
      → ((v : NameCst) → Contains (marks_of_kind x) (use_of v) → (variable cs v).0 < n)
      → IfSome (region_by cs own (region_named rest name)).args (AreBelow n)
      → IfSome (region_by cs own (option_or (region_as name x) (region_named rest name))).args
      (AreBelow n)
  region-step name own (k.Region r args size) rest each later = pick (bytes_eq r.name name)
    where
      pick : (b : Bool)
          → IfSome (region_by cs own (option_or
          (if b then Some (record { args = args; size = size }) else None)
          (region_named rest name))).args (AreBelow n)
      pick true =
          args-below args (λ x has. each x (Contains-append_left (uses_by args) _ (use_of x) has))
      pick false = later
  region-step name own _ rest each later = later

  region-below : (sts : List RawStatement) (name : Text) (own : Option Text)
      → ((x : NameCst) → Contains (flat_map marks_of_statement sts) (use_of x)
      → (variable cs x).0 < n)
      → IfSome (region_by cs own (region_named sts name)).args (AreBelow n)
  region-below [] name own each = tt
  region-below (s ∷ sts) name own each =
      region-step name own s.kind sts
      (λ x has. each x (of-kind (s ∷ sts) s (use_of x) (contains-head s sts) has))
      (region-below sts name own
      (λ x has. each x (Contains-append_right (marks_of_statement s)
      (flat_map marks_of_statement sts) (use_of x) has)))

-- ---- one operation

-- an operation is sound that was resolved where no rule is broken
pub sound-op : (w : World) (tests : Tests) (shapes : List TypeDef) (values : List Value)
    (count : ℕ) → length w.natives ≡ count → (d : Located) (o : OpDef)
    → IsFaultless w d.dialect d.def → IsOp w tests shapes values d o
    → IsSoundOp (length values) count o
sound-op w tests shapes values count given d o faultless is = record {
  body = sound-body w tests shapes values count given d.dialect faultless.names faultless.few
      o.body is.body;
  names = record {
    operands = subst (EntriesAreBelow n) (sym is.operands)
        (all-mapped (λ (e : Entry). e.var.0 < n) (entry_of cs) (operands_in sts)
        (λ e has. below e.var (operand-used sts e has)));
    results = subst (EntriesAreBelow n) (sym is.results)
        (all-mapped (λ (e : Entry). e.var.0 < n) (entry_of cs) (results_in sts)
        (λ e has. below e.var (result-used sts e has)));
    attrs = subst (AttrsAreBelow n) (sym is.attrs)
        (all-mapped _ (attr_of cs) (attrs_in sts)
        (λ a has. below a.var (attr-used sts a has)));
    regions = subst (RegionsAreBelow n) (sym is.regions)
        (all-mapped _ (region_of sts) (regions_in sts)
        (λ e has. region-below cs n sts e.var.name _ below));
    few_operands = few (operands_in sts) o.operands is.operands
        (few-operands w d.dialect sts faultless.each);
    few_results = few (results_in sts) o.results is.results
        (few-results w d.dialect sts faultless.each);
  };
}
  where
    sts : List RawStatement
    sts = d.def.statements

    cs : List Named
    cs = constraints_in sts

    n : ℕ
    n = length o.body.vars

    below : (x : NameCst) → Contains (flat_map marks_of_statement sts) (use_of x)
        → (variable cs x).0 < n
    below x has =
        let many : length cs ≡ n = each-length _ cs o.body.vars is.body in
        let less = used-is faultless.names x.place x.name has in
        omega (arith, less, many)

    few : (xs : List RawEntry) (es : List Entry) → es ≡ map (entry_of cs) xs
        → length xs ≤ ENTRY_LIMIT → length es ≤ ENTRY_LIMIT
    few xs es same most =
        let long : length es ≡ length xs = ap length same ∙ length-of xs in
        omega (arith, most, long)
      where
        length-of : (ys : List RawEntry) → length (map (entry_of cs) ys) ≡ length ys
        length-of [] = refl
        length-of (y ∷ ys) = ap suc (length-of ys)

-- the operation that is always there is sound
sound-module : (len count : ℕ) → IsSoundOp len count module_op
sound-module len count = record {
  body = record { few = omega arith; each = each };
  names = record {
    operands = tt;
    results = tt;
    attrs = (omega arith, tt);
    regions = (tt, tt);
    few_operands = omega arith;
    few_results = omega arith;
  };
}
  where
    each : (v : ℕ) (c : Constraint) → slice_get module_op.body.vars v ≡ Some c
        → IsSoundAt len count v c
    each zero c at = subst (IsSoundAt len count 0) (some-is at) tt
      where
        some-is : {a b : Constraint} → Some a ≡ Some b → a ≡ b
        some-is e = cc
    each (suc v) c at = absurd (cc)

-- ---- all of them

-- the operation that is always there has a full name
module-named : HasFullName module_op.name
module-named = record {
  dialect = codes "builtin";
  own = codes "module";
  is = refl;
  dialect_shape = refl;
  own_shape = refl;
}

module _ (files : List RawDefs) (natives : List Text)
    (none : (n : ℕ) (f : Fault) → IsFault files natives n f → ⊥) where
  -- the name of a definition of the files is a full one
  full-named : (d : Located) (name : Text) → Contains (located_in (dialects_of files)) d
      → name ≡ full_name d.dialect d.def.name → HasFullName name
  full-named d name has is = record {
    dialect = d.dialect;
    own = d.def.name;
    is = is;
    dialect_shape = dialect-shape files natives none d has;
    own_shape = (located-faultless files natives none d has).shape;
  }

  -- no operation of the files has the name of the one that is always there
  not-module : (d : Located) (name : Text) → Contains (located_in (dialects_of files)) d
      → name ≡ full_name d.dialect d.def.name → module_op.name ≡ name → ⊥
  not-module d name has is same =
      let both = full-name-same d.dialect (codes "builtin") d.def.name (codes "module")
      (no-dot-of files natives none d has) no-dot-here (sym is ∙ sym same) in
      dialect-open files natives none d has
      (subst (λ t. is_reserved t ≡ true) (sym both.0) refl)
    where
      is_reserved : Text → Bool
      is_reserved t = is_one_of reserved_dialects t

      no-dot-here : Contains (codes "builtin") 46 → ⊥
      no-dot-here = no-dot (codes "builtin") refl

  module _ (tests : Tests) (shapes : List TypeDef) (values : List Value) (count : ℕ)
      (given : length natives ≡ count) where
    -- the registry of such files is sound
    pub sound-registry : (r : Registered)
        → AreEach (IsType (world_of files natives) tests shapes values)
        (types_among (located_in (dialects_of files))) r.types
        → (own : List OpDef) → r.ops ≡ module_op ∷ own
        → AreEach (IsOp (world_of files natives) tests shapes values)
        (ops_among (located_in (dialects_of files))) own
        → IsSound (length values) count r
    sound-registry r types own first each = record {
      types = sound-types files natives none tests shapes values count given r.types types;
      ops = subst (AreSoundOps (length values) count) (sym first) (
        sound-module (length values) count,
        each-holds Op (IsSoundOp (length values) count) ds own
            each (λ d o has is. sound-op (world_of files natives) tests shapes values count given d o
            (located-faultless files natives none d (op-among all d has)) is),
      );
      type_names = each-holds (IsType (world_of files natives) tests shapes values)
          (λ t. HasFullName t.name) (types_among all) r.types types
          (λ d t has is. full-named d t.name (type-among all d has) is.name);
      op_names = subst (AllByRecursion (λ (o : OpDef). HasFullName o.name)) (sym first) (
        module-named,
        each-holds Op (λ o. HasFullName o.name) ds own each
            (λ d o has is. full-named d o.name (op-among all d has) is.name),
      );
      types_apart = distinct-types files natives none r.types
          (named-types (world_of files natives) tests shapes values (types_among all) r.types types);
      ops_apart = subst AreApart (sym first) (record { same = same });
    }
      where
        all : List Located
        all = located_in (dialects_of files)

        ds : List Located
        ds = ops_among all

        Op : Located → OpDef → Type 0
        Op = IsOp (world_of files natives) tests shapes values

        later : (i j : ℕ) (a b : OpDef) → i < j → slice_get own i ≡ Some a
            → slice_get own j ≡ Some b → a.name ≡ b.name → ⊥
        later i j a b less at_i at_j name =
            let x = each-at Op ds own each i a at_i in
            let y = each-at Op ds own each j b at_j in
            apart-at SameName ds (ops-apart files natives none) i j x.0 y.0 less x.2 y.2
            (full-name-same x.0.dialect y.0.dialect x.0.def.name y.0.def.name
            (no-dot-of files natives none x.0 (op-among all x.0 x.1))
            (no-dot-of files natives none y.0 (op-among all y.0 y.1))
            (sym x.3.name ∙ name ∙ y.3.name))

        not-first : (i : ℕ) (a : OpDef) → slice_get own i ≡ Some a → module_op.name ≡ a.name → ⊥
        not-first i a at_i name =
            let x = each-at Op ds own each i a at_i in
            not-module x.0 a.name (op-among all x.0 x.1) x.3.name name

        same : (i j : ℕ) (a b : OpDef) → slice_get (module_op ∷ own) i ≡ Some a
            → slice_get (module_op ∷ own) j ≡ Some b → a.name ≡ b.name → i ≡ j
        same zero zero a b at_i at_j name = refl
        same zero (suc j) a b at_i at_j name =
            let is : module_op ≡ a = cc in
            absurd (not-first j b at_j (ap (λ (o : OpDef). o.name) is ∙ name))
        same (suc i) zero a b at_i at_j name =
            let is : module_op ≡ b = cc in
            absurd (not-first i a at_i (ap (λ (o : OpDef). o.name) is ∙ sym name))
        same (suc i) (suc j) a b at_i at_j name = elim (cases_lt i j) [
          | inl less ↦ absurd (later i j a b less at_i at_j name)
          | inr most ↦ elim (cases_lt j i) [
            | inl less ↦ absurd (later j i b a less at_j at_i (sym name))
            | inr least ↦ omega (arith, most, least)
          ]
        ]
