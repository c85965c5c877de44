-- The bodies of resolved definitions are sound, where no rule on their names and limits is broken.
use Rattle.std.proofs.Common.{◌≡◌, ◌∙◌, ℕ, zero, suc, ◌+◌, ◌<◌, ◌≤◌, inl, inr, Bool, true, false, List, [], ◌∷◌, ◌++◌, length, refl, sym, ap, subst, arith, cond, append_assoc, length-append}
use Rattle.std.specs.Prelude.{slice_get, position, bytes_eq, nat_lt}
use Rattle.std.specs.List.{Contains, position_or_len}
use Rattle.std.specs.declared.option.Option.{Option}
use Rattle.std.specs.declared.option.Option.TheVariants.{Some, None}
use Rattle.std.proofs.lemmas.Bool.{ltb-true}
use Rattle.std.proofs.lemmas.Grind.{flat_map-append}
use Rattle.std.proofs.lemmas.List.{append-nil}
use Rattle.attr_value.specs.Values.{Value}
use Rattle.dialect_defs.specs.declared.body.Body.{Body}
use Rattle.dialect_defs.specs.declared.body.Constraint.{Constraint}
use Rattle.dialect_defs.specs.declared.body.TheConstants.{VARIABLE_LIMIT}
use Rattle.dialect_defs.specs.declared.body.VarId.{VarId}
use Rattle.dialect_defs.specs.declared.definition.TypeDef.{TypeDef}
use Rattle.dialect_defs.specs.Assignments.{Tests}
use Rattle.dialect_defs.specs.Bodies.{AreBelow, IsSoundAt, IsSoundBody}
use Rattle.first_fault.specs.declared.fault.Fault.{Fault}
use Rattle.generic_syntax.specs.declared.cst.NameCst.{NameCst}
use Rattle.ir_lexer.specs.Spelling.{Text}
use Rattle.irdl_ops.specs.declared.raw.RawExpr.{RawExpr}
use Rattle.irdl_ops.specs.declared.raw.RawExpr.TheVariants as raw
use Rattle.irdl_ops.specs.declared.raw.RawRef.{RawRef}
use Rattle.irdl_ops.specs.declared.raw.RawStatement.{RawStatement}
use Rattle.irdl_ops.specs.declared.raw.StatementKind.{StatementKind}
use Rattle.irdl_ops.specs.declared.raw.StatementKind.TheVariants as k
use Rattle.dialect_registry.specs.declared.scope.ValueSort.TheVariants as sort
use Rattle.dialect_registry.specs.declared.targets.Target.{Target}
use Rattle.dialect_registry.specs.declared.code.DefCode.TheVariants.{VarLimit}
use Rattle.dialect_registry.specs.Codes.{refusal}
use Rattle.dialect_registry.specs.Limits.{IsExtra, variables as places, variable_of}
use Rattle.dialect_registry.specs.NameFaults.{uses, uses_of, uses_in}
use Rattle.dialect_registry.specs.Resolved.{AreEach, Named, IsConstraint, IsBody, constraint_in, constraints_in, number_of, variable, variables, native_by, base_by, parametric_by}
use Rattle.dialect_registry.specs.Targets.{World, target}
use Rattle.dialect_registry.proofs.Each.{each-length}
use Rattle.dialect_registry.proofs.Members.{in-map, all-mapped}
use Rattle.dialect_registry.proofs.UsedNames.{HasNames, used-before}

-- ---- one constraint

-- a predicate that is found is one of the list
sound-native : (len count v : ℕ) (p : Text → Bool) (names : List Text) → length names ≡ count
    → IsSoundAt len count v (native_by (position p names))
sound-native len count v p names same =
    by (nat_lt (position_or_len p names) (length names)) refl
  where
    by : (b : Bool) → nat_lt (position_or_len p names) (length names) ≡ b
        → IsSoundAt len count v (native_by (cond b (Some (position_or_len p names)) None))
    by true e =
        let less = ltb-true (position_or_len p names) (length names) e in
        omega (arith, less, same)
    by false e = tt

sound-base : (len count v : ℕ) (own : Text) (r : RawRef) (t : Option Target)
    → IsSoundAt len count v (base_by own r t)
sound-base len count v own r None = tt
sound-base len count v own r (Some t) = tt

sound-parametric : (len count v : ℕ) (own : Text) (r : RawRef) (parts : List VarId)
    (t : Option Target) → AreBelow v parts → IsSoundAt len count v (parametric_by own r parts t)
sound-parametric len count v own r parts None below = tt
sound-parametric len count v own r parts (Some t) below = below

-- names that stand before a variable are variables below it
below-names : (cs : List Named) (v : ℕ) (names : List NameCst)
    → ((at : ℕ) (name : Text) → Contains (uses_of names) (uses sort.Constraint at name)
    → number_of cs name < v) → AreBelow v (variables cs names)
below-names cs v names each =
    all-mapped (λ x. x.0 < v) (variable cs) names
    (λ n has. each n.place n.name (in-map (λ m. uses sort.Constraint m.place m.name) names n has))

module _ (w : World) (tests : Tests) (shapes : List TypeDef) (values : List Value) (count : ℕ)
    (given : length w.natives ≡ count) where
  sound-at : (own : Text) (cs : List Named) (v : ℕ) (e : RawExpr) (c : Constraint)
      → ((at : ℕ) (name : Text) → Contains (uses_in e) (uses sort.Constraint at name)
      → number_of cs name < v)
      → IsConstraint w tests shapes values own cs e c → IsSoundAt (length values) count v c
  sound-at own cs v (raw.Is cst) c each (id, has, is) =
      subst (IsSoundAt (length values) count v) (sym is) has.known
  sound-at own cs v raw.Any c each is = subst (IsSoundAt (length values) count v) (sym is) tt
  sound-at own cs v (raw.Pred p) c each is =
      subst (IsSoundAt (length values) count v) (sym is)
      (sound-native (length values) count v (λ own. bytes_eq own p.text) w.natives given)
  sound-at own cs v (raw.BaseName b) c each (inl (base, named, is)) =
      subst (IsSoundAt (length values) count v) (sym is) tt
  sound-at own cs v (raw.BaseName b) c each (inr (none, is)) =
      subst (IsSoundAt (length values) count v) (sym is) tt
  sound-at own cs v (raw.BaseRef r) c each is =
      subst (IsSoundAt (length values) count v) (sym is)
      (sound-base (length values) count v own r (target w own r))
  sound-at own cs v (raw.Parametric r parts) c each is =
      subst (IsSoundAt (length values) count v) (sym is)
      (sound-parametric (length values) count v own r (variables cs parts) (target w own r)
      (below-names cs v parts each))
  sound-at own cs v (raw.AnyOf members) c each is =
      subst (IsSoundAt (length values) count v) (sym is) (below-names cs v members each)
  sound-at own cs v (raw.AllOf members) c each is =
      subst (IsSoundAt (length values) count v) (sym is) (below-names cs v members each)

  -- ---- a body

  module _ (own : Text) {statements : List RawStatement} (names : HasNames statements) where
    -- the variables have the constraints of some statements
    Have : List Named → List Constraint → Type 0
    Have xs vars =
        AreEach (λ x c. IsConstraint w tests shapes values own (constraints_in statements) x.expr c)
        xs vars

    -- each constraint is sound, behind so many variables
    AreSoundFrom : ℕ → List Constraint → Type 0
    AreSoundFrom n vars = (v : ℕ) (c : Constraint) → slice_get vars v ≡ Some c
        → IsSoundAt (length values) count (n + v) c

    -- those of a statement and of those behind it
    sound-step : (sts : List RawStatement) (s : RawStatement) (rest : List RawStatement)
        → statements ≡ sts ++ s ∷ rest
        → ((vars : List Constraint) → Have (constraints_in rest) vars
        → AreSoundFrom (length (constraints_in (sts ++ s ∷ []))) vars)
        → (x : StatementKind) → s.kind ≡ x → (vars : List Constraint)
        → Have (constraint_in x ++ constraints_in rest) vars
        → AreSoundFrom (length (constraints_in sts)) vars
    unfolding Have AreSoundFrom
    sound-step sts s rest is next x kind vars each v c at = by x kind vars each v at
      where
        counted : constraints_in (sts ++ s ∷ []) ≡ constraints_in sts ++ constraint_in s.kind
        counted = flat_map-append (λ x. constraint_in x.kind) sts (s ∷ [])
            ∙ ap (λ l. constraints_in sts ++ l) (append-nil (constraint_in s.kind))

        other : (x : StatementKind) → s.kind ≡ x → constraint_in x ≡ []
            → (vars : List Constraint) → Have (constraints_in rest) vars
            → (v : ℕ) → slice_get vars v ≡ Some c
            → IsSoundAt (length values) count (length (constraints_in sts) + v) c
        other x e none vars each v at =
            let same : length (constraints_in (sts ++ s ∷ [])) ≡ length (constraints_in sts) =
            ap length (counted ∙ ap (λ y. constraints_in sts ++ constraint_in y) e
            ∙ ap (λ l. constraints_in sts ++ l) none ∙ append-nil (constraints_in sts)) in
            subst (λ n. IsSoundAt (length values) count (n + v) c) same (next vars each v c at)

        one : (n : NameCst) (e : RawExpr) → s.kind ≡ k.Constraint n e → (vars : List Constraint)
            → Have (record { name = n.name; expr = e } ∷ constraints_in rest) vars
            → (v : ℕ) → slice_get vars v ≡ Some c
            → IsSoundAt (length values) count (length (constraints_in sts) + v) c
        one n e kind [] each v at = absurd each
        one n e kind (x ∷ vars) each zero at =
            let here : x ≡ c = cc in
            let last : length (constraints_in sts) ≡ length (constraints_in sts) + 0 = omega arith in
            subst (λ y. IsSoundAt (length values) count y c) last
            (sound-at own (constraints_in statements) (length (constraints_in sts)) e c
            (λ a name has. used-before names sts s.place n e rest
            (is ∙ ap (λ y. sts ++ y ∷ rest) (ap (λ y. record { place = s.place; kind = y }) kind))
            a name has)
            (subst (IsConstraint w tests shapes values own (constraints_in statements) e) here
            each.0))
        one n e kind (x ∷ vars) each (suc v) at =
            let longer : length (constraints_in (sts ++ s ∷ []))
            ≡ length (constraints_in sts) + 1 =
            ap length (counted ∙ ap (λ y. constraints_in sts ++ constraint_in y) kind)
            ∙ length-append (constraints_in sts) (record { name = n.name; expr = e } ∷ []) in
            let count_is : length (constraints_in (sts ++ s ∷ [])) + v
            ≡ length (constraints_in sts) + suc v = omega (arith, longer) in
            subst (λ y. IsSoundAt (length values) count y c) count_is (next vars each.1 v c at)

        by : (x : StatementKind) → s.kind ≡ x → (vars : List Constraint)
            → Have (constraint_in x ++ constraints_in rest) vars
            → (v : ℕ) → slice_get vars v ≡ Some c
            → IsSoundAt (length values) count (length (constraints_in sts) + v) c
        by (k.Constraint n e) is = one n e is
        by (k.Region n args size) is = other _ is refl
        by (k.Parameters entries) is = other _ is refl
        by (k.Operands entries) is = other _ is refl
        by (k.Results entries) is = other _ is refl
        by (k.Attributes attrs) is = other _ is refl
        by (k.Regions entries) is = other _ is refl
        by (k.Successors ns) is = other _ is refl
        by k.Terminator is = other _ is refl
        by (k.Format text) is = other _ is refl

    -- each constraint from some statement on
    sound-from : (sts rest : List RawStatement) (vars : List Constraint)
        → statements ≡ sts ++ rest → Have (constraints_in rest) vars
        → AreSoundFrom (length (constraints_in sts)) vars
    unfolding Have AreSoundFrom
    sound-from sts [] [] is each v c at = absurd (cc)
    sound-from sts [] (x ∷ vars) is each v c at = absurd each
    sound-from sts (s ∷ rest) vars is each v c at =
        sound-step sts s rest is
        (λ vars each. sound-from (sts ++ s ∷ []) rest vars
        (is ∙ sym (append_assoc sts (s ∷ []) rest)) each)
        s.kind refl vars each v c at

-- as many places as constraints
places-length : (sts : List RawStatement) → length (places sts) ≡ length (constraints_in sts)
places-length [] = refl
places-length (s ∷ sts) = by s.kind (places-length sts)
  where
    by : (x : StatementKind) → length (places sts) ≡ length (constraints_in sts)
        → length (variable_of x ++ places sts) ≡ length (constraint_in x ++ constraints_in sts)
    by (k.Constraint n e) same = ap suc same
    by (k.Region n args size) same = same
    by (k.Parameters entries) same = same
    by (k.Operands entries) same = same
    by (k.Results entries) same = same
    by (k.Attributes attrs) same = same
    by (k.Regions entries) same = same
    by (k.Successors ns) same = same
    by k.Terminator same = same
    by (k.Format text) same = same

-- where nothing stands past a limit, there are no more than the limit
pub no-more : (limit : ℕ) (xs : List ℕ) → ((f : Fault) → IsExtra limit xs f → ⊥)
    → length xs ≤ limit
no-more limit xs none = by (slice_get xs limit) refl
  where
    short : (n : ℕ) (ys : List ℕ) → slice_get ys n ≡ None → length ys ≤ n
    short n [] e = omega arith
    short zero (y ∷ ys) e = absurd (cc)
    short (suc n) (y ∷ ys) e = let less = short n ys e in omega (arith, less)

    by : (o : Option ℕ) → slice_get xs limit ≡ o → length xs ≤ limit
    by None e = short limit xs e
    by (Some place) e = absurd (none (refusal place VarLimit) (place, e, refl))

-- a body is sound that was resolved where no rule on its names and its variables is broken
pub sound-body : (w : World) (tests : Tests) (shapes : List TypeDef) (values : List Value)
    (count : ℕ) → length w.natives ≡ count → (own : Text) {statements : List RawStatement}
    → HasNames statements → ((f : Fault) → IsExtra VARIABLE_LIMIT (places statements) f → ⊥)
    → (body : Body) → IsBody w tests shapes values own (constraints_in statements) body
    → IsSoundBody (length values) count body
unfolding Have AreSoundFrom
sound-body w tests shapes values count given own {statements} names few body is = record {
  few = let short = no-more VARIABLE_LIMIT (places statements) few in
      let same = each-length _ (constraints_in statements) body.vars is in
      omega (arith, short, places-length statements, same);
  each = λ v c at.
      let first : length (constraints_in []) + v ≡ v = omega arith in
      subst (λ n. IsSoundAt (length values) count n c) first
      (sound-from w tests shapes values count given own names [] statements body.vars refl is v c
      at);
}
