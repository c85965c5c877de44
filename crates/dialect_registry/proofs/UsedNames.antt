-- The names that a body uses, where no rule on its names is broken: each is that of a constraint,
-- and what a constraint uses stands before it.
use Rattle.std.proofs.Common.{◌≡◌, ◌∙◌, ℕ, suc, ◌+◌, ◌<◌, Bool, true, false, not, List, [], ◌∷◌, ◌++◌, length, map, refl, sym, ap, arith, cond, bytes_eq, append_assoc, if◌then◌else◌}
use Rattle.std.specs.List.{flat_map, Contains}
use Rattle.std.specs.Option.{option_or}
use Rattle.std.specs.declared.option.Option.{Option}
use Rattle.std.specs.declared.option.Option.TheVariants.{Some, None}
use Rattle.std.proofs.lemmas.Grind.{flat_map-append}
use Rattle.first_fault.specs.declared.fault.Fault.{Fault}
use Rattle.generic_syntax.specs.declared.cst.NameCst.{NameCst}
use Rattle.ir_lexer.specs.Spelling.{Text}
use Rattle.irdl_ops.specs.declared.raw.RawAttr.{RawAttr}
use Rattle.irdl_ops.specs.declared.raw.RawEntry.{RawEntry}
use Rattle.irdl_ops.specs.declared.raw.RawExpr.{RawExpr}
use Rattle.irdl_ops.specs.declared.raw.RawExpr.TheVariants as raw
use Rattle.irdl_ops.specs.declared.raw.RawStatement.{RawStatement}
use Rattle.irdl_ops.specs.declared.raw.StatementKind.{StatementKind}
use Rattle.irdl_ops.specs.declared.raw.StatementKind.TheVariants as k
use Rattle.dialect_registry.specs.declared.scope.ValueSort.{ValueSort}
use Rattle.dialect_registry.specs.declared.scope.ValueSort.TheVariants as sort
use Rattle.dialect_registry.specs.declared.code.DefCode.TheVariants.{RefUnknown}
use Rattle.dialect_registry.specs.Codes.{refusal}
use Rattle.dialect_registry.specs.NameFaults.{NameMark, defines, uses, labels, stands_for, defined_as, is_usable, IsFaultIn, marks_of_statement, marks_of_kind, marks_of_entry, marks_of_attr, label_of, beginning, word_of, uses_of, uses_in, uses_by, choices_of}
use Rattle.dialect_registry.specs.Resolved.{Named, constraint_in, constraints_in, number_of}
use Rattle.dialect_registry.proofs.Members.{cut-at}

-- ---- what names stand for

option_or-assoc : {A : Type 0} (a b c : Option A)
    → option_or a (option_or b c) ≡ option_or (option_or a b) c
option_or-assoc None b c = refl
option_or-assoc (Some a) b c = refl

stands-append : (xs ys : List NameMark) (name : Text)
    → stands_for (xs ++ ys) name ≡ option_or (stands_for xs name) (stands_for ys name)
stands-append [] ys name = refl
stands-append (m ∷ xs) ys name =
    ap (λ o. option_or (defined_as name m) o) (stands-append xs ys name)
    ∙ option_or-assoc (defined_as name m) (stands_for xs name) (stands_for ys name)

-- what a statement makes of a value name
value_as : Text → StatementKind → Option ValueSort
value_as name (k.Constraint n expr) = if bytes_eq n.name name then Some sort.Constraint else None
value_as name (k.Region n args size) = if bytes_eq n.name name then Some sort.Region else None
value_as name _ = None

-- marks without a definition
none-of-uses : (names : List NameCst) (name : Text) → stands_for (uses_of names) name ≡ None
none-of-uses [] name = refl
none-of-uses (n ∷ names) name = none-of-uses names name

none-of-expr : (e : RawExpr) (name : Text) → stands_for (uses_in e) name ≡ None
none-of-expr (raw.Is cst) name = refl
none-of-expr raw.Any name = refl
none-of-expr (raw.Pred p) name = refl
none-of-expr (raw.BaseRef r) name = refl
none-of-expr (raw.BaseName b) name = refl
none-of-expr (raw.Parametric r parts) name = none-of-uses parts name
none-of-expr (raw.AnyOf members) name = none-of-uses members name
none-of-expr (raw.AllOf members) name = none-of-uses members name

none-of-args : (args : Option (List NameCst)) (name : Text) → stands_for (uses_by args) name ≡ None
none-of-args None name = refl
none-of-args (Some names) name = none-of-uses names name

none-of-label : (o : Option NameCst) (ms : List NameMark) (name : Text)
    → stands_for (label_of o ++ ms) name ≡ stands_for ms name
none-of-label None ms name = refl
none-of-label (Some n) ms name = refl

none-of-entries : (s : ValueSort) (entries : List RawEntry) (name : Text)
    → stands_for (flat_map (marks_of_entry s) entries) name ≡ None
none-of-entries s [] name = refl
none-of-entries s (e ∷ entries) name =
    stands-append (marks_of_entry s e) (flat_map (marks_of_entry s) entries) name
    ∙ ap (λ o. option_or o (stands_for (flat_map (marks_of_entry s) entries) name))
    (none-of-label e.name (uses s e.var.place e.var.name ∷ []) name)
    ∙ none-of-entries s entries name

none-of-attrs : (attrs : List RawAttr) (name : Text)
    → stands_for (flat_map marks_of_attr attrs) name ≡ None
none-of-attrs [] name = refl
none-of-attrs (a ∷ attrs) name = none-of-attrs attrs name

none-of-names : (names : List NameCst) (name : Text)
    → stands_for (map (λ n. labels n.place n.name) names) name ≡ None
none-of-names [] name = refl
none-of-names (n ∷ names) name = none-of-names names name

kind-stands : (s : StatementKind) (name : Text)
    → stands_for (marks_of_kind s) name ≡ value_as name s
unfolding value_as
kind-stands (k.Constraint n e) name =
    let own = defines sort.Constraint n.place n.name (choices_of e) ∷ [] in
    stands-append (uses_in e) own name
    ∙ ap (λ o. option_or o (stands_for own name)) (none-of-expr e name)
    ∙ one (bytes_eq n.name name)
  where
    one : (b : Bool) → option_or (if b then Some sort.Constraint else None) None
        ≡ (if b then Some sort.Constraint else None)
    one true = refl
    one false = refl
kind-stands (k.Region n args size) name =
    let own = defines sort.Region n.place n.name 1 ∷ [] in
    stands-append (uses_by args) own name
    ∙ ap (λ o. option_or o (stands_for own name)) (none-of-args args name)
    ∙ one (bytes_eq n.name name)
  where
    one : (b : Bool) → option_or (if b then Some sort.Region else None) None
        ≡ (if b then Some sort.Region else None)
    one true = refl
    one false = refl
kind-stands (k.Parameters entries) name = none-of-entries sort.Constraint entries name
kind-stands (k.Operands entries) name = none-of-entries sort.Constraint entries name
kind-stands (k.Results entries) name = none-of-entries sort.Constraint entries name
kind-stands (k.Attributes attrs) name = none-of-attrs attrs name
kind-stands (k.Regions entries) name = none-of-entries sort.Region entries name
kind-stands (k.Successors names) name = none-of-names names name
kind-stands k.Terminator name = refl
kind-stands (k.Format text) name = refl

word-stands : (place : ℕ) (word : Option Text) (ms : List NameMark) (name : Text)
    → stands_for (beginning place word ++ ms) name ≡ stands_for ms name
word-stands place None ms name = refl
word-stands place (Some word) ms name = refl

statement-stands : (s : RawStatement) (name : Text)
    → stands_for (marks_of_statement s) name ≡ value_as name s.kind
statement-stands s name =
    word-stands s.place (word_of s.kind) (marks_of_kind s.kind) name ∙ kind-stands s.kind name

-- a name that stands for a constraint by a statement and those behind it is that of one
stands-step : (name : Text) (x : StatementKind) (sts : List RawStatement)
    → (stands_for (flat_map marks_of_statement sts) name ≡ Some sort.Constraint
    → number_of (constraints_in sts) name < length (constraints_in sts))
    → option_or (value_as name x) (stands_for (flat_map marks_of_statement sts) name)
    ≡ Some sort.Constraint
    → number_of (constraint_in x ++ constraints_in sts) name
    < length (constraint_in x ++ constraints_in sts)
unfolding value_as
stands-step name (k.Constraint n expr) sts rest is = by (bytes_eq n.name name) is
  where
    by : (b : Bool) → option_or (if b then Some sort.Constraint else None)
        (stands_for (flat_map marks_of_statement sts) name) ≡ Some sort.Constraint
        → cond (not b) (1 + number_of (constraints_in sts) name) 0
        < suc (length (constraints_in sts))
    by true is = omega arith
    by false is = let less = rest is in omega (arith, less)
stands-step name (k.Region n args size) sts rest is = by (bytes_eq n.name name) is
  where
    by : (b : Bool) → option_or (if b then Some sort.Region else None)
        (stands_for (flat_map marks_of_statement sts) name) ≡ Some sort.Constraint
        → number_of (constraints_in sts) name < length (constraints_in sts)
    by true is = absurd (cc)
    by false is = rest is
stands-step name (k.Parameters entries) sts rest is = rest is
stands-step name (k.Operands entries) sts rest is = rest is
stands-step name (k.Results entries) sts rest is = rest is
stands-step name (k.Attributes attrs) sts rest is = rest is
stands-step name (k.Regions entries) sts rest is = rest is
stands-step name (k.Successors names) sts rest is = rest is
stands-step name k.Terminator sts rest is = rest is
stands-step name (k.Format text) sts rest is = rest is

-- a name that stands for a constraint is that of one
stands-is : (sts : List RawStatement) (name : Text)
    → stands_for (flat_map marks_of_statement sts) name ≡ Some sort.Constraint
    → number_of (constraints_in sts) name < length (constraints_in sts)
stands-is [] name e = absurd (cc)
stands-is (s ∷ sts) name e =
    stands-step name s.kind sts (stands-is sts name)
    (sym (ap (λ o. option_or o (stands_for (flat_map marks_of_statement sts) name))
    (statement-stands s name))
    ∙ sym (stands-append (marks_of_statement s) (flat_map marks_of_statement sts) name) ∙ e)

-- the number of a name that is found at the front
number-step : (b : Bool) (m n len : ℕ) → (m < len → n ≡ m)
    → cond (not b) (1 + m) 0 < suc len
    → cond (not b) (1 + n) 0 ≡ cond (not b) (1 + m) 0
number-step true m n len same less = refl
number-step false m n len same less = ap (λ x. 1 + x) (same (omega (arith, less)))

number-front : (xs ys : List Named) (name : Text) → number_of xs name < length xs
    → number_of (xs ++ ys) name ≡ number_of xs name
number-front [] ys name less = absurd (omega (arith, less))
number-front (x ∷ xs) ys name less =
    number-step (bytes_eq x.name name) (number_of xs name) (number_of (xs ++ ys) name) (length xs)
    (number-front xs ys name) less

-- ---- a body whose names break no rule

usable-constraint : (o : Option ValueSort) → is_usable o sort.Constraint ≡ true
    → o ≡ Some sort.Constraint
usable-constraint None e = absurd (cc)
usable-constraint (Some sort.Constraint) e = refl
usable-constraint (Some sort.Region) e = absurd (cc)

front-none : (xs ys : List NameMark) (name : Text) → stands_for (xs ++ ys) name ≡ None
    → stands_for xs name ≡ None
front-none xs ys name e =
    by (stands_for xs name) (sym (stands-append xs ys name) ∙ e)
  where
    by : (o : Option ValueSort) → option_or o (stands_for ys name) ≡ None → o ≡ None
    by None e = refl
    by (Some x) e = absurd (cc)

none-or : {A : Type 0} (a b : Option A) → b ≡ None → option_or a b ≡ a
none-or None b e = e
none-or (Some a) b e = refl

-- no rule on the names of these statements is broken
pub record HasNames (statements : List RawStatement) : Type 0 where
  pub clean : (f : Fault) → IsFaultIn (flat_map marks_of_statement statements) f → ⊥

module _ {statements : List RawStatement} (names : HasNames statements) where
  -- a use stands behind marks by which its name is that of a constraint
  behind-use : (before : List NameMark) (place : ℕ) (name : Text) (after : List NameMark)
      → flat_map marks_of_statement statements
      ≡ before ++ uses sort.Constraint place name ∷ after
      → stands_for before name ≡ Some sort.Constraint
  behind-use before place name after cut =
      usable-constraint (stands_for before name)
      (by (is_usable (stands_for before name) sort.Constraint) refl)
    where
      by : (b : Bool) → is_usable (stands_for before name) sort.Constraint ≡ b → b ≡ true
      by true e = refl
      by false e = absurd (names.clean (refusal place RefUnknown) (record {
        before = before;
        mark = uses sort.Constraint place name;
        after = after;
        cut = cut;
        is = ap (λ b. if b then None else Some (refusal place RefUnknown)) e;
      }))

  -- a name that is used as that of a constraint is one
  pub used-is : (place : ℕ) (name : Text)
      → Contains (flat_map marks_of_statement statements) (uses sort.Constraint place name)
      → number_of (constraints_in statements) name < length (constraints_in statements)
  used-is place name has =
      let c = cut-at (flat_map marks_of_statement statements) (uses sort.Constraint place name) has in
      let here = behind-use c.before place name c.after c.is in
      stands-is statements name
      (ap (λ ms. stands_for ms name) c.is
      ∙ stands-append c.before (uses sort.Constraint place name ∷ c.after) name
      ∙ ap (λ o. option_or o (stands_for (uses sort.Constraint place name ∷ c.after) name)) here)

  -- what a constraint uses stands before it
  pub used-before : (sts : List RawStatement) (place : ℕ) (n : NameCst) (expr : RawExpr)
      (rest : List RawStatement)
      → statements ≡ sts ++ record { place = place; kind = k.Constraint n expr } ∷ rest
      → (at : ℕ) (name : Text) → Contains (uses_in expr) (uses sort.Constraint at name)
      → number_of (constraints_in statements) name < length (constraints_in sts)
  used-before sts place n expr rest is at name has =
      let c = cut-at (uses_in expr) (uses sort.Constraint at name) has in
      let s : RawStatement = record { place = place; kind = k.Constraint n expr } in
      let tail = defines sort.Constraint n.place n.name _ ∷ flat_map marks_of_statement rest in
      let cut : flat_map marks_of_statement statements
      ≡ (flat_map marks_of_statement sts ++ c.before)
      ++ uses sort.Constraint at name ∷ (c.after ++ tail) =
      ap (flat_map marks_of_statement) is
      ∙ flat_map-append marks_of_statement sts (s ∷ rest)
      ∙ ap (λ l. flat_map marks_of_statement sts ++ l)
      (append_assoc (uses_in expr) _ (flat_map marks_of_statement rest)
      ∙ ap (λ l. l ++ tail) c.is
      ∙ append_assoc c.before (uses sort.Constraint at name ∷ c.after) tail)
      ∙ sym (append_assoc (flat_map marks_of_statement sts) c.before
      (uses sort.Constraint at name ∷ (c.after ++ tail))) in
      let none : stands_for c.before name ≡ None =
      front-none c.before (uses sort.Constraint at name ∷ c.after) name
      (ap (λ ms. stands_for ms name) (sym c.is) ∙ none-of-expr expr name) in
      let here = behind-use (flat_map marks_of_statement sts ++ c.before) at name
      (c.after ++ tail) cut in
      let less = stands-is sts name
      (sym (none-or (stands_for (flat_map marks_of_statement sts) name) _ none)
      ∙ sym (stands-append (flat_map marks_of_statement sts) c.before name) ∙ here) in
      let front : number_of (constraints_in statements) name
      ≡ number_of (constraints_in sts) name =
      ap (λ l. number_of (constraints_in l) name) is
      ∙ ap (λ l. number_of l name) (flat_map-append (λ x. constraint_in x.kind) sts (s ∷ rest))
      ∙ number-front (constraints_in sts) (constraints_in (s ∷ rest)) name less in
      omega (arith, less, front)
