-- What a body lists first of each kind is used by the statement that lists it.
use Rattle.std.proofs.Common.{◌≡◌, ◌≤◌, ◌⊎◌, inl, inr, List, [], ◌∷◌, length, map, refl, sym, ap, subst, arith}
use Rattle.std.specs.Option.{unwrap_or}
use Rattle.std.specs.List.{flat_map, Contains}
use Rattle.std.specs.declared.option.Option.{Option}
use Rattle.std.specs.declared.option.Option.TheVariants.{Some, None}
use Rattle.std.proofs.lemmas.List.{length-map}
use Rattle.std.proofs.lemmas.List.Elements.{Contains-append_right}
use Rattle.dialect_defs.specs.declared.entry.TheConstants.{ENTRY_LIMIT}
use Rattle.first_fault.specs.declared.fault.Fault.{Fault}
use Rattle.generic_syntax.specs.declared.cst.NameCst.{NameCst}
use Rattle.ir_lexer.specs.Spelling.{Text}
use Rattle.irdl_ops.specs.declared.raw.RawAttr.{RawAttr}
use Rattle.irdl_ops.specs.declared.raw.RawEntry.{RawEntry}
use Rattle.irdl_ops.specs.declared.raw.RawStatement.{RawStatement}
use Rattle.irdl_ops.specs.declared.raw.StatementKind.{StatementKind}
use Rattle.irdl_ops.specs.declared.raw.StatementKind.TheVariants as k
use Rattle.dialect_registry.specs.declared.scope.ValueSort.TheVariants as sort
use Rattle.dialect_registry.specs.DefFaults.{IsStatementFault}
use Rattle.dialect_registry.specs.NameFaults.{NameMark, uses, marks_of_attr, marks_of_entry, marks_of_kind, marks_of_statement, beginning, word_of, label_of}
use Rattle.dialect_registry.specs.Resolved.{attrs_by, attrs_in, operands_by, operands_in, results_by, results_in}
use Rattle.dialect_registry.specs.Targets.{World, listed, parameters_by, parameters_in}
use Rattle.dialect_registry.proofs.Members.{contains-head, contains-tail, in-flat_map}
use Rattle.dialect_registry.proofs.SoundBodies.{no-more}

-- ---- the statement that lists something first

record Lists {A : Type 0} (by : StatementKind → Option (List A)) (sts : List RawStatement)
    (xs : List A) : Type 0 where
  pub statement : RawStatement
  pub has : Contains sts statement
  pub lists : by statement.kind ≡ Some xs

-- nothing is listed, or there is one
listed-from : {A : Type 0} (by : StatementKind → Option (List A)) (sts : List RawStatement)
    → (listed by sts ≡ []) ⊎ Lists by sts (listed by sts)
listed-from by [] = inl refl
listed-from {A} by (s ∷ sts) = go (by s.kind) refl (listed-from by sts)
  where
    go : (o : Option (List A)) → by s.kind ≡ o
        → (listed by sts ≡ []) ⊎ Lists by sts (listed by sts)
        → (unwrap_or o (listed by sts) ≡ []) ⊎ Lists by (s ∷ sts) (unwrap_or o (listed by sts))
    go (Some xs) is rest = inr (record { statement = s; has = contains-head s sts; lists = is })
    go None is (inl none) = inl none
    go None is (inr l) = inr (record {
      statement = l.statement;
      has = contains-tail s l.statement sts l.has;
      lists = l.lists;
    })

-- what holds of the items of each list of a kind holds of those that are listed first
of-listed : {A : Type 0} (by : StatementKind → Option (List A)) (sts : List RawStatement)
    (P : A → Type 0)
    → ((s : RawStatement) (xs : List A) → Contains sts s → by s.kind ≡ Some xs
    → (x : A) → Contains xs x → P x)
    → (x : A) → Contains (listed by sts) x → P x
of-listed {A} by sts P each x has = go (listed-from by sts)
  where
    none-there : Contains [] x → P x
    none-there (k, less, is) = absurd (omega (arith, less))

    go : (listed by sts ≡ []) ⊎ Lists by sts (listed by sts) → P x
    go (inl none) = none-there (subst (λ l. Contains l x) none has)
    go (inr l) = each l.statement (listed by sts) l.has l.lists x has

-- ---- what the items use

-- the use of a variable, by its name
abbrev pub use_of : NameCst → NameMark
use_of n = uses sort.Constraint n.place n.name

-- a mark of a statement's kind is one of the statement, and so of the body
pub of-kind : (sts : List RawStatement) (s : RawStatement) (m : NameMark) → Contains sts s
    → Contains (marks_of_kind s.kind) m → Contains (flat_map marks_of_statement sts) m
of-kind sts s m has in_kind =
    in-flat_map marks_of_statement sts s m has
    (Contains-append_right (beginning s.place (word_of s.kind)) (marks_of_kind s.kind) m in_kind)

entry-uses : (e : RawEntry) → Contains (marks_of_entry sort.Constraint e) (use_of e.var)
entry-uses e =
    Contains-append_right (label_of e.name) (use_of e.var ∷ []) (use_of e.var)
    (contains-head (use_of e.var) [])

entries-use : (entries : List RawEntry) (e : RawEntry) → Contains entries e
    → Contains (flat_map (marks_of_entry sort.Constraint) entries) (use_of e.var)
entries-use entries e has =
    in-flat_map (marks_of_entry sort.Constraint) entries e (use_of e.var) has (entry-uses e)

attrs-use : (attrs : List RawAttr) (a : RawAttr) → Contains attrs a
    → Contains (flat_map marks_of_attr attrs) (use_of a.var)
attrs-use attrs a has =
    in-flat_map marks_of_attr attrs a (use_of a.var) has
    (contains-tail _ (use_of a.var) (use_of a.var ∷ []) (contains-head (use_of a.var) []))

-- the statement of each kind that lists something
params-are : (x : StatementKind) (xs : List RawEntry) → parameters_by x ≡ Some xs
    → x ≡ k.Parameters xs
params-are (k.Parameters ys) xs e = ap k.Parameters (cc)
params-are _ xs e = absurd (cc)

operands-are : (x : StatementKind) (xs : List RawEntry) → operands_by x ≡ Some xs
    → x ≡ k.Operands xs
operands-are (k.Operands ys) xs e = ap k.Operands (cc)
operands-are _ xs e = absurd (cc)

results-are : (x : StatementKind) (xs : List RawEntry) → results_by x ≡ Some xs
    → x ≡ k.Results xs
results-are (k.Results ys) xs e = ap k.Results (cc)
results-are _ xs e = absurd (cc)

attrs-are : (x : StatementKind) (xs : List RawAttr) → attrs_by x ≡ Some xs
    → x ≡ k.Attributes xs
attrs-are (k.Attributes ys) xs e = ap k.Attributes (cc)
attrs-are _ xs e = absurd (cc)

-- the variable of each item that is listed by statements of a kind is used in the body
listed-used : {A : Type 0} (by : StatementKind → Option (List A)) (kind : List A → StatementKind)
    (var : A → NameCst) → ((x : StatementKind) (xs : List A) → by x ≡ Some xs → x ≡ kind xs)
    → ((xs : List A) (a : A) → Contains xs a → Contains (marks_of_kind (kind xs)) (use_of (var a)))
    → (sts : List RawStatement) (a : A) → Contains (listed by sts) a
    → Contains (flat_map marks_of_statement sts) (use_of (var a))
listed-used by kind var are uses-own sts =
    of-listed by sts (λ a. Contains (flat_map marks_of_statement sts) (use_of (var a)))
    (λ s xs has lists a in_xs. of-kind sts s (use_of (var a)) has
    (subst (λ x. Contains (marks_of_kind x) (use_of (var a))) (sym (are s.kind xs lists))
    (uses-own xs a in_xs)))

pub param-used : (sts : List RawStatement) (e : RawEntry) → Contains (parameters_in sts) e
    → Contains (flat_map marks_of_statement sts) (use_of e.var)
param-used =
    listed-used parameters_by (λ xs. k.Parameters xs) (λ e. e.var) params-are entries-use

pub operand-used : (sts : List RawStatement) (e : RawEntry) → Contains (operands_in sts) e
    → Contains (flat_map marks_of_statement sts) (use_of e.var)
operand-used = listed-used operands_by (λ xs. k.Operands xs) (λ e. e.var) operands-are entries-use

pub result-used : (sts : List RawStatement) (e : RawEntry) → Contains (results_in sts) e
    → Contains (flat_map marks_of_statement sts) (use_of e.var)
result-used = listed-used results_by (λ xs. k.Results xs) (λ e. e.var) results-are entries-use

pub attr-used : (sts : List RawStatement) (a : RawAttr) → Contains (attrs_in sts) a
    → Contains (flat_map marks_of_statement sts) (use_of a.var)
attr-used = listed-used attrs_by (λ xs. k.Attributes xs) (λ a. a.var) attrs-are attrs-use

-- ---- how many are listed

-- no list of a kind that keeps to the limit is longer than it
module _ (w : World) (own : Text) (sts : List RawStatement)
    (none : (s : RawStatement) → Contains sts s → (f : Fault) → IsStatementFault w own s.kind f → ⊥)
  where
    few : (xs : List RawEntry) (s : RawStatement) → Contains sts s
        → (s.kind ≡ k.Operands xs) ⊎ (s.kind ≡ k.Results xs) → length xs ≤ ENTRY_LIMIT
    few xs s has kind =
        let most = no-more ENTRY_LIMIT (map (λ e. e.place) xs) (λ f p. clean kind f p) in
        let same = length-map xs (λ (e : RawEntry). e.place) in
        omega (arith, most, same)
      where
        clean : (s.kind ≡ k.Operands xs) ⊎ (s.kind ≡ k.Results xs) → (f : Fault)
            → IsStatementFault w own (k.Operands xs) f → ⊥
        clean (inl is) f p =
            none s has f (subst (λ x. IsStatementFault w own x f) (sym is) p)
        clean (inr is) f p =
            none s has f (subst (λ x. IsStatementFault w own x f) (sym is) p)

    pub few-operands : length (operands_in sts) ≤ ENTRY_LIMIT
    few-operands = elim (listed-from operands_by sts) [
      | inl empty ↦ subst (λ (l : List RawEntry). length l ≤ ENTRY_LIMIT) (sym empty) (omega arith)
      | inr l ↦ few (operands_in sts) l.statement l.has
          (inl (operands-are l.statement.kind (operands_in sts) l.lists))
    ]

    pub few-results : length (results_in sts) ≤ ENTRY_LIMIT
    few-results = elim (listed-from results_by sts) [
      | inl empty ↦ subst (λ (l : List RawEntry). length l ≤ ENTRY_LIMIT) (sym empty) (omega arith)
      | inr l ↦ few (results_in sts) l.statement l.has
          (inr (results-are l.statement.kind (results_in sts) l.lists))
    ]
