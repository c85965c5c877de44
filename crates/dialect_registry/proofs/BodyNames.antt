-- What the names of a body stand for, statement by statement.
use Rattle.std.proofs.Common.{◌≡◌, ◌∙◌, ℕ, Bool, true, false, List, [], ◌∷◌, ◌++◌, map, refl, sym, ap, if◌then◌else◌}
use Rattle.std.proofs.Common.{append-nil}
use Rattle.std.specs.Prelude.{option_map}
use Rattle.std.specs.Option.{option_or}
use Rattle.std.specs.List.{flat_map}
use Rattle.std.specs.declared.option.Option.{Option}
use Rattle.std.specs.declared.option.Option.TheVariants.{Some, None}
use Rattle.std.proofs.lemmas.Grind.{flat_map-append}
use Rattle.std.proofs.lemmas.List.{map-append}
use Rattle.generic_syntax.specs.declared.cst.NameCst.{NameCst}
use Rattle.ir_lexer.specs.Spelling.{Text}
use Rattle.irdl_ops.specs.declared.raw.RawStatement.{RawStatement}
use Rattle.irdl_ops.specs.declared.raw.RawEntry.{RawEntry}
use Rattle.irdl_ops.specs.declared.raw.RawExpr.{RawExpr}
use Rattle.irdl_ops.specs.declared.raw.StatementKind.{StatementKind}
use Rattle.irdl_ops.specs.declared.raw.StatementKind.TheVariants as says
use Rattle.dialect_registry.specs.declared.resolve.names.BodyNames.{BodyNames}
use Rattle.dialect_registry.specs.declared.resolve.names.NamedExpr.{NamedExpr}
use Rattle.dialect_registry.specs.declared.resolve.names.Region.{Region}
use Rattle.dialect_registry.specs.Resolved.{constraint_in, constraints_in, label, region_as, region_by, region_named, region_of}
use Rattle.dialect_registry.specs.Resolving.{constraints_of, named_seen, one_seen, region_at, region_seen, Names}
use Rattle.dialect_registry.specs.Scopes.{value_at}
use Rattle.dialect_registry.proofs.Maps.{option_or-none}

option_or-assoc : {A : Type 0} (a b c : Option A)
    → option_or a (option_or b c) ≡ option_or (option_or a b) c
option_or-assoc None b c = refl
option_or-assoc (Some a) b c = refl

-- the region of a name, by one statement more
region-more : (before : List RawStatement) (s : RawStatement) (name : Text)
    → region_named (before ++ s ∷ []) name
    ≡ option_or (region_named before name) (region_as name s.kind)
region-more [] s name = option_or-none (region_as name s.kind)
region-more (x ∷ before) s name =
    ap (λ o. option_or (region_as name x.kind) o) (region-more before s name)
    ∙ option_or-assoc (region_as name x.kind) (region_named before name) (region_as name s.kind)

-- one statement more
pub names-add : {before : List RawStatement} {old : BodyNames} (s : RawStatement) (new : BodyNames)
    → constraints_of new ≡ constraints_of old ++ constraint_in s.kind
    → ((name : Text) → region_at new name ≡ option_or (region_at old name) (region_as name s.kind))
    → Names before old → Names (before ++ s ∷ []) new
names-add {before} {old} s new more regions names = record {
  constraints = more ∙ ap (λ l. l ++ constraint_in s.kind) names.constraints
      ∙ ap (λ l. flat_map (λ x. constraint_in x.kind) before ++ l) (sym (append-nil (constraint_in s.kind)))
      ∙ sym (flat_map-append (λ x. constraint_in x.kind) before (s ∷ []));
  regions = λ name.
      regions name ∙ ap (λ o. option_or o (region_as name s.kind)) (names.regions name)
      ∙ sym (region-more before s name);
}

-- one constraint more
pub constraints-more : (cs : List NamedExpr) (c : NamedExpr)
    → named_seen (cs ++ c ∷ []) ≡ named_seen cs ++ one_seen c ∷ []
constraints-more cs c = map-append one_seen cs (c ∷ [])

-- a statement that defines no region leaves what is known of regions
pub region-kept : (old new : BodyNames) (kind : StatementKind) (name : Text)
    → new.regions ≡ old.regions → region_as name kind ≡ None
    → region_at new name ≡ option_or (region_at old name) (region_as name kind)
region-kept old new kind name same none =
    ap (λ m. option_map region_seen (value_at m name)) same
    ∙ sym (option_or-none (region_at old name))
    ∙ ap (λ o. option_or (region_at old name) o) (sym none)

-- the region of a name, where one more is known
pub region-added : (o : Option Region) (b : Bool) (r : Region)
    → option_map region_seen (option_or o (if b then Some r else None))
    ≡ option_or (option_map region_seen o) (if b then Some (region_seen r) else None)
region-added None true r = refl
region-added None false r = refl
region-added (Some x) b r = refl

-- a statement that defines neither a constraint nor a region
pub defines-nothing : (k : StatementKind)
    → ((n : NameCst) (e : RawExpr) → k ≡ says.Constraint n e → ⊥)
    → ((n : NameCst) (args : Option (List NameCst)) (size : Option ℕ)
    → k ≡ says.Region n args size → ⊥)
    → (constraint_in k ≡ []) × ((name : Text) → region_as name k ≡ None)
defines-nothing (says.Constraint n e) con reg = absurd (con n e refl)
defines-nothing (says.Region n args size) con reg = absurd (reg n args size refl)
defines-nothing (says.Parameters entries) con reg = (refl, λ name. refl)
defines-nothing (says.Operands entries) con reg = (refl, λ name. refl)
defines-nothing (says.Results entries) con reg = (refl, λ name. refl)
defines-nothing (says.Attributes attrs) con reg = (refl, λ name. refl)
defines-nothing (says.Regions entries) con reg = (refl, λ name. refl)
defines-nothing (says.Successors names) con reg = (refl, λ name. refl)
defines-nothing says.Terminator con reg = (refl, λ name. refl)
defines-nothing (says.Format text) con reg = (refl, λ name. refl)

-- entries of regions, by what the names of the body stand for
pub regions-same : (statements : List RawStatement) (n : BodyNames) → Names statements n
    → (entries : List RawEntry)
    → map (λ e. region_by (constraints_of n) (label e.name) (region_at n e.var.name)) entries
    ≡ map (region_of statements) entries
regions-same statements n names [] = refl
regions-same statements n names (e ∷ entries) =
    ap (λ r. r ∷ map (λ e. region_by (constraints_of n) (label e.name) (region_at n e.var.name))
    entries)
    (ap (λ cs. region_by cs (label e.name) (region_at n e.var.name)) names.constraints
    ∙ ap (region_by (constraints_in statements) (label e.name)) (names.regions e.var.name))
    ∙ ap (λ l. region_of statements e ∷ l) (regions-same statements n names entries)
