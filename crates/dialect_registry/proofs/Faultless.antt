-- What is known of the definitions of files that break no rule on names, references and limits.
use Rattle.std.proofs.Common.{◌≡◌, ℕ, ◌<◌, inl, inr, Bool, true, false, List, ◌++◌, length, take, refl, sym, subst}
use Rattle.std.specs.Prelude.{slice_get}
use Rattle.std.specs.List.{Contains}
use Rattle.std.specs.declared.option.Option.TheVariants.{Some}
use Rattle.dialect_defs.specs.declared.body.TheConstants.{VARIABLE_LIMIT}
use Rattle.first_fault.specs.declared.fault.Fault.{Fault}
use Rattle.ir_lexer.specs.Spelling.{Text}
use Rattle.irdl_ops.specs.declared.raw.RawDef.{RawDef}
use Rattle.irdl_ops.specs.declared.raw.RawDefs.{RawDefs}
use Rattle.irdl_ops.specs.declared.raw.RawDialect.{RawDialect}
use Rattle.irdl_ops.specs.declared.raw.RawStatement.{RawStatement}
use Rattle.dialect_registry.specs.DefFaults.{IsFault, IsDialectFault, IsDefFault, IsStatementFault, dialects_of, world_of}
use Rattle.dialect_registry.specs.Codes.{refusal}
use Rattle.dialect_registry.specs.declared.code.DefCode.TheVariants.{ReservedName}
use Rattle.dialect_registry.specs.Limits.{IsExtra, variables}
use Rattle.dialect_registry.specs.Resolved.{Located, located, located_of, located_in}
use Rattle.dialect_registry.specs.NameShapes.{is_bare_id}
use Rattle.dialect_registry.specs.Targets.{World}
use Rattle.dialect_registry.proofs.Members.{of-flat_map, of-map}
use Rattle.dialect_registry.proofs.UsedNames.{HasNames}
use Rattle.dialect_registry.proofs.Walks.{slice_get-item}

-- a definition of the dialect `own` breaks no rule
pub record IsFaultless (w : World) (own : Text) (def : RawDef) : Type 0 where
  pub shape : is_bare_id def.name ≡ true
  pub names : HasNames def.statements
  pub few : (f : Fault) → IsExtra VARIABLE_LIMIT (variables def.statements) f → ⊥
  pub each : (s : RawStatement) → Contains def.statements s → (f : Fault)
      → IsStatementFault w own s.kind f → ⊥

pub not-false : (b : Bool) → (b ≡ false → ⊥) → b ≡ true
not-false true never = refl
not-false false never = absurd (never refl)

pub not-true : (b : Bool) → (b ≡ true → ⊥) → b ≡ false
not-true true never = absurd (never refl)
not-true false never = refl

pub faultless-def : (w : World) (own : Text) (before : List RawDef) (def : RawDef)
    → ((f : Fault) → IsDefFault w own before def f → ⊥) → IsFaultless w own def
faultless-def w own before def none = record {
  shape = not-false (is_bare_id def.name)
      (λ bad. none (refusal def.place ReservedName) (inl (inr (bad, refl))));
  names = record { clean = λ f p. none f (inr (inl (inl p))) };
  few = λ f p. none f (inr (inr (inl p)));
  each = λ s has f p. none f (inr (inr (inr (s, has, p))));
}

-- a member stands at some place
pub record Stands {A : Type 0} (xs : List A) (x : A) : Type 0 where
  pub place : ℕ
  pub below : place < length xs
  pub is : slice_get xs place ≡ Some x

pub stands-at : {A : Type 0} (xs : List A) (x : A) → Contains xs x → Stands xs x
stands-at xs x (k, less, is) =
    record { place = k; below = less; is = slice_get-item xs k x less (sym is) }

module _ (files : List RawDefs) (natives : List Text)
    (none : (n : ℕ) (f : Fault) → IsFault files natives n f → ⊥) where
  -- a dialect of a file has no fault, behind those before it
  pub clean-dialect : (n : ℕ) (file : RawDefs) (i : ℕ) (dialect : RawDialect)
      → slice_get files n ≡ Some file → i < length file.dialects
      → slice_get file.dialects i ≡ Some dialect → (f : Fault)
      → IsDialectFault (world_of files natives)
      (dialects_of (take n files) ++ take i file.dialects) dialect f → ⊥
  clean-dialect n file i dialect here below at f p =
      none n f (file, here, (i, below, dialect, at, p))

  -- each definition of the files is faultless
  pub located-faultless : (d : Located) → Contains (located_in (dialects_of files)) d
      → IsFaultless (world_of files natives) d.dialect d.def
  located-faultless d has =
      let found = of-flat_map located_of (dialects_of files) d has in
      let dialect = found.0 in
      let def = of-map (located dialect.name) dialect.defs d found.2 in
      let file = of-flat_map (λ x. x.dialects) files dialect found.1 in
      let n = stands-at files file.0 file.1 in
      let i = stands-at file.0.dialects dialect file.2 in
      let j = stands-at dialect.defs def.0 def.1 in
      subst (λ (x : Located). IsFaultless (world_of files natives) x.dialect x.def) def.2
      (faultless-def (world_of files natives) dialect.name (take j.place dialect.defs) def.0
      (λ f p. clean-dialect n.place file.0 i.place dialect n.is i.below i.is f
      (inr (j.place, j.below, def.0, j.is, p))))
