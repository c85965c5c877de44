-- What files that are resolved define, and the refusals of their loading.
use Rattle.std.proofs.Common.{◌≡◌, ℕ, List, [], ◌∷◌, length, refl, sym, subst}
use Rattle.std.specs.Prelude.{IfErr}
use Rattle.std.specs.Result.{IsErr, IsErrAnd}
use Rattle.std.specs.declared.option.Option.{Option}
use Rattle.std.specs.declared.option.Option.TheVariants.{Some, None}
use Rattle.std.specs.declared.result.Result.{Result}
use Rattle.std.specs.declared.result.Result.TheVariants.{Ok, Err}
use Rattle.attr_value.specs.Values.{Value}
use Rattle.constraint_solver.specs.Definitions.{AreSoundDefs}
use Rattle.constraint_solver.specs.Grown.{Extends}
use Rattle.dialect_defs.specs.declared.definition.OpDef.{OpDef}
use Rattle.dialect_defs.specs.declared.definition.TypeDef.{TypeDef}
use Rattle.dialect_defs.specs.declared.format.Format.{Format}
use Rattle.dialect_defs.specs.Assignments.{Tests}
use Rattle.ir_lexer.specs.Spelling.{Text}
use Rattle.irdl_ops.specs.declared.raw.RawDefs.{RawDefs}
use Rattle.dialect_registry.specs.declared.loading.DefStop.{DefStop}
use Rattle.dialect_registry.specs.declared.loading.DefStop.TheVariants.{Refused, OutOfMemory}
use Rattle.dialect_registry.specs.declared.refusal.DefRefusal.{DefRefusal}
use Rattle.dialect_registry.specs.declared.resolve.definition.Resolved.{Resolved}
use Rattle.dialect_registry.specs.ConstantFaults.{shapes_of}
use Rattle.dialect_registry.specs.DefFaults.{IsFault, dialects_of, world_of}
use Rattle.dialect_registry.specs.Loaded.{AreOwnOps, AreTypes, HasNoFault, HaveTypes}
use Rattle.dialect_registry.specs.FormatFaults.{HasFormat, ops_in}
use Rattle.dialect_registry.specs.Formatting.{formatted, formatted_each}
use Rattle.dialect_registry.specs.Refusals.{Refuses}
use Rattle.dialect_registry.specs.Resolved.{AreEach, IsOp, IsType, Located, located_in, types_among}
use Rattle.dialect_registry.specs.Resolving.{Resolves}
use Rattle.dialect_registry.proofs.Each.{each-weaker}
use Rattle.dialect_registry.proofs.LoadingFaults.{resolved-valued}
use Rattle.dialect_registry.proofs.Resolving.{op-grows, type-grows}
use Rattle.dialect_registry.proofs.SoundTypes.{sound-types}

-- what holds of one refusal holds of another
pub refuses-weaker : (P Q : DefRefusal → Type 0) → ((r : DefRefusal) → P r → Q r)
    → (stop : DefStop)
    → Refuses P stop → Refuses Q stop
refuses-weaker P Q weaker (Refused r) p = weaker r p
refuses-weaker P Q weaker OutOfMemory p = tt

-- what a `?` hands on
pub handed-on : {A : Type 0} (r : Result A DefStop) (x : DefStop) (P : DefStop → Type 0)
    → IsErr r × IsErrAnd r (λ e. e ≡ x) → P x → IfErr r P
handed-on (Ok a) x P h p = tt
handed-on (Err e) x P h p = subst P (sym h.1) p

-- the same of a refusal of which less is asked
pub passed-on : {A : Type 0} (r : Result A DefStop) (x : DefStop) (P Q : DefRefusal → Type 0)
    → IsErr r × IsErrAnd r (λ e. e ≡ x) → ((s : DefRefusal) → P s → Q s) → Refuses P x
    → IfErr r (Refuses Q)
passed-on r x P Q h weaker p = handed-on r x (Refuses Q) h (refuses-weaker P Q weaker x p)

-- what isn't something is nothing
pub none-of : {A : Type 0} (o : Option A) → ((x : A) → o ≡ Some x → ⊥) → o ≡ None
none-of None not_some = refl
none-of (Some x) not_some = absurd (not_some x refl)

module _ (files : List RawDefs) (natives : List Text) (tests : Tests) where
  -- the types and attributes of files that were resolved
  pub have-types : (values : List Value) (shapes : List TypeDef) (r : Resolved)
      (types : List TypeDef) → HasNoFault (IsFault files natives) → shapes ≡ shapes_of files
      → Resolves (world_of files natives) tests shapes values (located_in (dialects_of files)) r
      → types ≡ r.types.items → HaveTypes files natives tests values types
  have-types values shapes r types rules same resolves is =
      let all = subst (λ s. Resolves (world_of files natives) tests s values
      (located_in (dialects_of files)) r) same resolves in
      record {
        rules = rules;
        valued = resolved-valued (world_of files natives) tests (shapes_of files) values files r all;
        types_are = subst (AreTypes files natives tests values) (sym is) all.types;
      }

  -- and their operations
  pub have-ops : (values : List Value) (shapes : List TypeDef) (r : Resolved)
      → shapes ≡ shapes_of files
      → Resolves (world_of files natives) tests shapes values (located_in (dialects_of files)) r
      → AreOwnOps files natives tests values r.ops.items
  have-ops values shapes r same resolves =
      let all = subst (λ s. Resolves (world_of files natives) tests s values
      (located_in (dialects_of files)) r) same resolves in
      all.ops

  -- they are so over a longer table
  pub types-longer : {old new : List Value} → Extends old new → (types : List TypeDef)
      → HaveTypes files natives tests old types → HaveTypes files natives tests new types
  types-longer {old} {new} e types have = record {
    rules = have.rules;
    valued = have.valued;
    types_are = each-weaker (IsType (world_of files natives) tests (shapes_of files) old)
        (IsType (world_of files natives) tests (shapes_of files) new)
        (type-grows (world_of files natives) tests (shapes_of files) e)
        (types_among (located_in (dialects_of files))) types have.types_are;
  }

  pub ops-longer : {old new : List Value} → Extends old new → (own : List OpDef)
      → AreOwnOps files natives tests old own → AreOwnOps files natives tests new own
  ops-longer {old} {new} e own have =
      each-weaker (IsOp (world_of files natives) tests (shapes_of files) old)
      (IsOp (world_of files natives) tests (shapes_of files) new)
      (op-grows (world_of files natives) tests (shapes_of files) e)
      (ops_in (dialects_of files)) own have

  -- an operation is what it was with any format
  op-formatted : (values : List Value) (d : Located) (o : OpDef) (f : Option Format)
      → IsOp (world_of files natives) tests (shapes_of files) values d o
      → IsOp (world_of files natives) tests (shapes_of files) values d (formatted o f)
  op-formatted values d o f is = record {
    name = is.name;
    body = is.body;
    operands = is.operands;
    results = is.results;
    attrs = is.attrs;
    regions = is.regions;
    successors = is.successors;
    terminator = is.terminator;
  }

  -- and so are the operations of files
  each-formatted : (values : List Value) (ds : List Located) (own : List OpDef)
      (formats : List (Option Format))
      → AreEach (IsOp (world_of files natives) tests (shapes_of files) values) ds own
      → AreEach HasFormat ds formats
      → AreEach (IsOp (world_of files natives) tests (shapes_of files) values) ds
      (formatted_each own formats)
  each-formatted values [] [] formats each have = tt
  each-formatted values [] (o ∷ own) formats each have = absurd each
  each-formatted values (d ∷ ds) [] formats each have = absurd each
  each-formatted values (d ∷ ds) (o ∷ own) [] each have = absurd have
  each-formatted values (d ∷ ds) (o ∷ own) (f ∷ formats) each have = (
    op-formatted values d o f each.0,
    each-formatted values ds own formats each.1 have.1,
  )

  pub ops-formatted : (values : List Value) (own : List OpDef) (formats : List (Option Format))
      → AreOwnOps files natives tests values own
      → AreEach HasFormat (ops_in (dialects_of files)) formats
      → AreOwnOps files natives tests values (formatted_each own formats)
  ops-formatted values own formats each have =
      each-formatted values (ops_in (dialects_of files)) own formats each have

-- they have these formats
pub have-formats : (R : Located → OpDef → Type 0) (ds : List Located) (own : List OpDef)
    (formats : List (Option Format)) → AreEach R ds own → AreEach HasFormat ds formats
    → AreEach (λ d op. HasFormat d op.format) ds (formatted_each own formats)
have-formats R [] [] formats each have = tt
have-formats R [] (o ∷ own) formats each have = absurd each
have-formats R (d ∷ ds) [] formats each have = absurd each
have-formats R (d ∷ ds) (o ∷ own) [] each have = absurd have
have-formats R (d ∷ ds) (o ∷ own) (f ∷ formats) each have =
    (have.0, have-formats R ds own formats each.1 have.1)

-- definitions that a call hands out are those that the files have, and sound
pub record Handed (files : List RawDefs) (natives : List Text) (tests : Tests)
    (values : List Value) (count : ℕ) (types : List TypeDef) : Type 0 where
  pub have : HaveTypes files natives tests values types
  pub sound : AreSoundDefs (length values) count types

pub handed : {files : List RawDefs} {natives : List Text} {tests : Tests} {values : List Value}
    {types given : List TypeDef} (count : ℕ) → length natives ≡ count → given ≡ types
    → HaveTypes files natives tests values types → Handed files natives tests values count given
handed {files} {natives} {tests} {values} {types} {given} count many same had =
    let have = subst (HaveTypes files natives tests values) (sym same) had in
    record {
      have = have;
      sound = sound-types files natives have.rules tests (shapes_of files) values count many given
          have.types_are;
    }
