-- Two loadings of the same files are alike, and operations that are loaded have distinct names.
use Rattle.std.proofs.Common.{◌≡◌, ◌∙◌, ℕ, zero, suc, Bool, List, ◌∷◌, length, refl, sym, ap, subst}
use Rattle.std.proofs.lemmas.Option.{slice_get-get_or}
use Rattle.std.specs.Prelude.{slice_get, Contains}
use Rattle.std.specs.declared.option.Option.TheVariants.{Some}
use Rattle.attr_value.specs.declared.base.BaseKind.TheVariants.{StrAttr}
use Rattle.attr_value.specs.Values.{Value}
use Rattle.dialect_defs.specs.declared.body.BaseRef.TheVariants.{Builtin}
use Rattle.dialect_defs.specs.declared.body.Constraint.{Constraint}
use Rattle.dialect_defs.specs.declared.body.Constraint.TheVariants as con
use Rattle.dialect_defs.specs.declared.definition.OpDef.{OpDef}
use Rattle.dialect_defs.specs.declared.definition.TypeDef.{TypeDef}
use Rattle.dialect_defs.specs.Assignments.{Tests, Assignment, Keeps, MeetsBody}
use Rattle.dialect_registry.specs.ConstantFaults.{shapes_of}
use Rattle.dialect_registry.specs.DefFaults.{dialects_of, world_of}
use Rattle.dialect_registry.specs.Loaded.{AreLoaded, module_op}
use Rattle.dialect_registry.specs.Registered.{IsSound, Registered}
use Rattle.dialect_registry.specs.Resolved.{AreEach, IsOp, IsType, Located, constraints_in}
use Rattle.dialect_registry.specs.Resolved.{located_in, ops_among, types_among}
use Rattle.dialect_registry.proofs.SameLoading.{each-member, meets-moved, instance-moved}
use Rattle.dialect_registry.proofs.SameLoading.{good-moved}
use Rattle.dialect_registry.proofs.SoundOps.{sound-registry}
use Rattle.ir_lexer.specs.Spelling.{Text}
use Rattle.irdl_ops.specs.declared.raw.RawDefs.{RawDefs}
use Rattle.loading_laws.specs.Alike.{AreAlike, IsLoaded, IsOpAlike}
use Rattle.loading_laws.proofs.Pairs.{each-joined}
use Rattle.module_meaning.specs.Completes.{HaveDistinctOps}
use Rattle.module_meaning.specs.WholeModules.{Loaded}
use Rattle.value_meaning.specs.Faults.{IsNamed}

-- what is defined over a table
abbrev over : List Value → Tests → List TypeDef → List OpDef → Loaded
over values tests types ops =
    record { values = values; tests = tests; types = types; ops = ops }

-- the operation that is always there has no constant
keeps-module : (tests : Tests) (old new : List Value) (a : Assignment) (i : ℕ) (c : Constraint)
    (x : Value) → slice_get module_op.body.vars i ≡ Some c → Keeps old tests a c x
    → Keeps new tests a c x
keeps-module tests old new a zero c x at kept =
    let same : con.Base (Builtin StrAttr) ≡ c = cc in
    subst (λ k. Keeps new tests a k x) same (subst (λ k. Keeps old tests a k x) (sym same) kept)
keeps-module tests old new a (suc i) c x at kept = absurd (cc)

meets-module : (tests : Tests) (old new : List Value) (a : Assignment)
    → MeetsBody old tests module_op.body a → MeetsBody new tests module_op.body a
meets-module tests old new a met = record {
  size = met.size;
  each = λ v c x at has. keeps-module tests old new a v.0 c x at (met.each v c x at has);
}

module-op-alike : (tests : Tests) (old new : List Value) (types kinds : List TypeDef)
    (ops others : List OpDef)
    → IsOpAlike (over old tests types ops) (over new tests kinds others) module_op module_op
module-op-alike tests old new types kinds ops others = record {
  name = refl;
  body = λ a. (meets-module tests old new a, meets-module tests new old a);
  operands = refl;
  results = refl;
  attrs = refl;
  regions = refl;
  successors = refl;
  terminator = refl;
}

module _ (files : List RawDefs) (natives : List Text) (tests : Tests) where
  -- a name that is defined by one loading is so by the other
  named-moved : (old new : List Value) (types kinds : List TypeDef) (ops others : List OpDef)
      → AreLoaded files natives tests old types ops
      → AreLoaded files natives tests new kinds others → (is_type : Bool) (name : Text)
      → IsNamed types is_type name → IsNamed kinds is_type name
  named-moved old new types kinds ops others first then is_type name named =
      let found = each-member (IsType (world_of files natives) tests (shapes_of files) old)
      (IsType (world_of files natives) tests (shapes_of files) new)
      (types_among (located_in (dialects_of files))) types kinds first.have.types_are
      then.have.types_are named.definition named.defined.listed in
      let before = found.3 in
      let after = found.4 in
      record {
        definition = found.1;
        defined = record {
          listed = found.2;
          kind = after.kind ∙ sym before.kind ∙ named.defined.kind;
          named = after.name ∙ sym before.name ∙ named.defined.named;
        };
      }

  module _ (old new : List Value) (types kinds : List TypeDef) (ops others : List OpDef) where
    -- two definitions to which one is resolved
    op-alike : (d : Located) (o p : OpDef)
        → IsOp (world_of files natives) tests (shapes_of files) old d o
        → IsOp (world_of files natives) tests (shapes_of files) new d p
        → IsOpAlike (over old tests types ops) (over new tests kinds others) o p
    op-alike d o p first then = record {
      name = first.name ∙ sym then.name;
      body = λ a. (
        meets-moved (world_of files natives) tests (shapes_of files) old new d.dialect
            (constraints_in d.def.statements) o.body p.body first.body then.body a,
        meets-moved (world_of files natives) tests (shapes_of files) new old d.dialect
            (constraints_in d.def.statements) p.body o.body then.body first.body a,
      );
      operands = first.operands ∙ sym then.operands;
      results = first.results ∙ sym then.results;
      attrs = first.attrs ∙ sym then.attrs;
      regions = first.regions ∙ sym then.regions;
      successors = first.successors ∙ sym then.successors;
      terminator = first.terminator ∙ sym then.terminator;
    }

    -- the operations of two loadings, one by one
    ops-alike : AreLoaded files natives tests old types ops
        → AreLoaded files natives tests new kinds others
        → AreEach (IsOpAlike (over old tests types ops) (over new tests kinds others)) ops others
    ops-alike first then =
        let R = IsOpAlike (over old tests types ops) (over new tests kinds others) in
        let own : AreEach R first.ops_are.own then.ops_are.own =
        each-joined (IsOp (world_of files natives) tests (shapes_of files) old)
        (IsOp (world_of files natives) tests (shapes_of files) new) R op-alike
        (ops_among (located_in (dialects_of files))) first.ops_are.own then.ops_are.own
        first.ops_are.each then.ops_are.each in
        let all : AreEach R (module_op ∷ first.ops_are.own) (module_op ∷ then.ops_are.own) =
        (module-op-alike tests old new types kinds ops others, own) in
        subst (λ xs. AreEach R xs others) (sym first.ops_are.first)
        (subst (λ ys. AreEach R (module_op ∷ first.ops_are.own) ys) (sym then.ops_are.first) all)

  -- two loadings with the same predicates
  tables-alike : (old new : List Value) (types kinds : List TypeDef) (ops others : List OpDef)
      → AreLoaded files natives tests old types ops
      → AreLoaded files natives tests new kinds others
      → AreAlike (over old tests types ops) (over new tests kinds others)
  tables-alike old new types kinds ops others first then =
      let w = world_of files natives in
      let shapes = shapes_of files in
      let ds = types_among (located_in (dialects_of files)) in
      let before = first.have.types_are in
      let after = then.have.types_are in
      record {
        good = λ v. (
          good-moved w tests shapes old new ds types kinds before after v,
          good-moved w tests shapes new old ds kinds types after before v,
        );
        named = λ is_type name. (
          named-moved old new types kinds ops others first then is_type name,
          named-moved new old kinds types others ops then first is_type name,
        );
        instances = λ is_type name kids. (
          instance-moved w tests shapes old new ds types kinds before after is_type name kids,
          instance-moved w tests shapes new old ds kinds types after before is_type name kids,
        );
        ops = ops-alike old new types kinds ops others first then;
      }

-- files that are loaded twice define the same
pub loaded-alike : (files : List RawDefs) (natives : List Text) (tests : Tests)
    (one two : Loaded) → IsLoaded files natives tests one → IsLoaded files natives tests two
    → AreAlike one two
loaded-alike files natives tests one two first then =
    let tables = tables-alike files natives tests one.values two.values one.types two.types one.ops
    two.ops first.are_loaded then.are_loaded in
    let with_first = subst (λ t. AreAlike (over one.values t one.types one.ops)
    (over two.values tests two.types two.ops)) (sym first.tests_are) tables in
    subst (λ t. AreAlike one (over two.values t two.types two.ops)) (sym then.tests_are) with_first

-- ---- names of operations

-- where a member stands
place-of : {A : Type 0} (xs : List A) (x : A) (has : Contains xs x) → slice_get xs has.0 ≡ Some x
place-of xs x (k, less, is) = slice_get-get_or xs k x less ∙ ap Some is

-- operations that are loaded have distinct names
pub loaded-distinct : (files : List RawDefs) (natives : List Text) (tests : Tests)
    (loaded : Loaded) → IsLoaded files natives tests loaded → HaveDistinctOps loaded.ops
loaded-distinct files natives tests loaded is_loaded = record { same = same }
  where
    are : AreLoaded files natives tests loaded.values loaded.types loaded.ops
    are = is_loaded.are_loaded

    registered : Registered
    registered = record { ops = loaded.ops; types = loaded.types }

    sound : IsSound (length loaded.values) (length natives) registered
    sound =
        sound-registry files natives are.have.rules tests (shapes_of files) loaded.values
        (length natives) refl registered are.have.types_are are.ops_are.own are.ops_are.first
        are.ops_are.each

    same : (d e : OpDef) → Contains loaded.ops d → Contains loaded.ops e → d.name ≡ e.name → d ≡ e
    same d e x y named =
        let place : x.0 ≡ y.0 = sound.ops_apart.same x.0 y.0 d e (place-of loaded.ops d x)
        (place-of loaded.ops e y) named in
        let both : Some d ≡ Some e = sym (place-of loaded.ops d x)
        ∙ ap (slice_get loaded.ops) place ∙ place-of loaded.ops e y in
        cc
