-- Two loadings of the same definitions say the same of values, whatever the tables are that hold
-- the constants.
use Rattle.std.proofs.Common.{◌≡◌, ◌∙◌, ℕ, zero, suc, inl, inr, Bool, List, [], ◌∷◌, length, refl, sym, ap, subst, arith}
use Rattle.std.specs.Prelude.{slice_get}
use Rattle.std.specs.List.{Contains}
use Rattle.std.specs.declared.option.Option.{Option}
use Rattle.std.specs.declared.option.Option.TheVariants.{Some, None}
use Rattle.attr_value.specs.declared.base.BaseKind.{BaseKind}
use Rattle.attr_value.specs.declared.head.Head.{Head}
use Rattle.attr_value.specs.declared.head.Head.TheVariants as h
use Rattle.attr_value.specs.Bases.{base_name}
use Rattle.attr_value.specs.Ids.{at}
use Rattle.attr_value.specs.Values.{Value, Values, none, more, list_of}
use Rattle.attr_value.proofs.Named.{only-named}
use Rattle.dialect_defs.specs.declared.body.BaseRef.TheVariants.{Builtin}
use Rattle.dialect_defs.specs.declared.body.Body.{Body}
use Rattle.dialect_defs.specs.declared.body.Constraint.{Constraint}
use Rattle.dialect_defs.specs.declared.body.Constraint.TheVariants as con
use Rattle.dialect_defs.specs.declared.body.VarId.{VarId}
use Rattle.dialect_defs.specs.declared.definition.TypeDef.{TypeDef}
use Rattle.dialect_defs.specs.Assignments.{Tests, Assignment, HaveEach, Keeps, MeetsBody}
use Rattle.dialect_defs.specs.Goodness.{IsInstance, IsDefined, AreGoodNodes, Good, vars_of}
use Rattle.generic_syntax.specs.declared.cst.ValueCst.{ValueCst}
use Rattle.ir_lexer.specs.Spelling.{Text}
use Rattle.irdl_ops.specs.declared.raw.RawExpr.{RawExpr}
use Rattle.irdl_ops.specs.declared.raw.RawExpr.TheVariants as raw
use Rattle.irdl_ops.specs.declared.raw.RawRef.{RawRef}
use Rattle.value_meaning.specs.Faults.{Means}
use Rattle.dialect_registry.specs.declared.targets.Target.{Target}
use Rattle.dialect_registry.specs.Resolved.{AreEach, Named, IsConstraint, IsBody, IsType, Located, base_by, native_by, no_aliases, parametric_by}
use Rattle.dialect_registry.specs.Targets.{World, target}
use Rattle.dialect_registry.proofs.Members.{contains-cases, contains-head, contains-tail}

-- ---- lists that are related to one list

each-pair : {A B C : Type 0} (R : A → B → Type 0) (S : A → C → Type 0) (xs : List A)
    (ys : List B) (zs : List C) → AreEach R xs ys → AreEach S xs zs → (v : ℕ) (z : C)
    → slice_get zs v ≡ Some z
    → (x : A) × (y : B) × (slice_get ys v ≡ Some y) × R x y × S x z
each-pair R S [] ys [] first then v z at = absurd (cc)
each-pair R S [] ys (w ∷ zs) first then v z at = absurd then
each-pair R S (x ∷ xs) [] zs first then v z at = absurd first
each-pair R S (x ∷ xs) (y ∷ ys) [] first then v z at = absurd then
each-pair {A} {B} {C} R S (x ∷ xs) (y ∷ ys) (w ∷ zs) first then zero z at =
    let same : w ≡ z = cc in (x, y, refl, first.0, subst (S x) same then.0)
each-pair R S (x ∷ xs) (y ∷ ys) (w ∷ zs) first then (suc v) z at =
    each-pair R S xs ys zs first.1 then.1 v z at

-- a member of one list, and what stands beside it in the other
pub each-member : {A B C : Type 0} (R : A → B → Type 0) (S : A → C → Type 0) (xs : List A)
    (ys : List B) (zs : List C) → AreEach R xs ys → AreEach S xs zs → (y : B) → Contains ys y
    → (x : A) × (z : C) × Contains zs z × R x y × S x z
each-member R S [] [] zs first then y (k, less, is) = absurd (omega (arith, less))
each-member R S [] (b ∷ ys) zs first then y has = absurd first
each-member R S (x ∷ xs) [] zs first then y has = absurd first
each-member R S (x ∷ xs) (b ∷ ys) [] first then y has = absurd then
each-member {A} {B} {C} R S (x ∷ xs) (b ∷ ys) (z ∷ zs) first then y has =
    elim (contains-cases b y ys has) [
      | inl same ↦ (x, z, contains-head z zs, subst (R x) same first.0, then.0)
      | inr later ↦ let found = each-member R S xs ys zs first.1 then.1 y later in
          (found.0, found.1, contains-tail z found.1 zs found.2, found.3, found.4)
    ]

each-count : {A B C : Type 0} (R : A → B → Type 0) (S : A → C → Type 0) (xs : List A)
    (ys : List B) (zs : List C) → AreEach R xs ys → AreEach S xs zs → length ys ≡ length zs
each-count R S [] [] [] first then = refl
each-count R S [] (y ∷ ys) zs first then = absurd first
each-count R S [] [] (z ∷ zs) first then = absurd then
each-count R S (x ∷ xs) [] zs first then = absurd first
each-count R S (x ∷ xs) (y ∷ ys) [] first then = absurd then
each-count R S (x ∷ xs) (y ∷ ys) (z ∷ zs) first then =
    ap suc (each-count R S xs ys zs first.1 then.1)

-- kinds of one name are one kind
same-base : (a b : BaseKind) (name : Text) → base_name a ≡ name → base_name b ≡ name → a ≡ b
same-base a b name is_a is_b =
    let both : Some a ≡ Some b = sym (only-named name a is_a) ∙ only-named name b is_b in cc

module _ (w : World) (tests : Tests) (shapes : List TypeDef) (old new : List Value) where
  -- a constraint that isn't a constant asks the same over any table
  keeps-native : (o : Option ℕ) (a : Assignment) (x : Value) → Keeps old tests a (native_by o) x
      → Keeps new tests a (native_by o) x
  keeps-native None a x kept = kept
  keeps-native (Some i) a x kept = kept

  keeps-base : (own : Text) (r : RawRef) (t : Option Target) (a : Assignment) (x : Value)
      → Keeps old tests a (base_by own r t) x → Keeps new tests a (base_by own r t) x
  keeps-base own r None a x kept = kept
  keeps-base own r (Some t) a x kept = kept

  keeps-parametric : (own : Text) (r : RawRef) (parts : List VarId) (t : Option Target)
      (a : Assignment) (x : Value) → Keeps old tests a (parametric_by own r parts t) x
      → Keeps new tests a (parametric_by own r parts t) x
  keeps-parametric own r parts None a x kept = kept
  keeps-parametric own r parts (Some t) a x kept = kept

  -- the same constraint, resolved to two, asks the same
  keeps-moved : (own : Text) (cs : List Named) (e : RawExpr) (c d : Constraint)
      → IsConstraint w tests shapes old own cs e c → IsConstraint w tests shapes new own cs e d
      → (a : Assignment) (x : Value) → Keeps old tests a c x → Keeps new tests a d x
  keeps-moved own cs (raw.Is cst) c d (i, first, is) (j, then, also) a x kept =
      let before : x ≡ at old i.0 = subst (λ k. Keeps old tests a k x) is kept in
      let both : Some (at old i.0) ≡ Some (at new j.0) =
      sym first.means.spells ∙ then.means.spells in
      let same : at old i.0 ≡ at new j.0 = cc in
      subst (λ k. Keeps new tests a k x) (sym also) (before ∙ same)
  keeps-moved own cs raw.Any c d is also a x kept = subst (λ k. Keeps new tests a k x) (sym also) tt
  keeps-moved own cs (raw.Pred p) c d is also a x kept =
      subst (λ k. Keeps new tests a k x) (sym also)
      (keeps-native _ a x (subst (λ k. Keeps old tests a k x) is kept))
  keeps-moved own cs (raw.BaseName b) c d (inl (one, named, is)) (inl (two, called, also)) a x kept =
      let same : one ≡ two = same-base one two b.text named called in
      subst (λ k. Keeps new tests a k x)
      (ap (λ y. con.Base (Builtin y)) same ∙ sym also)
      (subst (λ k. Keeps old tests a k x) is kept)
  keeps-moved own cs (raw.BaseName b) c d (inl (one, named, is)) (inr (no_one, also)) a x kept =
      absurd (no_one one named)
  keeps-moved own cs (raw.BaseName b) c d (inr (no_one, is)) (inl (two, called, also)) a x kept =
      absurd (no_one two called)
  keeps-moved own cs (raw.BaseName b) c d (inr (no_one, is)) (inr (nobody, also)) a x kept =
      subst (λ k. Keeps new tests a k x) (sym also) tt
  keeps-moved own cs (raw.BaseRef r) c d is also a x kept =
      subst (λ k. Keeps new tests a k x) (sym also)
      (keeps-base own r (target w own r) a x (subst (λ k. Keeps old tests a k x) is kept))
  keeps-moved own cs (raw.Parametric r parts) c d is also a x kept =
      subst (λ k. Keeps new tests a k x) (sym also)
      (keeps-parametric own r _ (target w own r) a x (subst (λ k. Keeps old tests a k x) is kept))
  keeps-moved own cs (raw.AnyOf members) c d is also a x kept =
      subst (λ k. Keeps new tests a k x) (sym also) (subst (λ k. Keeps old tests a k x) is kept)
  keeps-moved own cs (raw.AllOf members) c d is also a x kept =
      subst (λ k. Keeps new tests a k x) (sym also) (subst (λ k. Keeps old tests a k x) is kept)

  -- the same body, resolved to two, is met by the same assignments
  pub meets-moved : (own : Text) (cs : List Named) (b d : Body)
      → IsBody w tests shapes old own cs b → IsBody w tests shapes new own cs d
      → (a : Assignment) → MeetsBody old tests b a → MeetsBody new tests d a
  meets-moved own cs b d first then a met =
      let R : Named → Constraint → Type 0 =
      λ y c. IsConstraint w tests shapes old own cs y.expr c in
      let S : Named → Constraint → Type 0 =
      λ y c. IsConstraint w tests shapes new own cs y.expr c in
      record {
        size = met.size ∙ each-count R S cs b.vars d.vars first then;
        each = λ v c x is has.
            let found = each-pair R S cs b.vars d.vars first then v.0 c is in
            keeps-moved own cs found.0.expr found.1 c found.3 found.4 a x
            (met.each v found.1 x found.2 has);
      }

  module _ (ds : List Located) (types kinds : List TypeDef)
      (first : AreEach (IsType w tests shapes old) ds types)
      (then : AreEach (IsType w tests shapes new) ds kinds) where
    -- what is an instance by one loading is so by the other
    pub instance-moved : (is_type : Bool) (name : Text) (kids : List Value)
        → IsInstance old tests types is_type name kids
        → IsInstance new tests kinds is_type name kids
    instance-moved is_type name kids instance =
        let found = each-member (IsType w tests shapes old) (IsType w tests shapes new) ds types
        kinds first then instance.definition instance.defined.listed in
        let t = found.1 in
        let before = found.3 in
        let after = found.4 in
        record {
          definition = t;
          defined = record {
            listed = found.2;
            kind = after.kind ∙ sym before.kind ∙ instance.defined.kind;
            named = after.name ∙ sym before.name ∙ instance.defined.named;
          };
          assignment = instance.assignment;
          meets = meets-moved found.0.dialect _ instance.definition.body t.body before.body
              after.body instance.assignment instance.meets;
          params = subst (λ ps. HaveEach instance.assignment (vars_of ps) kids)
              (before.params ∙ sym after.params) instance.params;
        }

    defined-moved : (head : Head) (kids : List Value) → IsDefined old tests types head kids
        → IsDefined new tests kinds head kids
    defined-moved (h.Dialect is_type name) kids defined = instance-moved is_type name kids defined
    defined-moved _ kids defined = tt

    nodes-moved : (kids : Values) → AreGoodNodes old tests types kids
        → AreGoodNodes new tests kinds kids
    nodes-moved none good = tt
    nodes-moved (more head kids rest) good = (
      record { rule = good.0.rule; defined = defined-moved head (list_of kids) good.0.defined },
      nodes-moved kids good.1,
      nodes-moved rest good.2,
    )

    -- what is good by one loading is so by the other
    pub good-moved : (v : Value) → Good old tests types v → Good new tests kinds v
    good-moved v good = record {
      shallow = good.shallow;
      node = record {
        rule = good.node.rule;
        defined = defined-moved v.head (list_of v.kids) good.node.defined;
      };
      kids = nodes-moved v.kids good.kids;
    }

    -- and a tree means the same
    pub means-moved : (cst : ValueCst) (v : Value) → Means old tests types no_aliases cst v
        → Means new tests kinds no_aliases cst v
    means-moved cst v means =
        record { spells = means.spells; good = good-moved v means.good }
