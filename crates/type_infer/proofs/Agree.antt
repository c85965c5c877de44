-- Two assignments that have the same shown values agree on each determined variable.
use Rattle.std.proofs.Common.{◌≡◌, ◌∙◌, ℕ, false, List, Some, ap, sym, subst, arith, slice_get}
use Rattle.std.proofs.lemmas.Option.{slice_get_within}
use Rattle.std.specs.List.{Contains}
use Rattle.attr_value.specs.Values.{Value, list_of}
use Rattle.dialect_defs.specs.declared.body.Constraint.{Constraint}
use Rattle.dialect_defs.specs.declared.body.Constraint.TheVariants.{Is, Any, Base, Parametric}
use Rattle.dialect_defs.specs.declared.body.Constraint.TheVariants.{AnyOf, AllOf, Native}
use Rattle.dialect_defs.specs.declared.body.VarId.{VarId}
use Rattle.dialect_defs.specs.declared.definition.OpDef.{OpDef}
use Rattle.dialect_defs.specs.declared.entry.Arity.TheVariants.{Single}
use Rattle.dialect_defs.specs.declared.entry.AttrEntry.{AttrEntry}
use Rattle.dialect_defs.specs.declared.entry.Entry.{Entry}
use Rattle.dialect_defs.specs.Assignments.{Tests, Assignment, Has, HaveEach, Keeps, MeetsBody}
use Rattle.constraint_solver.proofs.Given.{has-one}
use Rattle.type_infer.specs.declared.entries.EntryRef.{EntryRef}
use Rattle.type_infer.specs.Determined.{entry_at, named_in, Forced, Determined}
use Rattle.type_infer.specs.Determined.{by_entry, by_attr, by_whole, by_value, by_parts, by_member}
use Rattle.type_infer.proofs.Lists.{values_of, all-of, contains-get, get-contains, get-there, each-get, each-length}
use Rattle.type_infer.proofs.Lists.{same-items, values-list}

-- two assignments have the same value for a variable, where both have one
abbrev pub SameAt : Assignment → Assignment → VarId → Type 0
SameAt a b v = (x y : Value) → Has a v x → Has b v y → x ≡ y

-- the value at the place of a part
pub record KidOf (a : Assignment) (kids : List Value) (k : ℕ) (v : VarId) : Type 0 where
  pub kid : Value
  pub stands : slice_get kids k ≡ Some kid
  pub has : Has a v kid

pub kid-of : (a : Assignment) (parts : List VarId) (kids : List Value) (k : ℕ) (v : VarId)
    → HaveEach a parts kids → slice_get parts k ≡ Some v → KidOf a kids k v
kid-of a parts kids k v have is =
    let within = slice_get_within parts k v is in
    let there = get-there kids k (omega (arith, each-length a parts kids have)) in
    record {
      kid = there.0;
      stands = there.1;
      has = each-get a parts kids k v there.0 have is there.1;
    }

-- where all parts agree, so do what they have
pub kids-same : (a b : Assignment) (parts : List VarId) (xs ys : List Value) → HaveEach a parts xs
    → HaveEach b parts ys → ((v : VarId) → Contains parts v → SameAt a b v) → xs ≡ ys
kids-same a b parts xs ys first second agree =
    same-items xs ys (sym (each-length a parts xs first) ∙ each-length b parts ys second)
    (λ k x y is other.
    let within = slice_get_within xs k x is in
    let there = get-there parts k (omega (arith, each-length a parts xs first)) in
    agree there.0 (contains-get parts k there.0 there.1) x y
    (each-get a parts xs k there.0 x first there.1 is)
    (each-get b parts ys k there.0 y second there.1 other))

module _ (values : List Value) (tests : Tests) where
  -- a part or member of what has a value has one
  pub part-has : (a : Assignment) (c : Constraint) (x : Value) (v : VarId)
      → Keeps values tests a c x → Contains (named_in c) v → (y : Value) × Has a v y
  part-has a (Parametric is_type name parts) x v keeps among =
      let place = get-contains parts v among in
      let kid = kid-of a parts (list_of x.kids) place.0 v keeps.1 place.1 in
      (kid.kid, kid.has)
  part-has a (AllOf members) x v keeps among =
      (x, all-of (λ w. Has a w x) members v keeps among)
  part-has a (Is id) x v keeps among = absurd (omega (arith, among.1))
  part-has a Any x v keeps among = absurd (omega (arith, among.1))
  part-has a (Base base) x v keeps among = absurd (omega (arith, among.1))
  part-has a (AnyOf members) x v keeps among = absurd (omega (arith, among.1))
  part-has a (Native i) x v keeps among = absurd (omega (arith, among.1))

  -- equal wholes have equal parts and members
  pub part-same : (a b : Assignment) (c : Constraint) (x y : Value) (v : VarId) → x ≡ y
      → Keeps values tests a c x → Keeps values tests b c y → Contains (named_in c) v
      → SameAt a b v
  part-same a b (Parametric is_type name parts) x y v same first second among p q has other =
      let place = get-contains parts v among in
      let again : HaveEach b parts (list_of x.kids) =
      subst (λ z. HaveEach b parts (list_of z.kids)) (sym same) second.1 in
      let one = kid-of a parts (list_of x.kids) place.0 v first.1 place.1 in
      let two = kid-of b parts (list_of x.kids) place.0 v again place.1 in
      let kids : Some one.kid ≡ Some two.kid = sym one.stands ∙ two.stands in
      let mid : one.kid ≡ two.kid = cc in
      has-one a v p one.kid has one.has ∙ mid ∙ sym (has-one b v q two.kid other two.has)
  part-same a b (AllOf members) x y v same first second among p q has other =
      has-one a v p x has (all-of (λ w. Has a w x) members v first among)
      ∙ same ∙ sym (has-one b v q y other (all-of (λ w. Has b w y) members v second among))
  part-same a b (Is id) x y v same first second among p q has other = absurd (omega (arith, among.1))
  part-same a b Any x y v same first second among p q has other = absurd (omega (arith, among.1))
  part-same a b (Base base) x y v same first second among p q has other = absurd (omega (arith, among.1))
  part-same a b (AnyOf members) x y v same first second among p q has other = absurd (omega (arith, among.1))
  part-same a b (Native i) x y v same first second among p q has other = absurd (omega (arith, among.1))

  -- Two assignments that meet the body, have a value for each forced variable, and agree on what
  -- is shown agree on each determined variable: by the steps that put it into the set.
  module _ (d : OpDef) (shows : EntryRef → Type 0) (a b : Assignment)
      (first : MeetsBody values tests d.body a) (second : MeetsBody values tests d.body b)
      (forced : (v : VarId) → Forced d v → ((x : Value) × Has a v x) × ((y : Value) × Has b v y))
      (entries : (i : EntryRef) (e : Entry) → entry_at d i ≡ Some e → e.arity ≡ Single → shows i
      → SameAt a b e.var)
      (attrs : (e : AttrEntry) → Contains d.attrs e → e.optional ≡ false → SameAt a b e.var) where
    pub agree : (v : VarId) → Determined d shows v → SameAt a b v
    agree _ (by_value v id is) x y has other =
        first.each v (Is id) x is has ∙ sym (second.each v (Is id) y is other)
    agree _ (by_entry i e is single shown) x y has other = entries i e is single shown x y has other
    agree _ (by_attr e among required) x y has other = attrs e among required x y has other
    agree _ (by_parts v is_type name parts is told) x y has other =
        let one = first.each v (Parametric is_type name parts) x is has in
        let two = second.each v (Parametric is_type name parts) y is other in
        let lists : list_of x.kids ≡ list_of y.kids =
        kids-same a b parts _ _ one.1 two.1 (λ part among. agree part (told part among)) in
        let kids : x.kids ≡ y.kids =
        sym (values-list x.kids) ∙ ap values_of lists ∙ values-list y.kids in
        let heads : x.head ≡ y.head = one.0 ∙ sym two.0 in
        λ i. record { head = heads i; kids = kids i }
    agree _ (by_member v member members is among told) x y has other =
        let one = first.each v (AllOf members) x is has in
        let two = second.each v (AllOf members) y is other in
        agree member told x y (all-of (λ w. Has a w x) members member one among)
        (all-of (λ w. Has b w y) members member two among)
    agree _ (by_whole v whole c must told is among) x y has other =
        let wholes = forced whole must in
        part-same a b c wholes.0.0 wholes.1.0 v
        (agree whole told wholes.0.0 wholes.1.0 wholes.0.1 wholes.1.1)
        (first.each whole c wholes.0.0 is wholes.0.1) (second.each whole c wholes.1.0 is wholes.1.1)
        among x y has other

  -- a forced variable has a value
  module _ (d : OpDef) (a : Assignment) (met : MeetsBody values tests d.body a)
      (entries : (i : EntryRef) (e : Entry) → entry_at d i ≡ Some e → e.arity ≡ Single
      → (x : Value) × Has a e.var x)
      (attrs : (e : AttrEntry) → Contains d.attrs e → e.optional ≡ false
      → (x : Value) × Has a e.var x) where
    pub forced-has : (v : VarId) → Forced d v → (x : Value) × Has a v x
    forced-has _ (by_entry i e is single) = entries i e is single
    forced-has _ (by_attr e among required) = attrs e among required
    forced-has _ (by_whole v whole c must is among) =
        let has = forced-has whole must in
        part-has a c has.0 v (met.each whole c has.0 is has.1) among
