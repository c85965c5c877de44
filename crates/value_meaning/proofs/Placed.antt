-- Definitions that are put into an index, and found there.
use Rattle.std.proofs.Common.{◌≡◌, ◌∙◌, ◌<◌, ◌≤◌, ◌+◌, ◌⊎◌, ◌↔◌, inl, inr, ℕ, Bool, true, false}
use Rattle.std.proofs.Common.{List, [], length, map, Contains, Bor, IfSome, IfNone, IsTrue, is_some}
use Rattle.std.proofs.Common.{refl, sym, ap, subst, arith, cond, bytes_eq, option_map}
use Rattle.std.proofs.lemmas.Bool.{cases_lt}
use Rattle.std.proofs.lemmas.Option.{slice_get_within, slice_get-get_or, get_or_from_slice_get}
use Rattle.std.proofs.lemmas.Option.{slice_get-map}
use Rattle.std.proofs.lemmas.Slice.Eq.{bytes_eq-Decides}
use Rattle.std.specs.Prelude.{slice_get}
use Rattle.std.specs.Slice.{IsItemAt}
use Rattle.std.specs.declared.option.Option.{Option}
use Rattle.std.specs.declared.option.Option.TheVariants.{Some, None}
use Rattle.constraint_solver.specs.Definitions.{IsOnlyDefinition}
use Rattle.dialect_defs.specs.declared.definition.TypeDef.{TypeDef}
use Rattle.dialect_defs.specs.Goodness.{IsDefinedAs}
use Rattle.ir_lexer.specs.Spelling.{Text}
use Rattle.value_meaning.specs.Distinct.{HaveDistinctNames}
use Rattle.value_meaning.specs.Faults.{IsNamed}
use Rattle.value_meaning.specs.declared.places.Places.{Places}
use Rattle.value_meaning.specs.Places.{PlaceIds, place_of, with_place, ArePlaced}
use Rattle.value_meaning.proofs.KidAt.{lent, not-lent}

-- no two definitions of an empty list have the same name
pub distinct-nil : HaveDistinctNames []
distinct-nil = record { same = λ i j d e is so kind name. absurd (cc) }

-- none of them was noted at first
pub placed-none : (types : List TypeDef) (ids : PlaceIds)
    → ((is_type : Bool) (name : Text) → ids is_type name ≡ None) → ArePlaced types 0 ids
placed-none types ids none = record {
  each = λ k d before is. absurd (omega (arith, before));
  only = λ is_type name place is.
      let no : None ≡ Some place = sym (none is_type name) ∙ is in absurd (cc);
}

-- what is found with one place more is this one, or was found before
with-place : (ids : PlaceIds) (is_type : Bool) (name : Text) (place : ℕ) (kind : Bool)
    (other : Text) (found : ℕ) → with_place ids is_type name place kind other ≡ Some found
    → ((is_type ≡ kind) × (name ≡ other) × (place ≡ found)) ⊎ (ids kind other ≡ Some found)
with-place ids true name place true other found is = go (bytes_eq name other) refl is
  where
    go : (b : Bool) → bytes_eq name other ≡ b → cond b (Some place) (ids true other) ≡ Some found
        → ((true ≡ true) × (name ≡ other) × (place ≡ found)) ⊎ (ids true other ≡ Some found)
    go true same is = inl (refl, (bytes_eq-Decides name other).0 same, cc)
    go false same is = inr is
with-place ids true name place false other found is = inr is
with-place ids false name place true other found is = inr is
with-place ids false name place false other found is = go (bytes_eq name other) refl is
  where
    go : (b : Bool) → bytes_eq name other ≡ b → cond b (Some place) (ids false other) ≡ Some found
        → ((false ≡ false) × (name ≡ other) × (place ≡ found)) ⊎ (ids false other ≡ Some found)
    go true same is = inl (refl, (bytes_eq-Decides name other).0 same, cc)
    go false same is = inr is

-- the one more is found
with-own : (ids : PlaceIds) (is_type : Bool) (name : Text) (place : ℕ)
    → with_place ids is_type name place is_type name ≡ Some place
with-own ids true name place =
    ap (λ b. cond b (Some place) (ids true name)) ((bytes_eq-Decides name name).1 refl)
with-own ids false name place =
    ap (λ b. cond b (Some place) (ids false name)) ((bytes_eq-Decides name name).1 refl)

-- what was found under another kind or name is found
with-other : (ids : PlaceIds) (is_type : Bool) (name : Text) (place : ℕ) (kind : Bool)
    (other : Text) → (is_type ≡ kind → name ≡ other → ⊥)
    → with_place ids is_type name place kind other ≡ ids kind other
with-other ids true name place true other differ = go (bytes_eq name other) refl
  where
    go : (b : Bool) → bytes_eq name other ≡ b
        → cond b (Some place) (ids true other) ≡ ids true other
    go true same = absurd (differ refl ((bytes_eq-Decides name other).0 same))
    go false same = refl
with-other ids true name place false other differ = refl
with-other ids false name place true other differ = refl
with-other ids false name place false other differ = go (bytes_eq name other) refl
  where
    go : (b : Bool) → bytes_eq name other ≡ b
        → cond b (Some place) (ids false other) ≡ ids false other
    go true same = absurd (differ refl ((bytes_eq-Decides name other).0 same))
    go false same = refl

module _ (types : List TypeDef) (i : ℕ) (d : TypeDef) (here : slice_get types i ≡ Some d)
    (old : PlaceIds) (x : ArePlaced types i old) where
  -- a definition whose kind and name have a place already isn't the only one of these
  pub placed-twice : (place : ℕ) → old d.is_type d.name ≡ Some place → HaveDistinctNames types → ⊥
  placed-twice place is distinct =
      let p = x.only d.is_type d.name place is in
      let same = distinct.same place i p.definition d p.stands here p.kind p.named in
      let less = p.before_it in omega (arith, same, less)

  module _ (fresh : old d.is_type d.name ≡ None) (new : PlaceIds)
      (are : (kind : Bool) (other : Text)
      → new kind other ≡ with_place old d.is_type d.name i kind other) where
    -- a definition before isn't of this kind and name
    other-before : (k : ℕ) (e : TypeDef) → k < i → slice_get types k ≡ Some e
        → d.is_type ≡ e.is_type → d.name ≡ e.name → ⊥
    other-before k e before is kind name =
        let there : old d.is_type d.name ≡ Some k =
        subst (λ b. old b d.name ≡ Some k) (sym kind)
        (subst (λ t. old e.is_type t ≡ Some k) (sym name) (x.each k e before is)) in
        let no : None ≡ Some k = sym fresh ∙ there in absurd (cc)

    -- the definition at a place before has its own place, and so has this one
    each-more : (k : ℕ) (e : TypeDef) → k < i + 1 → slice_get types k ≡ Some e
        → (k < i) ⊎ (i ≤ k) → new e.is_type e.name ≡ Some k
    each-more k e upto is (inl before) =
        are e.is_type e.name
        ∙ with-other old d.is_type d.name i e.is_type e.name (other-before k e before is)
        ∙ x.each k e before is
    each-more k e upto is (inr from) =
        let at : k ≡ i = omega (arith, upto, from) in
        let it : Some e ≡ Some d = sym is ∙ ap (slice_get types) at ∙ here in
        let one : e ≡ d = cc in
        subst (λ (c : TypeDef). new c.is_type c.name ≡ Some k) (sym one)
        (are d.is_type d.name ∙ with-own old d.is_type d.name i ∙ ap Some (sym at))

    -- one definition more is noted
    pub placed-more : ArePlaced types (i + 1) new
    placed-more = record {
      each = λ k e upto is. each-more k e upto is (cases_lt k i);
      only = λ is_type name place is.
          elim (with-place old d.is_type d.name i is_type name place
          (sym (are is_type name) ∙ is)) [
            | inl it ↦ record {
              definition = d;
              before_it = let at = it.2 in omega (arith, at);
              stands = ap (slice_get types) (sym it.2) ∙ here;
              kind = it.0;
              named = it.1;
            }
            | inr before ↦ let p = x.only is_type name place before in record {
              definition = p.definition;
              before_it = let less = p.before_it in omega (arith, less);
              stands = p.stands;
              kind = p.kind;
              named = p.named;
            }
          ];
    }

-- where each definition has its own place, no two have the same kind and name
pub placed-distinct : (types : List TypeDef) (ids : PlaceIds) → ArePlaced types (length types) ids
    → HaveDistinctNames types
placed-distinct types ids x = record {
  same = λ i j d e is so kind name.
      let first = x.each i d (slice_get_within types i d is) is in
      let second = subst (λ b. ids b d.name ≡ Some j) (sym kind)
      (subst (λ t. ids e.is_type t ≡ Some j) (sym name)
      (x.each j e (slice_get_within types j e so) so)) in
      let it : Some i ≡ Some j = sym first ∙ second in cc;
}

-- whether places were found for all says whether no two have the same kind and name
pub placed-decides : (types : List TypeDef) (r : Option Places) (b : Bool) → b ≡ is_some r
    → IfSome r (λ p. ArePlaced types (length types) (place_of p))
    → IfNone r (HaveDistinctNames types → ⊥) → IsTrue b ↔ HaveDistinctNames types
placed-decides types None b e some none =
    (λ is. let no : true ≡ false = sym is ∙ e in absurd (cc), λ distinct. absurd (none distinct))
placed-decides types (Some p) b e some none =
    (λ is. placed-distinct types (place_of p) some, λ distinct. e)

-- the definition at a place is listed
listed-at : (types : List TypeDef) (k : ℕ) (d : TypeDef) → slice_get types k ≡ Some d
    → Contains types d
listed-at types k d is = (k, slice_get_within types k d is, get_or_from_slice_get types k d d is)

-- a listed definition stands at a place
place-of-listed : (types : List TypeDef) (d : TypeDef) (x : Contains types d)
    → slice_get types x.0 ≡ Some d
place-of-listed types d x = slice_get-get_or types x.0 d x.1 ∙ ap Some x.2

module _ (types : List TypeDef) (ids : PlaceIds) (x : ArePlaced types (length types) ids)
    (is_type : Bool) (name : Text) where
  -- each definition of a kind and name has the place that is noted for these
  noted : (e : TypeDef) → (defined : IsDefinedAs types is_type name e)
      → ids is_type name ≡ Some defined.listed.0
  noted e defined =
      subst (λ kind. ids kind name ≡ Some defined.listed.0) defined.kind
      (subst (λ n. ids e.is_type n ≡ Some defined.listed.0) defined.named
      (x.each defined.listed.0 e defined.listed.1 (place-of-listed types e defined.listed)))

  -- where no place is noted, no definition has the kind and name
  pub not-noted : ids is_type name ≡ None → IsNamed types is_type name → ⊥
  not-noted none named =
      let no : None ≡ Some named.defined.listed.0 =
      sym none ∙ noted named.definition named.defined in
      absurd (cc)

  -- the definition at the place that is noted is the only one of the kind and name
  pub noted-only : (place : ℕ) (d : TypeDef) → ids is_type name ≡ Some place
      → slice_get types place ≡ Some d → IsOnlyDefinition types is_type name d
  noted-only place d is at =
      let p = x.only is_type name place is in
      let one : p.definition ≡ d = let it : Some p.definition ≡ Some d = sym p.stands ∙ at in cc in
      record {
        defined = record {
          listed = listed-at types place d at;
          kind = ap (λ (c : TypeDef). c.is_type) (sym one) ∙ p.kind;
          named = ap (λ (c : TypeDef). c.name) (sym one) ∙ p.named;
        };
        only = λ e defined.
            let same : place ≡ defined.listed.0 =
            let it : Some place ≡ Some defined.listed.0 = sym is ∙ noted e defined in cc in
            let it : Some e ≡ Some d = sym (place-of-listed types e defined.listed)
            ∙ ap (slice_get types) (sym same) ∙ at in cc;
      }

  -- and one stands there
  pub noted-stands : (place : ℕ) → ids is_type name ≡ Some place → slice_get types place ≡ None → ⊥
  noted-stands place is none =
      let p = x.only is_type name place is in
      let no : Some p.definition ≡ None = sym p.stands ∙ none in absurd (cc)

  -- what is lent of the definition at the place that is noted
  pub found : (place : ℕ) → ids is_type name ≡ Some place → (s : List TypeDef) → s ≡ types
      → (r : Option (Bor TypeDef)) → IsItemAt s place r
      → IfSome r (λ d. IsOnlyDefinition types is_type name d.now)
  found place is s same None it = tt
  found place is s same (Some d) it =
      noted-only place d.now is (ap (λ l. slice_get l place) (sym same) ∙ lent s place d it)

  -- and where nothing is lent
  pub lost : (place : ℕ) → ids is_type name ≡ Some place → (s : List TypeDef) → s ≡ types
      → (r : Option (Bor TypeDef)) → IsItemAt s place r
      → IfNone r (IsNamed types is_type name → ⊥)
  lost place is s same (Some d) it = tt
  lost place is s same None it = λ named.
      noted-stands place is (ap (λ l. slice_get l place) (sym same) ∙ not-lent s place it)

-- ---- lists with the same names

-- the kind and the name of a definition
abbrev pub key_of : TypeDef → Bool × Text
key_of d = (d.is_type, d.name)

-- a definition at the same place of a list with the same kinds and names
record HasAlike (types : List TypeDef) (i : ℕ) (d : TypeDef) : Type 0 where
  definition : TypeDef
  stands : slice_get types i ≡ Some definition
  alike : key_of definition ≡ key_of d

alike-at : (types others : List TypeDef) → map key_of types ≡ map key_of others → (i : ℕ)
    (d : TypeDef) → slice_get others i ≡ Some d → HasAlike types i d
alike-at types others keys i d is = go (slice_get types i) refl
    (sym (slice_get-map key_of types i) ∙ ap (λ ks. slice_get ks i) keys
    ∙ slice_get-map key_of others i ∙ ap (option_map key_of) is)
  where
    go : (r : Option TypeDef) → slice_get types i ≡ r → option_map key_of r ≡ Some (key_of d)
        → HasAlike types i d
    go None at e = absurd (cc)
    go (Some c) at e = record { definition = c; stands = at; alike = cc }

-- where no two of a list have the same kind and name, no two of another with these have
pub distinct-alike : (types others : List TypeDef) → map key_of types ≡ map key_of others
    → HaveDistinctNames types → HaveDistinctNames others
distinct-alike types others keys distinct = record {
  same = λ i j d e is so kind name.
      let a = alike-at types others keys i d is in
      let b = alike-at types others keys j e so in
      distinct.same i j a.definition b.definition a.stands b.stands
      (ap (λ k. k.0) a.alike ∙ kind ∙ sym (ap (λ k. k.0) b.alike))
      (ap (λ k. k.1) a.alike ∙ name ∙ sym (ap (λ k. k.1) b.alike));
}

-- and the same kinds and names are defined
pub named-alike : (types others : List TypeDef) → map key_of types ≡ map key_of others
    → (is_type : Bool) (name : Text) → IsNamed others is_type name → IsNamed types is_type name
named-alike types others keys is_type name named =
    let listed = named.defined.listed in
    let a = alike-at types others keys listed.0 named.definition
    (place-of-listed others named.definition listed) in
    record {
      definition = a.definition;
      defined = record {
        listed = listed-at types listed.0 a.definition a.stands;
        kind = ap (λ k. k.0) a.alike ∙ named.defined.kind;
        named = ap (λ k. k.1) a.alike ∙ named.defined.named;
      };
    }
