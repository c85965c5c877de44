-- What facts leave of an operation: two operations that the same facts show have the same sizes of
-- segments where these are hidden, and the same attributes, regions and successors.
--
-- Each part is one of which a fact tells (`Covers`), and what a fact says of a part determines it.
use Rattle.std.proofs.Common.{◌≡◌, ℕ, suc, Bool, true, false, List, [], ◌∷◌, inl, inr, length}
use Rattle.std.proofs.Common.{sum, refl, sym, ◌∙◌, ap, subst, arith, Option, Some, None}
use Rattle.std.proofs.Common.{slice_get, option_map}
use Rattle.std.proofs.lemmas.Slice.Eq.{bytes_eq-Decides}
use Rattle.std.specs.List.{AllByRecursion}
use Rattle.attr_value.specs.Values.{Value}
use Rattle.dialect_defs.specs.declared.definition.OpDef.{OpDef}
use Rattle.dialect_defs.specs.declared.entry.Arity.{Arity}
use Rattle.dialect_defs.specs.declared.entry.Arity.TheVariants.{Single, Optional, Variadic}
use Rattle.dialect_defs.specs.declared.entry.Entry.{Entry}
use Rattle.dialect_defs.specs.declared.entry.RegionEntry.{RegionEntry}
use Rattle.dialect_defs.specs.Assignments.{Tests, Assignment}
use Rattle.dialect_defs.specs.Operations.{Operation, attr_at, MeetsBy, RegionsHave}
use Rattle.dialect_defs.specs.Operations.{operand_sizes_key, result_sizes_key}
use Rattle.dialect_defs.specs.Segments.{FitsArity, is_single, parts}
use Rattle.grammar.specs.Looks.{is_among}
use Rattle.ir_lexer.specs.Spelling.{Text}
use Rattle.module_meaning.proofs.Places.{same-some, map-some, map-map-some, option-some}
use Rattle.module_meaning.proofs.Places.{same-places, part-size, fits-at, fits-past}
use Rattle.module_meaning.proofs.Told.{both-hold, told-of}
use Rattle.module_meaning.specs.Facts.{Fact, uses_are, types_are, attr_is, unit_is, string_is}
use Rattle.module_meaning.specs.Facts.{number_is, region_is, of_result, is_of, tells, Hides}
use Rattle.module_meaning.specs.Facts.{attr_topic, operand_topic, result_topic, region_topic}
use Rattle.module_meaning.specs.Says.{Says, Shows, HasSizes, sizes_value}
use Rattle.segment_match.proofs.Unique.{FitEach-length}
use Rattle.value_meaning.specs.Meaning.{Aliases}

-- a single entry has one size
one-size : (arity : Arity) (n m : ℕ) → is_single arity ≡ true → FitsArity arity n
    → FitsArity arity m → n ≡ m
one-size Single n m e p q = p ∙ sym q
one-size Optional n m e p q = absurd (cc)
one-size Variadic n m e p q = absurd (cc)

-- there are as many regions as entries
pub regions-length : (a : Assignment) (es : List RegionEntry) (rs : List (List (List Value)))
    → RegionsHave a es rs → length rs ≡ length es
regions-length a [] [] has = refl
regions-length a [] (r ∷ rs) has = absurd has
regions-length a (e ∷ es) [] has = absurd has
regions-length a (e ∷ es) (r ∷ rs) (p, has) = ap suc (regions-length a es rs has)

-- two operations of which the same facts say something, each cut by its own sizes
module _ (aliases : Aliases) (o p : Operation) (ins outs ins2 outs2 : List ℕ) (facts : List Fact)
    (said : AllByRecursion (Says aliases ins outs o) facts)
    (said2 : AllByRecursion (Says aliases ins2 outs2 p) facts) where
  abbrev Both : Fact → Type 0
  Both fact = Says aliases ins outs o fact × Says aliases ins2 outs2 p fact

  both : AllByRecursion Both facts
  both = both-hold (Says aliases ins outs o) (Says aliases ins2 outs2 p) facts said said2

  abbrev SameAttr : Text → Type 0
  SameAttr key = attr_at o.attrs key ≡ attr_at p.attrs key

  attr-of : (key : Text) (fact : Fact) → is_of (attr_topic key) fact ≡ true → Both fact
      → SameAttr key
  attr-of key (attr_is k v) e (a, b) =
      subst SameAttr ((bytes_eq-Decides k key).0 e) (option-some _ _ (sym a ∙ b))
  attr-of key (unit_is k) e (a, b) = subst SameAttr ((bytes_eq-Decides k key).0 e) (a ∙ sym b)
  attr-of key (string_is k n) e (a, b) = subst SameAttr ((bytes_eq-Decides k key).0 e) (a ∙ sym b)
  attr-of key (number_is k kind n) e (a, b) =
      subst SameAttr ((bytes_eq-Decides k key).0 e) (option-some _ _ (sym a ∙ b))
  attr-of key _ e ab = absurd (cc)

  size-of : (i : ℕ) (fact : Fact) → is_of (operand_topic i) fact ≡ true → Both fact
      → slice_get ins i ≡ slice_get ins2 i
  size-of i (uses_are j us) e (a, b) =
      let at : j ≡ i = grind (arith, e) in
      subst (λ (k : ℕ). slice_get ins k ≡ slice_get ins2 k) at (a ∙ sym b)
  size-of i _ e ab = absurd (cc)

  abbrev SameSegment : ℕ → Type 0
  SameSegment i = slice_get (parts outs o.results) i ≡ slice_get (parts outs2 p.results) i

  segment-of : (i : ℕ) (fact : Fact) → is_of (result_topic i) fact ≡ true → Both fact
      → SameSegment i
  segment-of i (types_are (of_result j) trees) e (a, b) =
      let at : j ≡ i = grind (arith, e) in
      subst SameSegment at (same-some _ _ _ _ a b (λ x y h k. map-some x y (sym h ∙ k)))
  segment-of i _ e ab = absurd (cc)

  region-of : (i : ℕ) (fact : Fact) → is_of (region_topic i) fact ≡ true → Both fact
      → slice_get o.regions i ≡ slice_get p.regions i
  region-of i (region_is j r) e (a, b) =
      let at : j ≡ i = grind (arith, e) in
      subst (λ (k : ℕ). slice_get o.regions k ≡ slice_get p.regions k) at
      (same-some _ _ _ _ a b (λ x y h k. map-map-some x y (sym h ∙ k)))
  region-of i _ e ab = absurd (cc)

  -- an attribute of which a fact tells is the same
  pub same-told-attr : (key : Text) → tells facts (attr_topic key) ≡ true → SameAttr key
  same-told-attr key e =
      let (fact, is, ab) = told-of (attr_topic key) facts Both e both in attr-of key fact is ab

  -- so is the size of an operand entry
  pub same-told-size : (i : ℕ) → tells facts (operand_topic i) ≡ true
      → slice_get ins i ≡ slice_get ins2 i
  same-told-size i e =
      let (fact, is, ab) = told-of (operand_topic i) facts Both e both in size-of i fact is ab

  -- and that of a result entry
  pub same-told-results : (i : ℕ) → tells facts (result_topic i) ≡ true
      → sum outs ≡ length o.results → sum outs2 ≡ length p.results
      → slice_get outs i ≡ slice_get outs2 i
  same-told-results i e total total2 =
      let (fact, is, ab) = told-of (result_topic i) facts Both e both in
      part-size outs o.results i total
      ∙ (ap (option_map length) (segment-of i fact is ab)
      ∙ sym (part-size outs2 p.results i total2))

  -- and a region's arguments
  pub same-told-region : (i : ℕ) → tells facts (region_topic i) ≡ true
      → slice_get o.regions i ≡ slice_get p.regions i
  same-told-region i e =
      let (fact, is, ab) = told-of (region_topic i) facts Both e both in region-of i fact is ab

-- two operations that the same facts show, and that meet the same definition
module _ (aliases : Aliases) (values : List Value) (tests : Tests) (d : OpDef) (hides : Hides)
    (facts : List Fact) (o p : Operation) (ins outs ins2 outs2 : List ℕ) (a a2 : Assignment)
    (shows : Shows aliases d hides facts o ins outs)
    (shows2 : Shows aliases d hides facts p ins2 outs2)
    (meets : MeetsBy values tests d o ins outs a)
    (meets2 : MeetsBy values tests d p ins2 outs2 a2) where
  -- operands are cut alike where the sizes are hidden
  pub same-ins : hides.operand_sizes ≡ true → ins ≡ ins2
  same-ins e =
      let long = FitEach-length d.operands ins meets.operand_segments.fit in
      let long2 = FitEach-length d.operands ins2 meets2.operand_segments.fit in
      same-places ins ins2 (long ∙ sym long2) (λ i within.
      same-told-size aliases o p ins outs ins2 outs2 facts shows.said shows2.said i
      (shows.covers.operands e i (omega (arith, long))))

  -- so are results
  pub same-outs : hides.result_sizes ≡ true → outs ≡ outs2
  same-outs e =
      let long = FitEach-length d.results outs meets.result_segments.fit in
      let long2 = FitEach-length d.results outs2 meets2.result_segments.fit in
      same-places outs outs2 (long ∙ sym long2) (λ i within. at i (slice_get d.results i) refl)
    where
      of : (i : ℕ) (entry : Entry) → slice_get d.results i ≡ Some entry → (b : Bool)
          → is_single entry.arity ≡ b → slice_get outs i ≡ slice_get outs2 i
      of i entry is true one =
          same-some _ _ _ _ (fits-at d.results outs i entry meets.result_segments.fit is)
          (fits-at d.results outs2 i entry meets2.result_segments.fit is)
          (λ n m h k. one-size entry.arity n m one h k)
      of i entry is false many =
          same-told-results aliases o p ins outs ins2 outs2 facts shows.said shows2.said i
          (shows.covers.results e i entry is many) meets.result_segments.total
          meets2.result_segments.total

      at : (i : ℕ) (entry : Option Entry) → slice_get d.results i ≡ entry
          → slice_get outs i ≡ slice_get outs2 i
      at i None is =
          fits-past d.results outs i meets.result_segments.fit is
          ∙ sym (fits-past d.results outs2 i meets2.result_segments.fit is)
      at i (Some entry) is = of i entry is (is_single entry.arity) refl

  -- each attribute is the same
  pub same-attrs : (key : Text) → attr_at o.attrs key ≡ attr_at p.attrs key
  same-attrs key = by (is_among hides.keys key) refl
    where
      operand_sizes : (b : Bool) → hides.operand_sizes ≡ b → b ≡ true
          → HasSizes b o.attrs operand_sizes_key ins → HasSizes b p.attrs operand_sizes_key ins2
          → attr_at o.attrs operand_sizes_key ≡ attr_at p.attrs operand_sizes_key
      operand_sizes true e is h k =
          h.0 ∙ (ap (λ sizes. Some (sizes_value sizes)) (same-ins e) ∙ sym k.0)
      operand_sizes false e is h k = absurd (cc)

      result_sizes : (b : Bool) → hides.result_sizes ≡ b → b ≡ true
          → HasSizes b o.attrs result_sizes_key outs → HasSizes b p.attrs result_sizes_key outs2
          → attr_at o.attrs result_sizes_key ≡ attr_at p.attrs result_sizes_key
      result_sizes true e is h k =
          h.0 ∙ (ap (λ sizes. Some (sizes_value sizes)) (same-outs e) ∙ sym k.0)
      result_sizes false e is h k = absurd (cc)

      by : (b : Bool) → is_among hides.keys key ≡ b → attr_at o.attrs key ≡ attr_at p.attrs key
      by false e = option-some _ _ (sym (shows.others key e) ∙ shows2.others key e)
      by true e = elim (shows.covers.keys key e) [
        | inl told ↦
            same-told-attr aliases o p ins outs ins2 outs2 facts shows.said shows2.said key told
        | inr sizes ↦ elim sizes [
          | inl is ↦ rw is.1 (operand_sizes hides.operand_sizes refl is.0
              shows.operand_sizes_are shows2.operand_sizes_are)
          | inr is ↦ rw is.1 (result_sizes hides.result_sizes refl is.0
              shows.result_sizes_are shows2.result_sizes_are)
        ]
      ]

  -- regions have the same arguments
  pub same-regions : o.regions ≡ p.regions
  same-regions =
      let long = regions-length a d.regions o.regions meets.regions in
      let long2 = regions-length a2 d.regions p.regions meets2.regions in
      same-places o.regions p.regions (long ∙ sym long2) (λ i within.
      same-told-region aliases o p ins outs ins2 outs2 facts shows.said shows2.said i
      (shows.covers.regions i within))

  -- there are as many successors
  pub same-successors : o.successors ≡ p.successors
  same-successors = meets.successors ∙ sym meets2.successors
