-- The faults of the stages of values and of operations, by what is found of aliases, regions and
-- operations.
--
--   distinct-ops             definitions of a sound registry have distinct names
--   no-values-fault, no-operations-fault    no stage has a fault where all is judged
--   first-with-alias         the first fault of values, where an alias has one
--   first-of-values          and where none has
--   first-of-operations      the first fault of operations
use Rattle.std.proofs.Common.{◌≡◌, ◌⊎◌, inl, inr, Bool, true, false, ◌&&◌, cond, List, []}
use Rattle.std.proofs.Common.{◌∷◌, ◌++◌, refl, sym, ◌∙◌, ap, subst, Contains, slice_get, bytes_eq}
use Rattle.std.specs.declared.option.Option.{Option}
use Rattle.std.specs.declared.option.Option.TheVariants.{Some, None}
use Rattle.std.proofs.lemmas.Option.{slice_get-get_or}
use Rattle.attr_value.specs.Values.{Value}
use Rattle.completion_laws.proofs.Values.{ground_of, none-good}
use Rattle.dialect_defs.specs.declared.definition.OpDef.{OpDef}
use Rattle.dialect_registry.specs.Registered.{AreApart}
use Rattle.elaborate.specs.Aliases.{IsFaultyAlias}
use Rattle.elaborate.specs.Judged.{AreJudged}
use Rattle.elaborate.specs.Operations.{IsOpFaultAmong, IsValueFaultAmong}
use Rattle.elaborate.specs.Regions.{IsDeepRegion}
use Rattle.first_fault.specs.declared.fault.Fault.{Fault}
use Rattle.first_fault.specs.Firsts.{IsFirst, earlier_of}
use Rattle.first_fault.proofs.Firsts.{first-either, first-same}
use Rattle.generic_syntax.specs.declared.module_cst.AliasCst.{AliasCst}
use Rattle.generic_syntax.specs.declared.module_cst.ModuleCst.{ModuleCst}
use Rattle.ir_lexer.specs.Spelling.{Text}
use Rattle.module_faults.specs.declared.ids.OpIds.{OpIds}
use Rattle.module_faults.specs.ModuleFaults.{IsAliasFault, IsOpValueFault, IsOperationsFault}
use Rattle.module_faults.specs.ModuleFaults.{IsRegionFault, IsValuesFault, NoOperationsFault}
use Rattle.module_faults.specs.ModuleFaults.{NoValuesFault}
use Rattle.module_faults.specs.Standings.{standings}
use Rattle.module_meaning.proofs.Places.{some-same}
use Rattle.module_meaning.specs.AliasValues.{HaveValues, no_aliases, values_under, with_value}
use Rattle.module_meaning.specs.Completes.{HaveDistinctOps, aliases_of}
use Rattle.module_meaning.specs.Facts.{no_forms}
use Rattle.module_meaning.specs.WholeModules.{IsGood, Loaded}
use Rattle.symbol_scopes.specs.Faults.{same_kind}
use Rattle.value_meaning.proofs.Faultless.{means-clean}
use Rattle.value_meaning.proofs.Integers.{HaveGoodValues}
use Rattle.value_meaning.specs.Faults.{IsFault, Means}
use Rattle.value_meaning.specs.Judging.{Ground}
use Rattle.value_meaning.specs.Meaning.{Aliases, value_of}

-- ---- definitions

-- where a member stands
place-of : {A : Type 0} (xs : List A) (x : A) (has : Contains xs x) → slice_get xs has.0 ≡ Some x
place-of xs x (k, less, is) = slice_get-get_or xs k x less ∙ ap Some is

-- operations no two of which have the same name are known by their names
pub distinct-ops : (ops : List OpDef) → AreApart ops → HaveDistinctOps ops
distinct-ops ops apart = record {
  same = λ d e x y named.
      let place : x.0 ≡ y.0 =
      apart.same x.0 y.0 d e (place-of ops d x) (place-of ops e y) named in
      some-same d e (sym (place-of ops d x) ∙ (ap (slice_get ops) place ∙ place-of ops e y));
}

-- ---- aliases

module _ (loaded : Loaded) where
  abbrev ground : Ground
  ground = ground_of loaded

  abbrev Have : Aliases → List AliasCst → Type 0
  Have al xs = HaveValues loaded.values loaded.tests loaded.types al xs

  abbrev Faulty : Aliases → AliasCst → Fault → Type 0
  Faulty al x f = IsFault loaded.values loaded.tests loaded.types al 1 x.value f

  -- with one more that has a good value
  good-more : (al : Aliases) (x : AliasCst) (v : Value) → HaveGoodValues ground al
      → Means loaded.values loaded.tests loaded.types al x.value v
      → HaveGoodValues ground (with_value al x)
  good-more al x v good means = record {
    each = λ is_type name w is.
        go is_type name w (same_kind x.is_type is_type && bytes_eq x.name name) refl is;
  }
    where
      go : (is_type : Bool) (name : Text) (w : Value) (b : Bool)
          → (same_kind x.is_type is_type && bytes_eq x.name name) ≡ b
          → cond b (value_of al x.value) (al is_type name) ≡ Some w → IsGood loaded w
      go is_type name w true same is =
          let one : Some v ≡ Some w = sym means.spells ∙ is in
          subst (IsGood loaded) (some-same v w one) means.good
      go is_type name w false other is = good.each is_type name w is

  -- the value of each has no fault under those before it
  have-clean : (al : Aliases) (before : List AliasCst) (x : AliasCst) (after : List AliasCst)
      → HaveGoodValues ground al → Have al (before ++ x ∷ after) → (f : Fault)
      → Faulty (values_under al before) x f → ⊥
  have-clean al [] x after good ((v, means), h) f fault = means-clean good x.value v means f fault
  have-clean al (b ∷ before) x after good ((v, means), h) f fault =
      have-clean (with_value al b) before x after (good-more al b v good means) h f fault

  -- lists that are the same begin with the same
  first-alias-same : (x y : AliasCst) (xs ys : List AliasCst) → x ∷ xs ≡ y ∷ ys → x ≡ y
  first-alias-same x y xs ys e = cc

  others-same : (x y : AliasCst) (xs ys : List AliasCst) → x ∷ xs ≡ y ∷ ys → xs ≡ ys
  others-same x y xs ys e = cc

  -- two aliases that have a fault, where those before them have values, are the same
  one-faulty : (al : Aliases) → HaveGoodValues ground al → (xs us ys vs : List AliasCst)
      → (x y : AliasCst) → xs ++ x ∷ us ≡ ys ++ y ∷ vs → Have al xs → Have al ys
      → (f g : Fault) → Faulty (values_under al xs) x f → Faulty (values_under al ys) y g
      → Faulty (values_under al xs) x g
  one-faulty al good [] us [] vs x y e have have2 f g a b =
      subst (λ z. Faulty al z g) (sym (first-alias-same x y us vs e)) b
  one-faulty al good [] us (z ∷ ys) vs x y e have ((v, means), have2) f g a b =
      absurd (means-clean good z.value v means f
      (subst (λ w. Faulty al w f) (first-alias-same x z us (ys ++ y ∷ vs) e) a))
  one-faulty al good (z ∷ xs) us [] vs x y e ((v, means), have) have2 f g a b =
      absurd (means-clean good z.value v means g
      (subst (λ w. Faulty al w g) (sym (first-alias-same z y (xs ++ x ∷ us) vs e)) b))
  one-faulty al good (z ∷ xs) us (w ∷ ys) vs x y e ((v, means), have) (first2, have2) f g a b =
      let same : w ≡ z = sym (first-alias-same z w (xs ++ x ∷ us) (ys ++ y ∷ vs) e) in
      one-faulty (with_value al z) (good-more al z v good means) xs us ys vs x y
      (others-same z w (xs ++ x ∷ us) (ys ++ y ∷ vs) e) have
      (subst (λ k. Have (with_value al k) ys) same have2) f g a
      (subst (λ k. Faulty (values_under (with_value al k) ys) y g) same b)

-- ---- stages

module _ (loaded : Loaded) (tree : ModuleCst) where
  abbrev Alias : Fault → Type 0
  Alias = IsAliasFault loaded no_forms tree

  abbrev OpValue : Fault → Type 0
  OpValue = IsOpValueFault loaded no_forms tree

  abbrev IsValued : Type 0
  IsValued = HaveValues loaded.values loaded.tests loaded.types no_aliases tree.aliases

  -- where aliases have values none has a fault
  no-alias : IsValued → (f : Fault) → Alias f → ⊥
  no-alias valued f x =
      have-clean loaded no_aliases x.before x.alias x.after (none-good loaded)
      (subst (HaveValues loaded.values loaded.tests loaded.types no_aliases) x.cut valued) f x.fault

  -- where all is judged no value has a fault
  pub no-values-fault : (now : List Value) (ids : List OpIds) → AreJudged loaded tree now ids
      → NoValuesFault loaded no_forms tree
  no-values-fault now ids judged f (inl x) = no-alias judged.valued f x
  no-values-fault now ids judged f (inr (inl x)) =
      judged.values f
      (record { op = x.op; is_last = x.is_last; stands = x.stands; fault = x.fault })
  no-values-fault now ids judged f (inr (inr x)) = judged.shallow f (record {
    nesting = x.nesting;
    region = x.region;
    stands = x.stands;
    deep = x.deep;
    place = x.place;
    code = x.code;
  })

  -- and no operation
  pub no-operations-fault : (now : List Value) (ids : List OpIds) → AreJudged loaded tree now ids
      → NoOperationsFault loaded no_forms tree
  no-operations-fault now ids judged f x =
      judged.operations f
      (record { op = x.op; is_last = x.is_last; stands = x.stands; fault = x.fault })

  -- the first region that nests too deep
  first-region : (deep : Option Fault) → IsFirst (IsDeepRegion (standings tree)) deep
      → IsFirst (IsRegionFault tree) deep
  first-region deep x = first-same (IsDeepRegion (standings tree)) (IsRegionFault tree) deep
      (λ f h. record {
        nesting = h.nesting;
        region = h.region;
        stands = h.stands;
        deep = h.deep;
        place = h.place;
        code = h.code;
      })
      (λ f h. record {
        nesting = h.nesting;
        region = h.region;
        stands = h.stands;
        deep = h.deep;
        place = h.place;
        code = h.code;
      }) x

  -- the first fault of an alias
  first-alias : (f : Fault)
      → IsFaultyAlias loaded.values loaded.tests loaded.types tree.aliases f
      → IsFirst Alias (Some f)
  first-alias f x = (
    record {
      before = x.before;
      alias = x.alias;
      after = x.after;
      cut = x.cut;
      valued = x.valued;
      fault = x.first.0;
    },
    λ g h. x.first.1 g (one-faulty loaded no_aliases (none-good loaded) x.before x.after h.before
        h.after x.alias h.alias (sym x.cut ∙ h.cut) x.valued h.valued f g x.first.0 h.fault),
  )

  -- where an alias has a fault, nothing is said of operations
  no-op-value : (f : Fault) → IsFaultyAlias loaded.values loaded.tests loaded.types tree.aliases f
      → IsFirst OpValue None
  no-op-value f x = λ g h.
      have-clean loaded no_aliases x.before x.alias x.after (none-good loaded)
      (subst (HaveValues loaded.values loaded.tests loaded.types no_aliases) x.cut h.valued) f
      x.first.0

  -- the first fault of values, where an alias has one
  pub first-with-alias : (f : Fault) (deep : Option Fault)
      → IsFaultyAlias loaded.values loaded.tests loaded.types tree.aliases f
      → IsFirst (IsDeepRegion (standings tree)) deep
      → IsFirst (IsValuesFault loaded no_forms tree) (earlier_of (Some f) deep)
  first-with-alias f deep x y =
      first-either Alias (λ g. OpValue g ⊎ IsRegionFault tree g) (Some f) deep (first-alias f x)
      (first-either OpValue (IsRegionFault tree) None deep (no-op-value f x) (first-region deep y))

  -- the first fault of the values of operations
  first-op-value : IsValued → (first : Option Fault)
      → IsFirst (IsValueFaultAmong loaded (aliases_of tree) (standings tree)) first
      → IsFirst OpValue first
  first-op-value valued first x =
      first-same (IsValueFaultAmong loaded (aliases_of tree) (standings tree)) OpValue first
      (λ f h. record {
        valued = valued;
        op = h.op;
        is_last = h.is_last;
        stands = h.stands;
        fault = h.fault;
      })
      (λ f h. record { op = h.op; is_last = h.is_last; stands = h.stands; fault = h.fault }) x

  either-way : (f : Fault) → IsRegionFault tree f ⊎ OpValue f → OpValue f ⊎ IsRegionFault tree f
  either-way f (inl x) = inr x
  either-way f (inr x) = inl x

  other-way : (f : Fault) → OpValue f ⊎ IsRegionFault tree f → IsRegionFault tree f ⊎ OpValue f
  other-way f (inl x) = inr x
  other-way f (inr x) = inl x

  -- the first fault of values, where aliases have values
  pub first-of-values : (deep first : Option Fault) → IsValued
      → IsFirst (IsDeepRegion (standings tree)) deep
      → IsFirst (IsValueFaultAmong loaded (aliases_of tree) (standings tree)) first
      → IsFirst (IsValuesFault loaded no_forms tree) (earlier_of deep first)
  first-of-values deep first valued x y =
      first-either Alias (λ g. OpValue g ⊎ IsRegionFault tree g) None (earlier_of deep first)
      (no-alias valued)
      (first-same (λ g. IsRegionFault tree g ⊎ OpValue g) (λ g. OpValue g ⊎ IsRegionFault tree g)
      (earlier_of deep first) either-way other-way
      (first-either (IsRegionFault tree) OpValue deep first (first-region deep x)
      (first-op-value valued first y)))

  -- the first fault of operations
  pub first-of-operations : (first : Option Fault)
      → IsFirst (IsOpFaultAmong loaded (aliases_of tree) (standings tree)) first
      → IsFirst (IsOperationsFault loaded no_forms tree) first
  first-of-operations first x =
      first-same (IsOpFaultAmong loaded (aliases_of tree) (standings tree))
      (IsOperationsFault loaded no_forms tree) first
      (λ f h. record { op = h.op; is_last = h.is_last; stands = h.stands; fault = h.fault })
      (λ f h. record { op = h.op; is_last = h.is_last; stands = h.stands; fault = h.fault }) x
