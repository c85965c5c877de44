-- What completes a tree has no fault among the values that the tree tells: each means a good value.
-- So do the values of aliases.
use Rattle.std.proofs.Common.{◌≡◌, ℕ, suc, Bool, true, false, ◌&&◌, List, [], ◌∷◌, ◌++◌, map}
use Rattle.std.proofs.Common.{refl, sym, ◌∙◌, ap, subst, inl, inr, Contains, bytes_eq, cond}
use Rattle.std.specs.List.{AllByRecursion, IsDistinct, zip}
use Rattle.std.specs.Prelude.{option_map}
use Rattle.std.specs.declared.option.Option.{Option}
use Rattle.std.specs.declared.option.Option.TheVariants.{Some, None}
use Rattle.attr_value.specs.Values.{Value}
use Rattle.dialect_defs.specs.Operations.{Operation, Attrs, attr_at}
use Rattle.first_fault.specs.declared.fault.Fault.{Fault}
use Rattle.generic_syntax.specs.declared.cst.EntryCst.{EntryCst, out-EntryCst}
use Rattle.generic_syntax.specs.declared.cst.NameCst.{NameCst}
use Rattle.generic_syntax.specs.declared.cst.ValueCst.{ValueCst}
use Rattle.generic_syntax.specs.declared.module_cst.AliasCst.{AliasCst}
use Rattle.generic_syntax.specs.declared.module_cst.ArgCst.{ArgCst}
use Rattle.generic_syntax.specs.declared.module_cst.BlockCst.{BlockCst, out-BlockCst}
use Rattle.generic_syntax.specs.declared.module_cst.FormCst.TheOpen.{FormCst-F}
use Rattle.generic_syntax.specs.declared.module_cst.GenericCst.{out-GenericCst}
use Rattle.generic_syntax.specs.declared.module_cst.RegionCst.{RegionCst, out-RegionCst}
use Rattle.ir_lexer.specs.Spelling.{Text}
use Rattle.completion_laws.specs.Beside.{InEach}
use Rattle.completion_laws.proofs.Forms.{FormShows}
use Rattle.completion_laws.proofs.Lists.{one-of}
use Rattle.module_faults.specs.OpFaults.{if_there, entries_values, block_types, blocks_types}
use Rattle.module_faults.specs.OpFaults.{told_values, IsKeyFault, IsNumberFault}
use Rattle.module_meaning.proofs.Places.{all-joined, some-same}
use Rattle.module_meaning.specs.AliasValues.{no_aliases, with_value, values_under, AreAliases}
use Rattle.module_meaning.specs.Facts.{Fact, FormSeen}
use Rattle.module_meaning.specs.Facts.{number_is}
use Rattle.module_meaning.specs.Facts.{dict_in, facts_in, hides_in, no_forms}
use Rattle.module_meaning.specs.Facts.{successor_facts, region_facts}
use Rattle.module_meaning.specs.Says.{keys_in, seen_in, argument_types, SpellTypes}
use Rattle.module_meaning.specs.WholeModules.{Loaded, IsGood, IsGoodType}
use Rattle.symbol_scopes.specs.Faults.{same_kind}
use Rattle.value_meaning.proofs.Among.{contains-nil, contains-cons}
use Rattle.value_meaning.proofs.Faultless.{means-clean}
use Rattle.value_meaning.proofs.Integers.{HaveGoodValues}
use Rattle.value_meaning.proofs.TextOrder.{eq-itself}
use Rattle.value_meaning.proofs.Trees.{seen-entry}
use Rattle.value_meaning.specs.Faults.{IsFault, Means}
use Rattle.value_meaning.specs.Judging.{Ground}
use Rattle.value_meaning.specs.Meaning.{Aliases, EntrySeen, entry_seen, seen, seen_entry, value_of}

-- what values are judged by
abbrev pub ground_of : Loaded → Ground
ground_of loaded =
    record { table = loaded.values; tests = loaded.tests; types = loaded.types }

-- ---- keys

-- the key of an entry
abbrev key_of : EntryCst → Text
key_of e = (out-EntryCst e).key

-- the keys behind an entry are others
key-behind : (before : List EntryCst) (e : EntryCst) (after : List EntryCst) (k : Text)
    → AllByRecursion (λ y. bytes_eq k y ≡ false) (keys_in (before ++ e ∷ after))
    → bytes_eq k (key_of e) ≡ false
key-behind [] e after k (h, hs) = h
key-behind (b ∷ before) e after k (h, hs) = key-behind before e after k hs

-- where keys are distinct, an entry's key doesn't stand before it
key-once : (before : List EntryCst) (e : EntryCst) (after : List EntryCst)
    → IsDistinct bytes_eq (keys_in (before ++ e ∷ after)) → Contains (keys_in before) (key_of e)
    → ⊥
unfolding IsDistinct
key-once [] e after distinct has = contains-nil (key_of e) has
key-once (b ∷ before) e after (apart, distinct) has =
    elim (contains-cons (key_of b) (keys_in before) (key_of e) has) [
      | inl same ↦
          let other : bytes_eq (key_of b) (key_of e) ≡ false =
          key-behind before e after (key_of b) apart in
          let itself : bytes_eq (key_of e) (key_of e) ≡ true = eq-itself (key_of e) in
          let there : bytes_eq (key_of e) (key_of e) ≡ false =
          subst (λ (k : Text). bytes_eq k (key_of e) ≡ false) same other in
          absurd (cc)
      | inr later ↦ key-once before e after distinct later
    ]

module _ (loaded : Loaded) (al : Aliases) where
  -- the tree means a good value
  pub record Meant (tree : ValueCst) : Type 0 where
    pub value : Value
    pub means : Means loaded.values loaded.tests loaded.types al tree value

  -- ---- types

  trees-meant : (trees : List ValueCst) (types : List Value) → SpellTypes al trees types
      → AllByRecursion (IsGoodType loaded) types → AllByRecursion Meant trees
  trees-meant [] types e h = tt
  trees-meant (c ∷ trees) [] e h = absurd (cc)
  trees-meant (c ∷ trees) (t ∷ types) e (h, hs) =
      let first : value_of al c ≡ Some t = cc in
      let rest : SpellTypes al trees types = cc in (
        record { value = t; means = record { spells = first; good = h.good } },
        trees-meant trees types rest hs,
      )

  -- the types of arguments
  arguments-meant : (xs : List ArgCst) (types : List Value)
      → map (λ (x : ArgCst). value_of al x.ty) xs ≡ map Some types
      → AllByRecursion (IsGoodType loaded) types
      → AllByRecursion Meant (map (λ (x : ArgCst). x.ty) xs)
  arguments-meant [] types e h = tt
  arguments-meant (x ∷ xs) [] e h = absurd (cc)
  arguments-meant (x ∷ xs) (t ∷ types) e (h, hs) =
      let first : value_of al x.ty ≡ Some t = cc in
      let rest : map (λ (x : ArgCst). value_of al x.ty) xs ≡ map Some types = cc in (
        record { value = t; means = record { spells = first; good = h.good } },
        arguments-meant xs types rest hs,
      )

  -- those of blocks
  abbrev spelled_blocks : List BlockCst → List (List (Option Value))
  spelled_blocks bs =
      map (λ b. map (λ (x : ArgCst). value_of al x.ty) (out-BlockCst b).args) bs

  blocks-meant : (bs : List BlockCst) (types : List (List Value))
      → spelled_blocks bs ≡ map (map Some) types
      → AllByRecursion (AllByRecursion (IsGoodType loaded)) types
      → AllByRecursion Meant (blocks_types bs)
  blocks-meant [] types e h = tt
  blocks-meant (b ∷ bs) [] e h = absurd (cc)
  blocks-meant (b ∷ bs) (ts ∷ types) e (h, hs) =
      let first : map (λ (x : ArgCst). value_of al x.ty) (out-BlockCst b).args ≡ map Some ts =
      cc in
      let rest : spelled_blocks bs ≡ map (map Some) types = cc in
      all-joined Meant (block_types b) (blocks_types bs)
      (arguments-meant (out-BlockCst b).args ts first h) (blocks-meant bs types rest hs)

  -- those of regions
  regions-meant : (k : ℕ) (rs : List RegionCst) (types : List (List (List Value)))
      → map (argument_types al) rs ≡ map (map (map Some)) types
      → InEach (IsGoodType loaded) types
      → AllByRecursion Meant (told_values (region_facts k rs))
  regions-meant k [] types e h = tt
  regions-meant k (r ∷ rs) [] e h = absurd (cc)
  regions-meant k (r ∷ rs) (ts ∷ types) e (h, hs) =
      let first : argument_types al r ≡ map (map Some) ts = cc in
      let rest : map (argument_types al) rs ≡ map (map (map Some)) types = cc in
      all-joined Meant (blocks_types (out-RegionCst r).blocks)
      (told_values (region_facts (suc k) rs))
      (blocks-meant (out-RegionCst r).blocks ts first h) (regions-meant (suc k) rs types rest hs)

  -- successors tell no value
  successors-meant : (k : ℕ) (ss : List NameCst) (facts : List Fact)
      → AllByRecursion Meant (told_values facts)
      → AllByRecursion Meant (told_values (successor_facts k ss ++ facts))
  successors-meant k [] facts h = h
  successors-meant k (s ∷ ss) facts h = successors-meant (suc k) ss facts h

  -- ---- entries

  -- what a key has is what its entry spells
  abbrev Found : List EntryCst → EntryCst → Type 0
  Found all e = attr_at (seen_in al all) (key_of e) ≡ Some (entry_seen al e).seen.value

  found-behind : (b : EntryCst) (all es : List EntryCst)
      → AllByRecursion (λ y. bytes_eq (key_of b) y ≡ false) (keys_in es)
      → AllByRecursion (Found all) es → AllByRecursion (Found (b ∷ all)) es
  found-behind b all [] other h = tt
  found-behind b all (e ∷ es) (o, other) (h, hs) = (rw o h, found-behind b all es other hs)

  found-each : (es : List EntryCst) → IsDistinct bytes_eq (keys_in es)
      → AllByRecursion (Found es) es
  unfolding IsDistinct
  found-each [] distinct = tt
  found-each (e ∷ es) (apart, distinct) =
      (rw (eq-itself (key_of e)) refl, found-behind e es es apart (found-each es distinct))

  -- the value of an entry, where it has one
  entry-meant : (e : EntryCst) (x : Option Value)
      → option_map Some x ≡ Some (entry_seen al e).seen.value
      → ((v : Value) → x ≡ Some v → IsGood loaded v)
      → AllByRecursion Meant (if_there (out-EntryCst e).value)
  entry-meant e x is good = go (out-EntryCst e).value (seen-entry al e) x is good
    where
      go : (o : Option ValueCst)
          → entry_seen al e ≡ seen_entry (out-EntryCst e).place (out-EntryCst e).key
          (option_map (seen al) o)
          → (x : Option Value) → option_map Some x ≡ Some (entry_seen al e).seen.value
          → ((v : Value) → x ≡ Some v → IsGood loaded v) → AllByRecursion Meant (if_there o)
      go None same x is good = tt
      go (Some c) same None is good = absurd (cc)
      go (Some c) same (Some w) is good =
          let there : (entry_seen al e).seen.value ≡ value_of al c =
          ap (λ (s : EntrySeen). s.seen.value) same in
          let spelled : Some w ≡ (entry_seen al e).seen.value =
          some-same (Some w) (entry_seen al e).seen.value is in (
            record {
              value = w;
              means = record { spells = sym (spelled ∙ there); good = good w refl };
            },
            tt,
          )

  -- the values of entries, where each key has a good value
  module _ (attrs : Attrs)
      (good : (key : Text) (v : Value) → attr_at attrs key ≡ Some v → IsGood loaded v) where
    entries-meant : (all es : List EntryCst)
        → ((key : Text) → attr_at (seen_in al all) key ≡ option_map Some (attr_at attrs key))
        → AllByRecursion (Found all) es → AllByRecursion Meant (entries_values es)
    entries-meant all [] same h = tt
    entries-meant all (e ∷ es) same (h, hs) =
        all-joined Meant (if_there (out-EntryCst e).value) (entries_values es)
        (entry-meant e (attr_at attrs (key_of e)) (sym (same (key_of e)) ∙ h)
        (λ v is. good (key_of e) v is))
        (entries-meant all es same hs)

  -- ---- what a form tells

  -- all values that the form tells mean good values
  pub told-meant : (v : FormSeen) (o : Operation) → FormShows al v o
      → AllByRecursion (IsGoodType loaded) o.operands
      → AllByRecursion (IsGoodType loaded) o.results
      → ((key : Text) (w : Value) → attr_at o.attrs key ≡ Some w → IsGood loaded w)
      → InEach (IsGoodType loaded) o.regions
      → AllByRecursion Meant (told_values (facts_in no_forms v))
  told-meant (FormCst-F.Custom k) o shows operands results attrs arguments = tt
  told-meant (FormCst-F.Generic g) o shows operands results attrs arguments =
      all-joined Meant (out-GenericCst g).inputs _
      (trees-meant (out-GenericCst g).inputs o.operands shows.inputs operands)
      (all-joined Meant (out-GenericCst g).outputs _
      (trees-meant (out-GenericCst g).outputs o.results shows.outputs results)
      (all-joined Meant (entries_values ((out-GenericCst g).props ++ (out-GenericCst g).attrs)) _
      (entries-meant o.attrs attrs ((out-GenericCst g).props ++ (out-GenericCst g).attrs)
      ((out-GenericCst g).props ++ (out-GenericCst g).attrs) shows.attrs
      (found-each ((out-GenericCst g).props ++ (out-GenericCst g).attrs) shows.distinct))
      (successors-meant 0 (out-GenericCst g).successors
      (region_facts 0 (out-GenericCst g).regions)
      (regions-meant 0 (out-GenericCst g).regions o.regions shows.regions arguments))))

  -- no key stands twice
  pub keys-clean : (v : FormSeen) (o : Operation) → FormShows al v o → (f : Fault)
      → IsKeyFault (hides_in no_forms v).keys (dict_in (facts_in no_forms v)) f → ⊥
  keys-clean (FormCst-F.Custom k) o shows f x = absurd shows
  keys-clean (FormCst-F.Generic g) o shows f x = elim x.wrong [
    | inl has ↦ key-once x.before x.entry x.after
        (subst (λ (es : List EntryCst). IsDistinct bytes_eq (keys_in es)) x.cut shows.distinct)
        has
    | inr hidden ↦ absurd (cc)
  ]

  -- no number is shown alone
  abbrev NoNumber : Fact → Type 0
  NoNumber (number_is key kind item) = ⊥
  NoNumber _ = Unit {0}

  successors-numberless : (k : ℕ) (ss : List NameCst)
      → AllByRecursion NoNumber (successor_facts k ss)
  successors-numberless k [] = tt
  successors-numberless k (s ∷ ss) = (tt, successors-numberless (suc k) ss)

  regions-numberless : (k : ℕ) (rs : List RegionCst) → AllByRecursion NoNumber (region_facts k rs)
  regions-numberless k [] = tt
  regions-numberless k (r ∷ rs) = (tt, regions-numberless (suc k) rs)

  numberless : (v : FormSeen) → AllByRecursion NoNumber (facts_in no_forms v)
  numberless (FormCst-F.Custom k) = tt
  numberless (FormCst-F.Generic g) = (
    tt,
    (
      tt,
      (
        tt,
        (
          tt,
          all-joined NoNumber (successor_facts 0 (out-GenericCst g).successors)
              (region_facts 0 (out-GenericCst g).regions)
              (successors-numberless 0 (out-GenericCst g).successors)
              (regions-numberless 0 (out-GenericCst g).regions),
        ),
      ),
    ),
  )

  pub numbers-clean : (v : FormSeen) (f : Fault) → IsNumberFault (facts_in no_forms v) f → ⊥
  numbers-clean v f x =
      one-of NoNumber (facts_in no_forms v) (number_is x.key x.kind (Some x.item)) (numberless v)
      x.told

-- ---- attributes of an operation

-- what a key has is one of the values
pub attr-good : (G : Value → Type 0) (keys : List Text) (values : List Value)
    → AllByRecursion G values → (key : Text) (w : Value) → attr_at (zip keys values) key ≡ Some w
    → G w
attr-good G [] values h key w is = absurd (cc)
attr-good G (k ∷ keys) [] h key w is = absurd (cc)
attr-good G (k ∷ keys) (v ∷ values) (h, hs) key w is =
    go (bytes_eq k key) refl is (attr-good G keys values hs key w)
  where
    go : (b : Bool) → bytes_eq k key ≡ b → attr_at (zip (k ∷ keys) (v ∷ values)) key ≡ Some w
        → (attr_at (zip keys values) key ≡ Some w → G w) → G w
    go true same is later =
        let here : attr_at (zip (k ∷ keys) (v ∷ values)) key ≡ Some v = rw same refl in
        subst G (some-same v w (sym here ∙ is)) h
    go false other is later =
        let there : attr_at (zip (k ∷ keys) (v ∷ values)) key ≡ attr_at (zip keys values) key =
        rw other refl in
        later (sym there ∙ is)

-- ---- aliases

module _ (loaded : Loaded) where
  abbrev g : Ground
  g = ground_of loaded

  -- where there is none, none has a bad value
  pub none-good : HaveGoodValues g no_aliases
  none-good = record { each = λ is_type name v is. absurd (cc) }

  -- with one more that has a good value
  with-good : (al : Aliases) (x : AliasCst) (v : Value) → HaveGoodValues g al
      → Means loaded.values loaded.tests loaded.types al x.value v
      → HaveGoodValues g (with_value al x)
  with-good al x v good means = record {
    each = λ is_type name w is.
        go is_type name w (same_kind x.is_type is_type && bytes_eq x.name name) refl is;
  }
    where
      go : (is_type : Bool) (name : Text) (w : Value) (b : Bool)
          → (same_kind x.is_type is_type && bytes_eq x.name name) ≡ b
          → cond b (value_of al x.value) (al is_type name) ≡ Some w → IsGood loaded w
      go is_type name w true same is =
          let one : Some v ≡ Some w = sym means.spells ∙ is in
          subst (IsGood loaded) (some-same v w one) means.good
      go is_type name w false other is = good.each is_type name w is

  -- all aliases of a file have good values
  pub aliases-good : (al : Aliases) (xs : List AliasCst) → HaveGoodValues g al
      → AreAliases loaded.values loaded.tests loaded.types al xs
      → HaveGoodValues g (values_under al xs)
  aliases-good al [] good h = good
  aliases-good al (x ∷ xs) good (new, (v, means), h) =
      aliases-good (with_value al x) xs (with-good al x v good means) h

  -- and the value of each has no fault under those before it
  pub alias-clean : (al : Aliases) (before : List AliasCst) (x : AliasCst) (after : List AliasCst)
      → HaveGoodValues g al
      → AreAliases loaded.values loaded.tests loaded.types al (before ++ x ∷ after) → (f : Fault)
      → IsFault loaded.values loaded.tests loaded.types (values_under al before) 1 x.value f → ⊥
  alias-clean al [] x after good (new, (v, means), h) = means-clean good x.value v means
  alias-clean al (b ∷ before) x after good (new, (v, means), h) =
      alias-clean (with_value al b) before x after (with-good al b v good means) h
