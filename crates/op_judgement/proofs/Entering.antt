-- Entries, one by one: the faults of keys and of values, and what the values are.
use Rattle.std.proofs.Common.{◌≡◌, ◌∙◌, ◌<◌, ◌⊎◌, inl, inr, ℕ, Bool, true, List, [], ◌∷◌, ◌++◌}
use Rattle.std.proofs.Common.{length, map, refl, sym, ap, subst, append_assoc, Contains, option_map}
use Rattle.std.proofs.lemmas.List.{map-append}
use Rattle.std.proofs.lemmas.Option.{get_or_from_slice_get}
use Rattle.grammar.specs.Looks.{is_among}
use Rattle.std.proofs.lemmas.List.Elements.{Contains-append_left, Contains-append_right}
use Rattle.std.proofs.lemmas.List.Elements.{Contains-append_cases}
use Rattle.std.specs.List.{AllByRecursion}
use Rattle.std.specs.declared.option.Option.{Option}
use Rattle.std.specs.declared.option.Option.TheVariants.{Some, None}
use Rattle.std.specs.declared.result.Result.{Result}
use Rattle.std.specs.declared.result.Result.TheVariants.{Ok, Err}
use Rattle.attr_uniquer.specs.Interned.{Interned}
use Rattle.attr_value.specs.declared.head.Head.TheVariants as h
use Rattle.attr_value.specs.declared.head.ValueId.{ValueId}
use Rattle.attr_value.specs.Ids.{at, AreKnown}
use Rattle.attr_value.specs.Values.{Value, none, value}
use Rattle.constraint_solver.specs.Grown.{Extends}
use Rattle.constraint_solver.proofs.Grows.{at-grows, known-grows}
use Rattle.dialect_registry.specs.Parts.{Among}
use Rattle.first_fault.specs.declared.fault.Fault.{Fault}
use Rattle.first_fault.specs.Firsts.{earlier_of, IsFirst}
use Rattle.first_fault.proofs.Firsts.{earlier_of-both-none, earlier_of-right-none, first-either}
use Rattle.first_fault.proofs.Firsts.{first-same}
use Rattle.generic_syntax.specs.declared.cst.EntryCst.{EntryCst, out-EntryCst}
use Rattle.generic_syntax.specs.declared.cst.ValueCst.{ValueCst}
use Rattle.ir_lexer.specs.Spelling.{Text}
use Rattle.module_faults.specs.OpFaults.{IsKeyFault, if_there}
use Rattle.module_meaning.specs.Says.{keys_in, seen_in}
use Rattle.module_meaning.specs.WholeModules.{Loaded, IsGood}
use Rattle.module_meaning.proofs.Places.{all-joined}
use Rattle.op_judgement.specs.declared.entries.Entries.{Entries}
use Rattle.op_judgement.specs.Entered.{AreEntered, AreSeen, IsEntryFault, IsEntryValue}
use Rattle.op_judgement.specs.Entered.{IsFaultOfEntries, IsRepeat, IsRightEntry, entry_trees}
use Rattle.op_judgement.specs.Found.{IsFound, IsTreeFault}
use Rattle.op_judgement.proofs.Finding.{known-push}
use Rattle.value_meaning.specs.declared.code.TheConstants.{KEY_REPEATED}
use Rattle.value_meaning.specs.Dicts.{keyed}
use Rattle.value_meaning.specs.Judging.{Ground}
use Rattle.value_meaning.specs.Keys.{HasSeen}
use Rattle.value_meaning.specs.Meaning.{Aliases, entry_seen, leaf, seen, seen_entry, value_of}
use Rattle.value_meaning.proofs.Among.{contains-head, contains-nil, contains-one}
use Rattle.value_meaning.proofs.Entering.{cut-push}
use Rattle.value_meaning.proofs.Made.{good-leaf}
use Rattle.value_meaning.proofs.Trees.{seen-entry}

-- ---- the value of an entry

module _ (al : Aliases) (e : EntryCst) where
  -- that of its tree
  entry-some : (tree : ValueCst) → (out-EntryCst e).value ≡ Some tree
      → (entry_seen al e).seen.value ≡ value_of al tree
  entry-some tree is =
      ap (λ x. x.seen.value) (seen-entry al e)
      ∙ ap (λ (v : Option ValueCst). (seen_entry (out-EntryCst e).place (out-EntryCst e).key
      (option_map (seen al) v)).seen.value) is

  -- the unit attribute
  entry-none : (out-EntryCst e).value ≡ None → (entry_seen al e).seen.value ≡ Some (leaf h.Unit)
  entry-none is =
      ap (λ x. x.seen.value) (seen-entry al e)
      ∙ ap (λ (v : Option ValueCst). (seen_entry (out-EntryCst e).place (out-EntryCst e).key
      (option_map (seen al) v)).seen.value) is

module _ (loaded : Loaded) (al : Aliases) (e : EntryCst) where
  -- the fault of a tree is that of its entry
  tree-fault : (tree : ValueCst) → (out-EntryCst e).value ≡ Some tree → (f : Fault)
      → IsTreeFault loaded al tree f → IsEntryFault loaded al e f
  tree-fault tree is f p =
      (tree, subst (λ v. Contains (if_there v) tree) (sym is) (contains-head tree []), p)

  fault-tree : (tree : ValueCst) → (out-EntryCst e).value ≡ Some tree → (f : Fault)
      → IsEntryFault loaded al e f → IsTreeFault loaded al tree f
  fault-tree tree is f (t, has, p) =
      let same : tree ≡ t =
      contains-one tree t (subst (λ v. Contains (if_there v) t) is has) in
      subst (λ (x : ValueCst). IsTreeFault loaded al x f) (sym same) p

  -- what is found of its tree is found of the entry
  pub tree-entry : (tree : ValueCst) → (out-EntryCst e).value ≡ Some tree → (now : List Value)
      → (found : Result ValueId Fault) → IsFound loaded al tree now found
      → IsEntryValue loaded al e now found
  tree-entry tree is now (Ok id) x = record {
    known = x.known;
    spells = entry-some al e tree is ∙ x.spells;
    good = x.good;
    right = λ f p. x.right f (fault-tree tree is f p);
  }
  tree-entry tree is now (Err f) x = first-same _ _ (Some f) (tree-fault tree is)
      (fault-tree tree is) x

  -- a key alone has the unit attribute
  pub unit-entry : (out-EntryCst e).value ≡ None → (old now : List Value) (id : ValueId)
      → id.0 < length now → Interned old now (value h.Unit none) id.0
      → IsRightEntry loaded al e now id
  unit-entry is old now id known interned =
      let here : at now id.0 ≡ value h.Unit none =
      get_or_from_slice_get now id.0 (value h.Unit none) _ interned.stands in
      record {
        known = known;
        spells = entry-none al e is ∙ ap Some (sym here);
        good = subst (IsGood loaded) (sym here)
            (good-leaf (record { table = loaded.values; tests = loaded.tests; types = loaded.types })
            h.Unit (record { count = refl; types = λ no. absurd (cc no); right = tt }) tt);
        right = λ f (t, has, p).
            absurd (contains-nil t (subst (λ v. Contains (if_there v) t) is has));
      }

-- ---- keys

-- keys of entries and one more
pub keys-push : (es : List EntryCst) (e : EntryCst)
    → keys_in (es ++ e ∷ []) ≡ keys_in es ++ (out-EntryCst e).key ∷ []
keys-push es e = map-append (λ x. (out-EntryCst x).key) es (e ∷ [])

module _ (es : List EntryCst) (e : EntryCst) (f : Fault) where
  -- a key at fault still is, with one entry more
  key-more : IsKeyFault [] es f → IsKeyFault [] (es ++ e ∷ []) f
  key-more x = record {
    before = x.before;
    entry = x.entry;
    after = x.after ++ e ∷ [];
    cut = ap (λ l. l ++ e ∷ []) x.cut ∙ append_assoc x.before (x.entry ∷ x.after) (e ∷ []);
    wrong = x.wrong;
    place = x.place;
    code = x.code;
  }

  -- the last one is, where its key stands before
  key-last : IsRepeat (keys_in es) e f → IsKeyFault [] (es ++ e ∷ []) f
  key-last x = record {
    before = es;
    entry = e;
    after = [];
    cut = refl;
    wrong = inl x.among;
    place = x.place;
    code = x.code;
  }

  -- and no others are
  key-split : IsKeyFault [] (es ++ e ∷ []) f → IsKeyFault [] es f ⊎ IsRepeat (keys_in es) e f
  key-split x = go (cut-push es x.before e x.entry x.after x.cut)
    where
      among : (w : Contains (keys_in x.before) (out-EntryCst x.entry).key
          ⊎ (is_among [] (out-EntryCst x.entry).key ≡ true))
          → Contains (keys_in x.before) (out-EntryCst x.entry).key
      among (inl has) = has
      among (inr never) = absurd (cc)

      go : ((rest : List EntryCst) × (es ≡ x.before ++ x.entry ∷ rest))
          ⊎ ((es ≡ x.before) × (e ≡ x.entry))
          → IsKeyFault [] es f ⊎ IsRepeat (keys_in es) e f
      go (inl c) = inl (record {
        before = x.before;
        entry = x.entry;
        after = c.0;
        cut = c.1;
        wrong = x.wrong;
        place = x.place;
        code = x.code;
      })
      go (inr c) = inr (record {
        among = subst (λ (d : EntryCst). Contains (keys_in es) (out-EntryCst d).key) (sym c.1)
            (subst (λ (l : List EntryCst). Contains (keys_in l) (out-EntryCst x.entry).key)
            (sym c.0) (among x.wrong));
        place = subst (λ (d : EntryCst). f.place ≡ (out-EntryCst d).place) (sym c.1) x.place;
        code = x.code;
      })

-- ---- entries

-- a key with the value that an entry spells, and with that of its id
abbrev pub pair_of : Aliases → EntryCst → Text × Option Value
pair_of al d = ((out-EntryCst d).key, (entry_seen al d).seen.value)

abbrev pub spelled : List Value → Text × ValueId → Text × Option Value
spelled table p = (p.0, Some (at table p.1.0))

-- what is seen stays so
pub seen-grow : (loaded : Loaded) (al : Aliases) (es : List EntryCst) (now new : List Value)
    (pairs : List (Text × ValueId)) → Extends now new → AreSeen loaded al es now pairs
    → AreSeen loaded al es new pairs
seen-grow loaded al es now new pairs grown x = record {
  known = known-grows grown (map (λ p. p.1) pairs) x.known;
  seen = x.seen ∙ sym (pairs-grow pairs x.known);
  good = good-grow pairs x.known x.good;
}
  where
    pairs-grow : (ps : List (Text × ValueId)) → AreKnown (length now) (map (λ p. p.1) ps)
        → map (spelled new) ps ≡ map (spelled now) ps
    pairs-grow [] known = refl
    pairs-grow (p ∷ ps) known =
        ap (λ v. (p.0, Some v) ∷ map (spelled new) ps) (at-grows grown p.1.0 known.0)
        ∙ ap (λ l. spelled now p ∷ l) (pairs-grow ps known.1)

    good-grow : (ps : List (Text × ValueId)) → AreKnown (length now) (map (λ p. p.1) ps)
        → AllByRecursion (λ p. IsGood loaded (at now p.1.0)) ps
        → AllByRecursion (λ p. IsGood loaded (at new p.1.0)) ps
    good-grow [] known good = tt
    good-grow (p ∷ ps) known good = (
      subst (IsGood loaded) (sym (at-grows grown p.1.0 known.0)) good.0,
      good-grow ps known.1 good.1,
    )

module _ (loaded : Loaded) (al : Aliases) (es : List EntryCst) (e : EntryCst) where
  -- the first fault of entries and one more
  pub first-entry : (a r v : Option Fault) → IsFirst (IsFaultOfEntries loaded al es) a
      → IsFirst (IsRepeat (keys_in es) e) r → IsFirst (IsEntryFault loaded al e) v
      → IsFirst (IsFaultOfEntries loaded al (es ++ e ∷ [])) (earlier_of (earlier_of a r) v)
  first-entry a r v x y z =
      first-same (λ f. (IsFaultOfEntries loaded al es f ⊎ IsRepeat (keys_in es) e f)
      ⊎ IsEntryFault loaded al e f) (IsFaultOfEntries loaded al (es ++ e ∷ []))
      (earlier_of (earlier_of a r) v) to back
      (first-either _ (IsEntryFault loaded al e) (earlier_of a r) v
      (first-either (IsFaultOfEntries loaded al es) (IsRepeat (keys_in es) e) a r x y) z)
    where
      to : (f : Fault) → (IsFaultOfEntries loaded al es f ⊎ IsRepeat (keys_in es) e f)
          ⊎ IsEntryFault loaded al e f → IsFaultOfEntries loaded al (es ++ e ∷ []) f
      to f (inl (inl (inl key))) = inl (key-more es e f key)
      to f (inl (inl (inr (d, has, p)))) =
          inr (d, Contains-append_left es (e ∷ []) d has, p)
      to f (inl (inr repeat)) = inl (key-last es e f repeat)
      to f (inr p) = inr (e, Contains-append_right es (e ∷ []) e (contains-head e []), p)

      back : (f : Fault) → IsFaultOfEntries loaded al (es ++ e ∷ []) f
          → (IsFaultOfEntries loaded al es f ⊎ IsRepeat (keys_in es) e f)
          ⊎ IsEntryFault loaded al e f
      back f (inl key) = elim (key-split es e f key) [
        | inl k ↦ inl (inl (inl k))
        | inr r ↦ inl (inr r)
      ]
      back f (inr (d, has, p)) = elim (Contains-append_cases es (e ∷ []) d has) [
        | inl has ↦ inl (inl (inr (d, has, p)))
        | inr has ↦
            inr (subst (λ (z : EntryCst). IsEntryFault loaded al z f)
            (sym (contains-one e d has)) p)
      ]

  -- what is seen of one more
  seen-push : (now new : List Value) (pairs : List (Text × ValueId)) (id : ValueId)
      → Extends now new → AreSeen loaded al es now pairs → IsRightEntry loaded al e new id
      → AreSeen loaded al (es ++ e ∷ []) new (pairs ++ ((out-EntryCst e).key, id) ∷ [])
  seen-push now new pairs id grown before one =
      let x = seen-grow loaded al es now new pairs grown before in
      let last : Text × ValueId = ((out-EntryCst e).key, id) in
      let ids : map (λ p. p.1) (pairs ++ last ∷ []) ≡ map (λ p. p.1) pairs ++ id ∷ [] =
      map-append (λ (p : Text × ValueId). p.1) pairs (last ∷ []) in
      record {
        known = subst (AreKnown (length new)) (sym ids)
            (known-push (length new) (map (λ p. p.1) pairs) id x.known one.known);
        seen = map-append (pair_of al) es (e ∷ [])
            ∙ ap (λ l. l ++ pair_of al e ∷ []) x.seen
            ∙ ap (λ v. map (spelled new) pairs ++ ((out-EntryCst e).key, v) ∷ []) one.spells
            ∙ sym (map-append (spelled new) pairs (last ∷ []));
        good = all-joined (λ (p : Text × ValueId). IsGood loaded (at new p.1.0)) pairs
            (last ∷ []) x.good (one.good, tt);
      }

  module _ (now new : List Value) (x y : Entries) (repeat : Option Fault) (grown : Extends now new)
      (before : AreEntered loaded al es now x)
      (seen : HasSeen (keys_in es ++ (out-EntryCst e).key ∷ []) y.seen)
      (repeated : IsFirst (IsRepeat (keys_in es) e) repeat) where
    keys-are : HasSeen (keys_in (es ++ e ∷ [])) y.seen
    keys-are = subst (λ ks. HasSeen ks y.seen) (sym (keys-push es e)) seen

    -- one more with a value
    pub entered-value : (id : ValueId) → IsRightEntry loaded al e new id
        → y.first ≡ earlier_of x.first repeat
        → keyed y.pairs.items ≡ keyed x.pairs.items ++ ((out-EntryCst e).key, id) ∷ []
        → AreEntered loaded al (es ++ e ∷ []) new y
    entered-value id one first pairs = record {
      seen = keys-are;
      first_is = subst (IsFirst (IsFaultOfEntries loaded al (es ++ e ∷ [])))
          (earlier_of-right-none (earlier_of x.first repeat) ∙ sym first)
          (first-entry x.first repeat None before.first_is repeated one.right);
      values = λ none.
          let both = earlier_of-both-none x.first repeat (sym first ∙ none) in
          subst (AreSeen loaded al (es ++ e ∷ []) new) (sym pairs)
          (seen-push now new (keyed x.pairs.items) id grown (before.values both.0) one);
    }

    -- one more with a fault
    pub entered-fault : (f : Fault) → IsFirst (IsEntryFault loaded al e) (Some f)
        → y.first ≡ earlier_of (earlier_of x.first repeat) (Some f)
        → AreEntered loaded al (es ++ e ∷ []) new y
    entered-fault f one first = record {
      seen = keys-are;
      first_is = subst (IsFirst (IsFaultOfEntries loaded al (es ++ e ∷ []))) (sym first)
          (first-entry x.first repeat (Some f) before.first_is repeated one);
      values = λ none.
          let both = (earlier_of-both-none (earlier_of x.first repeat) (Some f)
          (sym first ∙ none)).1 in
          absurd (cc);
    }

-- of no entries
pub entered-none : (loaded : Loaded) (al : Aliases) (now : List Value) (x : Entries)
    → HasSeen [] x.seen → x.pairs.items ≡ [] → x.first ≡ None → AreEntered loaded al [] now x
entered-none loaded al now x seen pairs first = record {
  seen = seen;
  first_is = subst (IsFirst (IsFaultOfEntries loaded al [])) (sym first) (λ f fault. none f fault);
  values = λ is. subst (AreSeen loaded al [] now) (sym (ap keyed pairs))
      (record { known = tt; seen = refl; good = tt });
}
  where
    no-cut : (before after : List EntryCst) (e : EntryCst) → [] ≡ before ++ e ∷ after → ⊥
    no-cut [] after e cut = absurd (cc)
    no-cut (b ∷ before) after e cut = absurd (cc)

    none : (f : Fault) → IsFaultOfEntries loaded al [] f → ⊥
    none f (inl key) = no-cut key.before key.after key.entry key.cut
    none f (inr (e, has, p)) = contains-nil e has

-- what is entered stays so
pub entered-grow : (loaded : Loaded) (al : Aliases) (es : List EntryCst) (now new : List Value)
    (x : Entries) → Extends now new → AreEntered loaded al es now x → AreEntered loaded al es new x
entered-grow loaded al es now new x grown e = record {
  seen = e.seen;
  first_is = e.first_is;
  values = λ none. seen-grow loaded al es now new (keyed x.pairs.items) grown (e.values none);
}
