-- Keys that stand twice, and entries whose values are judged.
use Rattle.std.proofs.Common.{◌≡◌, ◌≢◌, ◌<◌, ◌≤◌, ◌↔◌, ◌⊎◌, inl, inr, ℕ, zero, suc, ◌+◌, Bool, true}
use Rattle.std.proofs.Common.{false, IsTrue, is_some, Bor, arith, take, get_or}
use Rattle.std.proofs.Common.{List, [], ◌∷◌, ◌++◌, map, length, zip, Contains}
use Rattle.std.proofs.Common.{refl, sym, ◌∙◌, ap, subst, append_assoc}
use Rattle.std.proofs.lemmas.List.{length-map, map-append, take_all, take_more}
use Rattle.std.proofs.lemmas.Option.{slice_get-map, slice_get-get_or}
use Rattle.std.specs.Slice.{IsItemAt}
use Rattle.std.specs.Prelude.{option_map, slice_get}
use Rattle.std.specs.declared.option.Option.{Option}
use Rattle.std.specs.declared.option.Option.TheVariants.{Some, None}
use Rattle.attr_value.specs.declared.head.ValueId.{ValueId}
use Rattle.attr_value.specs.Ids.{kids_at, AreKnown}
use Rattle.attr_value.specs.Values.{Value, list_of}
use Rattle.first_fault.specs.declared.fault.Fault.{Fault}
use Rattle.first_fault.specs.Firsts.{earlier_of, IsFirst}
use Rattle.first_fault.proofs.Firsts.{earlier_of-both-none}
use Rattle.generic_syntax.specs.declared.cst.EntryCst.{EntryCst, out-EntryCst}
use Rattle.ir_lexer.specs.Spelling.{Text}
use Rattle.value_meaning.specs.declared.dict.Entry.{Entry}
use Rattle.value_meaning.specs.declared.judged.Kids.{Kids}
use Rattle.value_meaning.specs.Dicts.{keyed}
use Rattle.value_meaning.specs.Entered.{keys_of, seen_keys, seen_values, entry_values}
use Rattle.value_meaning.specs.Entered.{IsFirstRepeat, AreKeyed, AreGoodEntries, AreRightEntries}
use Rattle.value_meaning.specs.Faults.{IsFaultAmong}
use Rattle.value_meaning.specs.Judging.{Ground, AreIdsOf, AreJudged}
use Rattle.value_meaning.specs.Keys.{HasRepeat}
use Rattle.value_meaning.specs.Meaning.{Aliases, EntrySeen, Seen, entries_marks, entry_seen, seen, seen_entry}
use Rattle.value_meaning.proofs.Among.{first-nil}
use Rattle.value_meaning.proofs.EntryFaults.{first-entries, first-key, first-keys, first-other, repeated}
use Rattle.value_meaning.proofs.Gathering.{map-push}
use Rattle.value_meaning.proofs.KidAt.{lent}
use Rattle.value_meaning.proofs.Trees.{seen-entry}

-- ---- keys that stand twice

-- a cut of a list and one more is at the last, or one of the list
pub cut-push : {X : Type 0} (xs front : List X) (last x : X) (after : List X)
    → xs ++ last ∷ [] ≡ front ++ x ∷ after
    → ((rest : List X) × (xs ≡ front ++ x ∷ rest)) ⊎ ((xs ≡ front) × (last ≡ x))
cut-push [] [] last x after e = inr (refl, cc)
cut-push [] (f ∷ []) last x after e = absurd (cc)
cut-push [] (f ∷ h ∷ fs) last x after e = absurd (cc)
cut-push (y ∷ ys) [] last x after e =
    let same : y ≡ x = cc in inl (ys, ap (λ z. z ∷ ys) same)
cut-push {X = X} (y ∷ ys) (f ∷ fs) last x after e = go (cut-push ys fs last x after (cc)) (cc)
  where
    go : ((rest : List X) × (ys ≡ fs ++ x ∷ rest)) ⊎ ((ys ≡ fs) × (last ≡ x)) → y ≡ f
        → ((rest : List X) × (y ∷ ys ≡ (f ∷ fs) ++ x ∷ rest)) ⊎ ((y ∷ ys ≡ f ∷ fs) × (last ≡ x))
    go (inl c) same = inl (c.0, ap (λ z. z ∷ ys) same ∙ ap (λ l. f ∷ l) c.1)
    go (inr c) same = inr (ap (λ z. z ∷ ys) same ∙ ap (λ l. f ∷ l) c.0, c.1)

-- of keys and one more, one stands twice among the others, or the last stands before
pub repeat-push : (keys : List Text) (key : Text) → HasRepeat (keys ++ key ∷ [])
    → HasRepeat keys ⊎ Contains keys key
repeat-push keys key r = go (cut-push keys r.before_it key r.key r.after r.cut)
  where
    go : ((rest : List Text) × (keys ≡ r.before_it ++ r.key ∷ rest))
        ⊎ ((keys ≡ r.before_it) × (key ≡ r.key))
        → HasRepeat keys ⊎ Contains keys key
    go (inl c) = inl (record {
      before_it = r.before_it;
      key = r.key;
      after = c.0;
      cut = c.1;
      among = r.among;
    })
    go (inr c) = inr (subst (λ ks. Contains ks key) (sym c.0)
        (subst (λ k. Contains r.before_it k) (sym c.1) r.among))

-- a key that stands twice still does, with one more
pub repeat-more : (keys : List Text) (key : Text) → HasRepeat keys → HasRepeat (keys ++ key ∷ [])
repeat-more keys key r = record {
  before_it = r.before_it;
  key = r.key;
  after = r.after ++ key ∷ [];
  cut = ap (λ ks. ks ++ key ∷ []) r.cut ∙ append_assoc r.before_it (r.key ∷ r.after) (key ∷ []);
  among = r.among;
}

-- a key that stands before stands twice
pub repeat-last : (keys : List Text) (key : Text) → Contains keys key
    → HasRepeat (keys ++ key ∷ [])
repeat-last keys key among = record {
  before_it = keys;
  key = key;
  after = [];
  cut = refl;
  among = among;
}

-- ---- the first of them

-- the earlier of something and nothing
earlier-none : (a : Option Fault) → earlier_of a None ≡ a
earlier-none None = refl
earlier-none (Some f) = refl

-- no key stands twice among none
pub repeat-none : IsFirstRepeat [] None
repeat-none = record {
  first = λ g. first-nil g.table g.tests g.types;
  none = λ e r. elim r.before_it as (λ b. [] ≡ b ++ r.key ∷ r.after → ⊥) [
    | [] ↦ λ no. absurd (cc)
    | (k ∷ ks) ↦ λ no. absurd (cc)
  ] r.cut;
  some = λ no. absurd (no refl);
}

module _ (es : List EntrySeen) (e : EntrySeen) (first : Option Fault)
    (x : IsFirstRepeat es first) where
  keys-all : seen_keys (es ++ e ∷ []) ≡ seen_keys es ++ e.key ∷ []
  keys-all = map-push (λ d. d.key) es e

  -- one more, whose key stands before
  pub repeat-again : Contains (seen_keys es) e.key
      → IsFirstRepeat (es ++ e ∷ []) (earlier_of first (Some (repeated e.place)))
  repeat-again among = record {
    first = λ g. first-keys g es e first (Some (repeated e.place)) (x.first g)
        (first-key g (seen_keys es) e among);
    none = λ no.
        let both = (earlier_of-both-none first (Some (repeated e.place)) no).1 in absurd (cc);
    some = λ no. subst HasRepeat (sym keys-all) (repeat-last (seen_keys es) e.key among);
  }

  -- one more, whose key doesn't
  pub repeat-other : ¬ Contains (seen_keys es) e.key → IsFirstRepeat (es ++ e ∷ []) first
  repeat-other new = record {
    first = λ g. subst (IsFirst (IsFaultAmong g.table g.tests g.types _)) (earlier-none first)
        (first-keys g es e first None (x.first g) (first-other g (seen_keys es) e new));
    none = λ no r. elim (repeat-push (seen_keys es) e.key (subst HasRepeat keys-all r)) [
      | inl earlier ↦ x.none no earlier
      | inr among ↦ new among
    ];
    some = λ no.
        subst HasRepeat (sym keys-all) (repeat-more (seen_keys es) e.key (x.some no));
  }

-- ---- keys and ids

-- the key and the place that are seen of an entry
pub key-seen : (al : Aliases) (e : EntryCst) → ((entry_seen al e).key ≡ (out-EntryCst e).key)
    × ((entry_seen al e).place ≡ (out-EntryCst e).place)
key-seen al e =
    let both = go (out-EntryCst e).place (out-EntryCst e).key
    (option_map (seen al) (out-EntryCst e).value) in
    (ap (λ x. x.key) (seen-entry al e) ∙ both.0, ap (λ x. x.place) (seen-entry al e) ∙ both.1)
  where
    go : (place : ℕ) (key : Text) (v : Option Seen)
        → ((seen_entry place key v).key ≡ key) × ((seen_entry place key v).place ≡ place)
    go place key None = (refl, refl)
    go place key (Some v) = (refl, refl)

-- the keys that are seen of entries are theirs
pub keys-seen : (al : Aliases) (es : List EntryCst) → seen_keys (map (entry_seen al) es) ≡ keys_of es
keys-seen al [] = refl
keys-seen al (e ∷ es) =
    ap (λ k. k ∷ seen_keys (map (entry_seen al) es)) (key-seen al e).0
    ∙ ap (λ ks. (out-EntryCst e).key ∷ ks) (keys-seen al es)

-- what is made of a list as far as the next item
pub map-next : {A B : Type 0} (f : A → B) (xs : List A) (i : ℕ) (x : A) → i < length xs
    → x ≡ get_or xs i x → map f (take (i + 1) xs) ≡ map f (take i xs) ++ f x ∷ []
map-next f xs i x inside at =
    ap (map f) (take_more xs i x inside ∙ ap (λ it. take i xs ++ it ∷ []) (sym at))
    ∙ map-append f (take i xs) (x ∷ [])

module _ (al : Aliases) (es : List EntryCst) (i : ℕ) (e : EntryCst) (inside : i < length es)
    (at : e ≡ get_or es i e) (first : Option Fault) (known : Bool)
    (x : IsFirstRepeat (map (entry_seen al) (take i es)) first)
    (is : IsTrue known ↔ Contains (keys_of (take i es)) (out-EntryCst e).key) where
  -- the entries as far as this one
  so-far : map (entry_seen al) (take (i + 1) es) ≡ map (entry_seen al) (take i es) ++ entry_seen al e ∷ []
  so-far = map-next (entry_seen al) es i e inside at

  -- its key stands before
  pub next-again : known ≡ true
      → IsFirstRepeat (map (entry_seen al) (take (i + 1) es))
      (earlier_of first (Some (repeated (out-EntryCst e).place)))
  next-again stands =
      subst (λ (l : List EntrySeen).
      IsFirstRepeat l (earlier_of first (Some (repeated (out-EntryCst e).place)))) (sym so-far)
      (subst (λ (p : ℕ). IsFirstRepeat (map (entry_seen al) (take i es) ++ entry_seen al e ∷ [])
      (earlier_of first (Some (repeated p)))) (key-seen al e).1
      (repeat-again (map (entry_seen al) (take i es)) (entry_seen al e) first x
      (subst (λ (k : Text). Contains (seen_keys (map (entry_seen al) (take i es))) k)
      (sym (key-seen al e).0)
      (subst (λ (ks : List Text). Contains ks (out-EntryCst e).key) (sym (keys-seen al (take i es)))
      (is.0 stands)))))

  -- its key doesn't
  pub next-other : known ≡ false → IsFirstRepeat (map (entry_seen al) (take (i + 1) es)) first
  next-other new =
      subst (λ (l : List EntrySeen). IsFirstRepeat l first) (sym so-far)
      (repeat-other (map (entry_seen al) (take i es)) (entry_seen al e) first x
      (λ among. absurd (no-true known new (is.1
      (subst (λ (ks : List Text). Contains ks (out-EntryCst e).key) (keys-seen al (take i es))
      (subst (λ (k : Text). Contains (seen_keys (map (entry_seen al) (take i es))) k)
      (key-seen al e).0 among))))))
    where
      no-true : (b : Bool) → b ≡ false → b ≡ true → ⊥
      no-true true e is = absurd (cc)
      no-true false e is = absurd (cc)

-- ---- keys beside ids

zip-next : (ks : List Text) (ids : List ValueId) (i : ℕ) (k : Text) (id : ValueId)
    → slice_get ks i ≡ Some k → slice_get ids i ≡ Some id
    → zip (take (suc i) ks) (take (suc i) ids) ≡ zip (take i ks) (take i ids) ++ (k, id) ∷ []
zip-next [] ids i k id a b = absurd (cc)
zip-next (x ∷ ks) [] i k id a b = absurd (cc)
zip-next (x ∷ ks) (y ∷ ids) zero k id a b =
    let key : x ≡ k = cc in
    let same : y ≡ id = cc in
    ap (λ z. (z, y) ∷ []) key ∙ ap (λ z. (k, z) ∷ []) same
zip-next (x ∷ ks) (y ∷ ids) (suc i) k id a b = ap (λ l. (x, y) ∷ l) (zip-next ks ids i k id a b)

zip-past : (ks : List Text) (ids : List ValueId) (i : ℕ) → length ks ≤ i ⊎ length ids ≤ i
    → zip (take i ks) (take i ids) ≡ zip ks ids
zip-past [] ids i past = ap (λ l. zip l (take i ids)) (take_all i [] (omega (arith)))
zip-past (k ∷ ks) [] zero past = refl
zip-past (k ∷ ks) [] (suc i) past = refl
zip-past (k ∷ ks) (id ∷ ids) zero (inl past) = absurd (omega (arith, past))
zip-past (k ∷ ks) (id ∷ ids) zero (inr past) = absurd (omega (arith, past))
zip-past (k ∷ ks) (id ∷ ids) (suc i) (inl past) =
    ap (λ l. (k, id) ∷ l) (zip-past ks ids i (inl (omega (arith, past))))
zip-past (k ∷ ks) (id ∷ ids) (suc i) (inr past) =
    ap (λ l. (k, id) ∷ l) (zip-past ks ids i (inr (omega (arith, past))))

-- the first entries' keys, each with the id at its place
pub record ArePaired (es : List EntryCst) (ids : List ValueId) (i : ℕ) (pairs : List Entry)
    : Type 0 where
  pub within : i ≤ length ids
  pub are : keyed pairs ≡ zip (take i (keys_of es)) (take i ids)

module _ (es : List EntryCst) (ids : List ValueId) where
  pub paired-none : (pairs : List Entry) → pairs ≡ [] → ArePaired es ids 0 pairs
  paired-none pairs none = record {
    within = omega (arith);
    are = ap keyed none;
  }

  pub paired-next : (i : ℕ) (pairs next : List Entry) (e : EntryCst) (k : ℕ) (v : Bor ValueId)
      (entry : Entry) → ArePaired es ids i pairs → i < length es → e ≡ get_or es i e
      → k ≡ i → IsItemAt ids k (Some v) → next ≡ pairs ++ entry ∷ []
      → entry.key.now ≡ (out-EntryCst e).key → entry.value ≡ v.now → ArePaired es ids (i + 1) next
  paired-next i pairs next e k v entry x inside at here it is key value = record {
    within = omega (arith, it.3.0, here);
    are =
        ap keyed is
        ∙ map-append (λ (d : Entry). (d.key.now, d.value)) pairs (entry ∷ [])
        ∙ ap (λ l. l ++ (entry.key.now, entry.value) ∷ []) x.are
        ∙ ap (λ t. zip (take i (keys_of es)) (take i ids) ++ (t, entry.value) ∷ []) key
        ∙ ap (λ t. zip (take i (keys_of es)) (take i ids) ++ ((out-EntryCst e).key, t) ∷ []) value
        ∙ sym (zip-next (keys_of es) ids i (out-EntryCst e).key v.now key-here
        (ap (slice_get ids) (sym here) ∙ lent ids k v it))
        ∙ ap (λ j. zip (take j (keys_of es)) (take j ids)) next-is;
  }
    where
      next-is : suc i ≡ i + 1
      next-is = omega (arith)

      key-here : slice_get (keys_of es) i ≡ Some (out-EntryCst e).key
      key-here =
          slice_get-map (λ d. (out-EntryCst d).key) es i
          ∙ ap (option_map (λ d. (out-EntryCst d).key))
          (slice_get-get_or es i e inside ∙ ap Some (sym at))

  pub paired-all : (i : ℕ) (pairs : List Entry) → ArePaired es ids i pairs
      → length es ≤ i ⊎ length ids ≤ i → keyed pairs ≡ zip (keys_of es) ids
  paired-all i pairs x past = x.are ∙ zip-past (keys_of es) ids i (go past)
    where
      go : length es ≤ i ⊎ length ids ≤ i → length (keys_of es) ≤ i ⊎ length ids ≤ i
      go (inl few) = inl (omega (arith, few, length-map es (λ d. (out-EntryCst d).key)))
      go (inr few) = inr few

-- what isn't something is nothing
pub not-some : (a : Option Fault) → is_some a ≡ false → a ≡ None
not-some None e = refl
not-some (Some f) e = absurd (cc)

-- pairs' ids are known where all ids are
pub zip-known : (n : ℕ) (ks : List Text) (ids : List ValueId) → AreKnown n ids
    → AreKnown n (map (λ p. p.1) (zip ks ids))
zip-known n [] ids known = tt
zip-known n (k ∷ ks) [] known = tt
zip-known n (k ∷ ks) (id ∷ ids) known = (known.0, zip-known n ks ids known.1)

-- keys and ids of one number are the halves of their pairs
zip-halves : (ks : List Text) (ids : List ValueId) → length ks ≡ length ids
    → (map (λ p. p.0) (zip ks ids) ≡ ks) × (map (λ p. p.1) (zip ks ids) ≡ ids)
zip-halves [] [] e = (refl, refl)
zip-halves [] (id ∷ ids) e = absurd (cc)
zip-halves (k ∷ ks) [] e = absurd (cc)
zip-halves (k ∷ ks) (id ∷ ids) e =
    let rest = zip-halves ks ids (cc) in
    (ap (λ l. k ∷ l) rest.0, ap (λ l. id ∷ l) rest.1)

-- entries that spell the values of ids are as many
ids-count : (table : List Value) (es : List EntrySeen) (ids : List ValueId)
    → entry_values es ≡ map Some (list_of (kids_at table ids)) → length (seen_keys es) ≡ length ids
ids-count table [] [] e = refl
ids-count table [] (id ∷ ids) e = absurd (cc)
ids-count table (d ∷ es) [] e = absurd (cc)
ids-count table (d ∷ es) (id ∷ ids) e = ap suc (ids-count table es ids (cc))

-- ---- entries

module _ (g : Ground) (n : ℕ) (es : List EntrySeen) (table : List Value) (k : Kids)
    (kids : AreJudged g n (seen_values es) table k) (repeat : Option Fault)
    (keys : IsFirstRepeat es repeat) where
  -- the first fault of entries
  pub entries-first : IsFirst (IsFaultAmong g.table g.tests g.types (entries_marks n [] es))
      (earlier_of repeat k.first)
  entries-first = first-entries g n es repeat k.first (keys.first g) kids.first

  -- where there is none, all is right
  pub entries-right : earlier_of repeat k.first ≡ None → AreRightEntries g n es
  entries-right e =
      let both = earlier_of-both-none repeat k.first e in
      record { all = kids.right both.1; distinct = keys.none both.0 }

  -- a value isn't good
  pub entries-bad : k.all_good ≡ false → ¬ AreGoodEntries g es
  entries-bad bad good = kids.none bad good.all

  -- a key stands twice
  pub entries-twice : repeat ≢ None → ¬ AreGoodEntries g es
  entries-twice some good = good.distinct (keys.some some)

  -- all are good, and no key stands twice
  pub entries-keyed : k.all_good ≡ true → repeat ≡ None
      → AreKeyed g es table (zip (seen_keys es) k.ids.items)
  entries-keyed all none =
      let ids = kids.some all in
      let halves = zip-halves (seen_keys es) k.ids.items (ids-count table es k.ids.items ids.spell) in
      record {
        keys = halves.0;
        ids = subst (AreIdsOf g (entry_values es) table) (sym halves.1) ids;
        distinct = keys.none none;
      }
