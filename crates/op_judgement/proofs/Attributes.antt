-- Entries without a fault are attributes: by ascending key, each with the value that it spells.
use Rattle.std.proofs.Common.{◌≡◌, ◌∙◌, ℕ, Bool, true, false, List, [], ◌∷◌, ◌++◌, length, map}
use Rattle.std.proofs.Common.{inl, refl, sym, ap, subst, cond, Contains, bytes_eq, option_map, IfSome}
use Rattle.std.proofs.Common.{option_and_then}
use Rattle.std.proofs.Common.{append_assoc}
use Rattle.std.proofs.lemmas.List.{length-map}
use Rattle.std.proofs.lemmas.List.Elements.{Contains-append_left}
use Rattle.std.proofs.lemmas.List.Sorted.{IsPermutation-map}
use Rattle.std.proofs.lemmas.Slice.Eq.{bytes_eq-Decides}
use Rattle.std.specs.List.{AllByRecursion, IsDistinct, zip}
use Rattle.std.specs.declared.option.Option.{Option}
use Rattle.std.specs.declared.option.Option.TheVariants.{Some, None}
use Rattle.attr_value.specs.declared.head.ValueId.{ValueId}
use Rattle.attr_value.specs.Heads.{Ascend, text_lt}
use Rattle.attr_value.specs.Ids.{at, AreKnown}
use Rattle.attr_value.specs.Values.{Value}
use Rattle.dialect_defs.specs.Operations.{attr_at}
use Rattle.first_fault.specs.declared.fault.Fault.{Fault}
use Rattle.generic_syntax.specs.declared.cst.EntryCst.{EntryCst, out-EntryCst}
use Rattle.ir_lexer.specs.Spelling.{Text}
use Rattle.module_faults.specs.OpFaults.{IsKeyFault}
use Rattle.module_meaning.specs.Says.{keys_in, seen_in}
use Rattle.module_meaning.specs.WholeModules.{Loaded, IsGood}
use Rattle.op_judgement.specs.Entered.{AreSeen}
use Rattle.op_judgement.specs.Parts.{AreAttrs}
use Rattle.op_judgement.proofs.Entering.{pair_of, spelled}
use Rattle.op_verifier.specs.Seen.{attrs_seen, values_at}
use Rattle.value_meaning.specs.declared.code.TheConstants.{KEY_REPEATED}
use Rattle.value_meaning.specs.Keys.{HasRepeat}
use Rattle.value_meaning.specs.Meaning.{Aliases}
use Rattle.value_meaning.specs.Spelled.{sorted_entries, with_entry}
use Rattle.value_meaning.proofs.Among.{contains-head, contains-tail}
use Rattle.value_meaning.proofs.Permuted.{known-permuted}
use Rattle.value_meaning.proofs.Repeats.{sorted-none}
use Rattle.value_meaning.proofs.Sorted.{sorted-all, sorted-ascends, sorted-permutes}
use Rattle.value_meaning.proofs.TextOrder.{eq-itself}

-- ---- what stands at a key

-- what is made of what stands at a key
pub attr_at-map : {X Y : Type 0} (f : X → Y) (l : List (Text × X)) (key : Text)
    → attr_at (map (λ p. (p.0, f p.1)) l) key ≡ option_map f (attr_at l key)
attr_at-map f [] key = refl
attr_at-map {X} {Y} f (p ∷ l) key = by (bytes_eq p.0 key) (attr_at-map f l key)
  where
    by : (b : Bool) → attr_at (map (λ p. (p.0, f p.1)) l) key ≡ option_map f (attr_at l key)
        → cond b (Some (f p.1)) (attr_at (map (λ p. (p.0, f p.1)) l) key)
        ≡ option_map f (cond b (Some p.1) (attr_at l key))
    by true e = refl
    by false e = e

module _ {A : Type 0} where
  -- at two keys that differ, in either order
  swapped : (b c : Bool) (x y : A) (o : Option A) → (b ≡ true → c ≡ true → ⊥)
      → cond c (Some y) (cond b (Some x) o) ≡ cond b (Some x) (cond c (Some y) o)
  swapped true true x y o apart = absurd (apart refl refl)
  swapped true false x y o apart = refl
  swapped false true x y o apart = refl
  swapped false false x y o apart = refl

  -- an entry that is put among others is found as if it stood first
  with-found : (e : Text × A) (gs ws : List (Text × A)) (key : Text) → with_entry e gs ≡ Some ws
      → attr_at ws key ≡ attr_at (e ∷ gs) key
  with-found e [] ws key is = let same : e ∷ [] ≡ ws = cc in ap (λ l. attr_at l key) (sym same)
  with-found e (g ∷ gs) ws key is =
      by (text_lt e.0 g.0) (bytes_eq e.0 g.0) refl refl is (with-found e gs)
    where
      behind : (more : Option (List (Text × A))) → with_entry e gs ≡ more
          → option_map (λ es. g ∷ es) more ≡ Some ws → bytes_eq e.0 g.0 ≡ false
          → ((vs : List (Text × A)) (k : Text) → with_entry e gs ≡ Some vs
          → attr_at vs k ≡ attr_at (e ∷ gs) k)
          → attr_at ws key ≡ attr_at (e ∷ g ∷ gs) key
      behind None is more apart rest = absurd (cc)
      behind (Some vs) is more apart rest =
          let same : g ∷ vs ≡ ws = cc in
          ap (λ l. attr_at l key) (sym same)
          ∙ ap (λ o. cond (bytes_eq g.0 key) (Some g.1) o) (rest vs key is)
          ∙ swapped (bytes_eq e.0 key) (bytes_eq g.0 key) e.1 g.1 (attr_at gs key)
          (λ p q.
          let one : e.0 ≡ key = (bytes_eq-Decides e.0 key).0 p in
          let two : g.0 ≡ key = (bytes_eq-Decides g.0 key).0 q in
          let equal : bytes_eq e.0 g.0 ≡ true = (bytes_eq-Decides e.0 g.0).1 (one ∙ sym two) in
          let no_way : true ≡ false = sym equal ∙ apart in
          absurd (cc))

      by : (b c : Bool) → text_lt e.0 g.0 ≡ b → bytes_eq e.0 g.0 ≡ c
          → cond b (Some (e ∷ g ∷ gs))
          (cond c None (option_map (λ es. g ∷ es) (with_entry e gs))) ≡ Some ws
          → ((vs : List (Text × A)) (k : Text) → with_entry e gs ≡ Some vs
          → attr_at vs k ≡ attr_at (e ∷ gs) k)
          → attr_at ws key ≡ attr_at (e ∷ g ∷ gs) key
      by true c less equal put rest =
          let same : e ∷ g ∷ gs ≡ ws = cc in ap (λ l. attr_at l key) (sym same)
      by false true less equal put rest = absurd (cc)
      by false false less equal put rest = behind (with_entry e gs) refl put equal rest

  -- entries are found as they were, where they are sorted
  pub sorted-found : (es ws : List (Text × A)) (key : Text) → sorted_entries es ≡ Some ws
      → attr_at ws key ≡ attr_at es key
  sorted-found [] ws key is = let none : [] ≡ ws = cc in ap (λ l. attr_at l key) (sym none)
  sorted-found (e ∷ es) ws key is = go (sorted_entries es) refl is (sorted-found es)
    where
      go : (more : Option (List (Text × A))) → sorted_entries es ≡ more
          → option_and_then (with_entry e) more ≡ Some ws
          → ((vs : List (Text × A)) (k : Text) → sorted_entries es ≡ Some vs
          → attr_at vs k ≡ attr_at es k)
          → attr_at ws key ≡ attr_at (e ∷ es) key
      go None is put rest = absurd (cc)
      go (Some gs) is put rest =
          with-found e gs ws key put
          ∙ ap (λ o. cond (bytes_eq e.0 key) (Some e.1) o) (rest gs key is)

-- keys and values of pairs are attributes
pub attrs_seen-pairs : (now : List Value) (pairs : List (Text × ValueId))
    → attrs_seen now (map (λ p. p.0) pairs) (map (λ p. p.1) pairs)
    ≡ map (λ p. (p.0, at now p.1.0)) pairs
attrs_seen-pairs now [] = refl
attrs_seen-pairs now (p ∷ pairs) = ap (λ l. (p.0, at now p.1.0) ∷ l) (attrs_seen-pairs now pairs)

-- ---- keys

-- where no key stands twice, all differ
distinct-keys : (ks : List Text) → (HasRepeat ks → ⊥) → IsDistinct bytes_eq ks
unfolding IsDistinct
distinct-keys [] once = tt
distinct-keys (k ∷ ks) once = (go [] ks refl, distinct-keys ks rest)
  where
    rest : HasRepeat ks → ⊥
    rest r = once (record {
      before_it = k ∷ r.before_it;
      key = r.key;
      after = r.after;
      cut = ap (λ l. k ∷ l) r.cut;
      among = contains-tail k r.before_it r.key r.among;
    })

    differs : (front : List Text) (y : Text) (behind : List Text) → ks ≡ front ++ y ∷ behind
        → (b : Bool) → bytes_eq k y ≡ b → bytes_eq k y ≡ false
    differs front y behind cut false is = is
    differs front y behind cut true is =
        let same : k ≡ y = (bytes_eq-Decides k y).0 is in
        absurd (once (record {
          before_it = k ∷ front;
          key = y;
          after = behind;
          cut = ap (λ l. k ∷ l) cut;
          among = subst (λ z. Contains (k ∷ front) z) same (contains-head k front);
        }))

    go : (front behind : List Text) → ks ≡ front ++ behind
        → AllByRecursion (λ y. bytes_eq k y ≡ false) behind
    go front [] cut = tt
    go front (y ∷ behind) cut = (
      differs front y behind cut (bytes_eq k y) refl,
      go (front ++ y ∷ []) behind (cut ∙ sym (append_assoc front (y ∷ []) behind)),
    )

-- a cut of what is made of a list is one of the list
map-cut : {A B : Type 0} (f : A → B) (xs : List A) (front : List B) (y : B) (behind : List B)
    → map f xs ≡ front ++ y ∷ behind
    → (before : List A) × (x : A) × (after : List A) × (xs ≡ before ++ x ∷ after)
    × (map f before ≡ front) × (f x ≡ y)
map-cut f [] [] y behind e = absurd (cc)
map-cut f [] (z ∷ front) y behind e = absurd (cc)
map-cut f (x ∷ xs) [] y behind e =
    let head : f x ≡ y = cc in ([], x, xs, refl, refl, head)
map-cut f (x ∷ xs) (z ∷ front) y behind e =
    let head : f x ≡ z = cc in
    let (before, w, after, cut, firsts, last) = map-cut f xs front y behind (cc) in (
      x ∷ before,
      w,
      after,
      ap (λ l. x ∷ l) cut,
      ap (λ l. f x ∷ l) firsts ∙ ap (λ b. b ∷ front) head,
      last,
    )

-- where no key is at fault, none stands twice
keys-once : (es : List EntryCst) → ((f : Fault) → IsKeyFault [] es f → ⊥)
    → HasRepeat (keys_in es) → ⊥
keys-once es right r =
    let (before, e, after, cut, firsts, last) =
    map-cut (λ d. (out-EntryCst d).key) es r.before_it r.key r.after r.cut in
    right (record { place = (out-EntryCst e).place; code = KEY_REPEATED }) (record {
      before = before;
      entry = e;
      after = after;
      cut = cut;
      wrong = inl (subst (λ ks. Contains ks (out-EntryCst e).key) (sym firsts)
          (subst (λ k. Contains r.before_it k) (sym last) r.among));
      place = refl;
      code = refl;
    })

-- pairs that entries spell have their keys
keys-same : (al : Aliases) (now : List Value) (es : List EntryCst) (pairs : List (Text × ValueId))
    → map (pair_of al) es ≡ map (spelled now) pairs → keys_in es ≡ map (λ p. p.0) pairs
keys-same al now [] [] e = refl
keys-same al now [] (p ∷ pairs) e = absurd (cc)
keys-same al now (d ∷ es) [] e = absurd (cc)
keys-same al now (d ∷ es) (p ∷ pairs) e =
    let heads : pair_of al d ≡ spelled now p = cc in
    let rest : map (pair_of al) es ≡ map (spelled now) pairs = cc in
    ap (λ (q : Text × Option Value). q.0 ∷ keys_in es) heads
    ∙ ap (λ ks. p.0 ∷ ks) (keys-same al now es pairs rest)

-- what is so of the values of pairs
good-values : (P : Value → Type 0) (now : List Value) (ids : List ValueId)
    → AllByRecursion (λ (id : ValueId). P (at now id.0)) ids → AllByRecursion P (values_at now ids)
good-values P now [] all = tt
good-values P now (id ∷ ids) all = (all.0, good-values P now ids all.1)

good-ids : (P : Value → Type 0) (now : List Value) (pairs : List (Text × ValueId))
    → AllByRecursion (λ (p : Text × ValueId). P (at now p.1.0)) pairs
    → AllByRecursion (λ (id : ValueId). P (at now id.0)) (map (λ p. p.1) pairs)
good-ids P now [] all = tt
good-ids P now (p ∷ pairs) all = (all.0, good-ids P now pairs all.1)

-- entries whose keys are right, with their pairs sorted, are attributes
pub attrs-are : (loaded : Loaded) (al : Aliases) (es : List EntryCst) (now : List Value)
    (pairs : List (Text × ValueId)) (keys : List Text) (values : List ValueId)
    → AreSeen loaded al es now pairs → ((f : Fault) → IsKeyFault [] es f → ⊥)
    → IfSome (sorted_entries pairs) (λ sorted. keys ≡ map (λ e. e.0) sorted)
    → IfSome (sorted_entries pairs) (λ sorted. values ≡ map (λ e. e.1) sorted)
    → AreAttrs loaded al es now keys values
attrs-are loaded al es now pairs keys values x right = by (sorted_entries pairs) refl
  where
    once : HasRepeat (keys_in es) → ⊥
    once = keys-once es right

    by : (more : Option (List (Text × ValueId))) → sorted_entries pairs ≡ more
        → IfSome more (λ sorted. keys ≡ map (λ e. e.0) sorted)
        → IfSome more (λ sorted. values ≡ map (λ e. e.1) sorted)
        → AreAttrs loaded al es now keys values
    by None is k v = absurd (once (subst HasRepeat (sym (keys-same al now es pairs x.seen))
        (sorted-none pairs is)))
    by (Some sorted) is k v = record {
      ascend = rw k (sorted-ascends pairs sorted is);
      counts = ap length v ∙ length-map sorted (λ (p : Text × ValueId). p.1)
          ∙ sym (length-map sorted (λ (p : Text × ValueId). p.0)) ∙ sym (ap length k);
      known = rw v (known-permuted (length now) (map (λ p. p.1) pairs) (map (λ p. p.1) sorted)
          (IsPermutation-map (λ p. p.1) pairs sorted (sorted-permutes pairs sorted is)) x.known);
      same = λ key.
          ap (λ l. attr_at l key) x.seen
          ∙ attr_at-map (λ (id : ValueId). Some (at now id.0)) pairs key
          ∙ ap (option_map (λ (id : ValueId). Some (at now id.0)))
          (sym (sorted-found pairs sorted key is))
          ∙ twice (attr_at sorted key)
          ∙ ap (option_map Some) (sym (attr_at-map (λ (id : ValueId). at now id.0) sorted key))
          ∙ ap (λ l. option_map Some (attr_at l key)) (sym (attrs_seen-pairs now sorted))
          ∙ ap (λ ks. option_map Some (attr_at (attrs_seen now ks (map (λ p. p.1) sorted)) key))
          (sym k)
          ∙ ap (λ vs. option_map Some (attr_at (attrs_seen now keys vs) key)) (sym v);
      distinct = distinct-keys (keys_in es) once;
      good = rw v (good-values (IsGood loaded) now (map (λ p. p.1) sorted)
          ((sorted-all (λ (id : ValueId). IsGood loaded (at now id.0)) pairs sorted is).0
          (good-ids (IsGood loaded) now pairs x.good)));
    }
      where
        twice : (o : Option ValueId) → option_map (λ (id : ValueId). Some (at now id.0)) o
            ≡ option_map Some (option_map (λ (id : ValueId). at now id.0) o)
        twice None = refl
        twice (Some id) = refl
