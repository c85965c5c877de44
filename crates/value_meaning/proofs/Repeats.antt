-- Keys that stand twice: entries that have one can't be sorted, and all others can.
use Rattle.std.proofs.Common.{◌≡◌, ◌↔◌, ◌⊎◌, inl, inr, true, false}
use Rattle.std.proofs.Common.{List, [], ◌∷◌, ◌++◌, Contains}
use Rattle.std.proofs.Common.{refl, sym, ◌∙◌, ap, subst, bytes_eq, option_map, option_and_then}
use Rattle.std.proofs.lemmas.List.Elements.{Contains-append_right}
use Rattle.std.proofs.lemmas.List.Sorted.{IsPermutation-sym, IsPermutation-map}
use Rattle.std.proofs.lemmas.List.Sorted.{IsPermutation-to_front, Contains-permutation}
use Rattle.std.specs.List.Sorted.{IsPermutation}
use Rattle.std.specs.declared.option.Option.{Option}
use Rattle.std.specs.declared.option.Option.TheVariants.{Some, None}
use Rattle.attr_value.specs.Heads.{text_lt, Ascend}
use Rattle.ir_lexer.specs.Spelling.{Text}
use Rattle.value_meaning.specs.Keys.{HasRepeat}
use Rattle.value_meaning.specs.Spelled.{with_entry, sorted_entries}
use Rattle.value_meaning.proofs.Among.{contains-nil, contains-head, contains-tail, contains-cons}
use Rattle.value_meaning.proofs.Sorted.{keys_of, sorted-permuted, sorted-permutes, sorted-ascends}
use Rattle.value_meaning.proofs.TextOrder.{Rank, before, same, behind, rank}
use Rattle.value_meaning.proofs.TextOrder.{lt-itself, eq-itself, lt-trans}

-- all that stands behind the head of keys that ascend comes after it
ascend-above : (k : Text) (ks : List Text) (x : Text) → Ascend (k ∷ ks) → Contains ks x
    → text_lt k x ≡ true
ascend-above k [] x up has = absurd (contains-nil x has)
ascend-above k (l ∷ ks) x up has = go (ascend-above l ks x up.1) (contains-cons l ks x has)
  where
    go : (Contains ks x → text_lt l x ≡ true) → (l ≡ x) ⊎ Contains ks x → text_lt k x ≡ true
    go rest (inl is) = subst (λ y. text_lt k y ≡ true) is up.0
    go rest (inr more) = lt-trans k l x up.0 (rest more)

-- a member of a list has a place in it
contains-cut : {X : Type 0} (xs : List X) (x : X) → Contains xs x
    → (front : List X) × (rest : List X) × (xs ≡ front ++ x ∷ rest)
contains-cut [] x has = absurd (contains-nil x has)
contains-cut {X = X} (y ∷ xs) x has = go (contains-cut xs x) (contains-cons y xs x has)
  where
    go : (Contains xs x → (front : List X) × (rest : List X) × (xs ≡ front ++ x ∷ rest))
        → (y ≡ x) ⊎ Contains xs x
        → (front : List X) × (rest : List X) × (y ∷ xs ≡ front ++ x ∷ rest)
    go deeper (inl is) = ([], xs, ap (λ z. z ∷ xs) is)
    go deeper (inr more) =
        let (front, rest, cut) = deeper more in (y ∷ front, rest, ap (λ l. y ∷ l) cut)

-- what stands in a list behind others is in it
cut-contains : {X : Type 0} (front rest : List X) (x : X) → Contains (front ++ x ∷ rest) x
cut-contains front rest x = Contains-append_right front (x ∷ rest) x (contains-head x rest)

module _ {A : Type 0} where
  -- an entry has no place where its key is there
  with-none : (e : Text × A) (gs : List (Text × A)) → with_entry e gs ≡ None
      → Contains (keys_of gs) e.0
  with-none e [] none = absurd (cc)
  with-none e (g ∷ gs) none = go (with-none e gs) (rank e.0 g.0)
    where
      mapped : (more : Option (List (Text × A))) → option_map (λ ws. g ∷ ws) more ≡ None
          → more ≡ None
      mapped None p = refl
      mapped (Some ws) p = absurd (cc)

      go : (with_entry e gs ≡ None → Contains (keys_of gs) e.0) → Rank e.0 g.0
          → Contains (keys_of (g ∷ gs)) e.0
      go rest (before p q r s) =
          let is : Some (e ∷ g ∷ gs) ≡ None = rw p at none in absurd (cc)
      go rest (same k) =
          subst (λ x. Contains (keys_of (g ∷ gs)) x) (sym k) (contains-head g.0 (keys_of gs))
      go rest (behind p q r s) =
          contains-tail g.0 (keys_of gs) e.0 (rest (mapped (with_entry e gs) (rw (q, r) at none)))

  -- where its key is among those that ascend, it has none
  none-with : (e : Text × A) (gs : List (Text × A)) → Ascend (keys_of gs)
      → Contains (keys_of gs) e.0 → with_entry e gs ≡ None
  none-with e [] up has = absurd (contains-nil e.0 has)
  none-with e (g ∷ gs) up has =
      go (none-with e gs (ascend-tail gs up)) (contains-cons g.0 (keys_of gs) e.0 has)
      (rank e.0 g.0)
    where
      ascend-tail : (ks : List (Text × A)) → Ascend (keys_of (g ∷ ks)) → Ascend (keys_of ks)
      ascend-tail [] h = tt
      ascend-tail (k ∷ ks) h = h.1

      at-head : e.0 ≡ g.0 → with_entry e (g ∷ gs) ≡ None
      at-head k =
          let less = ap (λ x. text_lt x g.0) k ∙ lt-itself g.0 in
          let eq = ap (λ x. bytes_eq x g.0) k ∙ eq-itself g.0 in
          rw (less, eq) refl

      go : (Contains (keys_of gs) e.0 → with_entry e gs ≡ None)
          → (g.0 ≡ e.0) ⊎ Contains (keys_of gs) e.0 → Rank e.0 g.0 → with_entry e (g ∷ gs) ≡ None
      go rest (inl is) _ = at-head (sym is)
      go rest (inr more) (before p q r s) =
          let above : text_lt g.0 e.0 ≡ true = ascend-above g.0 (keys_of gs) e.0 up more in
          let no : true ≡ false = sym above ∙ q in absurd (cc)
      go rest (inr more) (same k) = at-head k
      go rest (inr more) (behind p q r s) = rw (q, r, rest more) refl

  -- what is sorted has the same keys
  keys-stay : (es sorted : List (Text × A)) (key : Text) → sorted_entries es ≡ Some sorted
      → Contains (keys_of es) key ↔ Contains (keys_of sorted) key
  keys-stay es sorted key is = (
    Contains-permutation (keys_of es) (keys_of sorted) key moved,
    Contains-permutation (keys_of sorted) (keys_of es) key
        (IsPermutation-sym (keys_of es) (keys_of sorted) moved),
  )
    where
      moved : IsPermutation (keys_of es) (keys_of sorted)
      moved = IsPermutation-map (λ e. e.0) es sorted (sorted-permutes es sorted is)

  -- entries that can't be sorted have a key twice
  pub sorted-none : (es : List (Text × A)) → sorted_entries es ≡ None → HasRepeat (keys_of es)
  sorted-none [] none = absurd (cc)
  sorted-none (e ∷ es) none = go (sorted-none es) (sorted_entries es) refl none
    where
      go : (sorted_entries es ≡ None → HasRepeat (keys_of es))
          → (more : Option (List (Text × A))) → sorted_entries es ≡ more
          → option_and_then (with_entry e) more ≡ None → HasRepeat (e.0 ∷ keys_of es)
      go rest None is none =
          let r = rest is in
          record {
            before_it = e.0 ∷ r.before_it;
            key = r.key;
            after = r.after;
            cut = ap (λ l. e.0 ∷ l) r.cut;
            among = contains-tail e.0 r.before_it r.key r.among;
          }
      go rest (Some gs) is none =
          let has = (keys-stay es gs e.0 is).1 (with-none e gs none) in
          let (front, rest, cut) = contains-cut (keys_of es) e.0 has in
          record {
            before_it = e.0 ∷ front;
            key = e.0;
            after = rest;
            cut = ap (λ l. e.0 ∷ l) cut;
            among = contains-head e.0 front;
          }

  -- where the head's key stands once more, entries can't be sorted
  head-repeated : (e : Text × A) (es : List (Text × A)) → Contains (keys_of es) e.0
      → sorted_entries (e ∷ es) ≡ None
  head-repeated e es has = go (sorted_entries es) refl
    where
      go : (more : Option (List (Text × A))) → sorted_entries es ≡ more
          → option_and_then (with_entry e) more ≡ None
      go None is = refl
      go (Some gs) is =
          none-with e gs (sorted-ascends es gs is) ((keys-stay es gs e.0 is).0 has)

  -- entries that have a key twice can't be sorted
  pub none-sorted : (es : List (Text × A)) → HasRepeat (keys_of es) → sorted_entries es ≡ None
  none-sorted es r = go es r.before_it r.key r.after r.cut r.among
    where
      go : (es : List (Text × A)) (before_it : List Text) (key : Text) (after : List Text)
          → keys_of es ≡ before_it ++ key ∷ after → Contains before_it key
          → sorted_entries es ≡ None
      go es [] key after cut among = absurd (contains-nil key among)
      go [] (k ∷ ks) key after cut among = absurd (cc)
      go (e ∷ es) (k ∷ ks) key after cut among =
          let head : e.0 ≡ k = cc in
          let tail : keys_of es ≡ ks ++ key ∷ after = cc in
          elim (contains-cons k ks key among) as (λ _. sorted_entries (e ∷ es) ≡ None) [
            | inl is ↦
                head-repeated e es
                (subst (λ l. Contains l e.0) (sym tail)
                (subst (λ x. Contains (ks ++ key ∷ after) x) (sym (head ∙ is))
                (cut-contains ks after key)))
            | inr more ↦ ap (option_and_then (with_entry e)) (go es ks key after tail more)
          ]

  -- with one more entry, whose key isn't there yet, they can still be sorted
  pub sorted-push : (es sorted : List (Text × A)) (e : Text × A) → sorted_entries es ≡ Some sorted
      → (Contains (keys_of es) e.0 → ⊥)
      → (more : List (Text × A)) × (sorted_entries (es ++ e ∷ []) ≡ Some more)
  sorted-push es sorted e is new = go (with_entry e sorted) refl
    where
      turned : sorted_entries (es ++ e ∷ []) ≡ option_and_then (with_entry e) (sorted_entries es)
      turned = sorted-permuted (es ++ e ∷ []) (e ∷ es) (IsPermutation-to_front es e)

      go : (more : Option (List (Text × A))) → with_entry e sorted ≡ more
          → (more : List (Text × A)) × (sorted_entries (es ++ e ∷ []) ≡ Some more)
      go None put = absurd (new ((keys-stay es sorted e.0 is).1 (with-none e sorted put)))
      go (Some ws) put = (ws, turned ∙ ap (option_and_then (with_entry e)) is ∙ put)
