-- What the judgement of entries shows of their dictionary.
use Rattle.std.proofs.Common.{◌≡◌, ℕ, suc, ◌+◌, true, List, [], ◌∷◌, map, length}
use Rattle.std.proofs.Common.{refl, sym, ◌∙◌, ap, subst, option_map, option_and_then}
use Rattle.std.proofs.lemmas.List.Sorted.{IsPermutation-map}
use Rattle.std.specs.List.{AllByRecursion}
use Rattle.std.specs.declared.option.Option.{Option}
use Rattle.std.specs.declared.option.Option.TheVariants.{Some, None}
use Rattle.attr_value.specs.declared.head.Head.{Head}
use Rattle.attr_value.specs.declared.head.Head.TheVariants as h
use Rattle.attr_value.specs.declared.head.ValueId.{ValueId}
use Rattle.attr_value.specs.Ids.{at, kids_at}
use Rattle.attr_value.specs.Values.{Value, list_of}
use Rattle.first_fault.specs.declared.fault.Fault.{Fault}
use Rattle.first_fault.specs.Firsts.{IsFirst}
use Rattle.ir_lexer.specs.Spelling.{Text}
use Rattle.value_meaning.specs.declared.judged.Kids.{Kids}
use Rattle.value_meaning.specs.Entered.{seen_keys, entry_values, AreKeyed, AreGoodEntries}
use Rattle.value_meaning.specs.Entered.{AreRightEntries}
use Rattle.value_meaning.specs.Faults.{HasGood, IsFaultAmong}
use Rattle.value_meaning.specs.Judging.{Ground, IsGood, IsRight, Judges, AreIdsOf, HaveRight}
use Rattle.value_meaning.specs.Judging.{JudgesKids, IsOther, Keeps, IsNoBadInteger}
use Rattle.value_meaning.specs.Keys.{HasRepeat}
use Rattle.value_meaning.specs.Meaning.{Mark, EntrySeen, entry_value, dict_of, dict_value}
use Rattle.value_meaning.specs.Meaning.{entries_marks, made_of}
use Rattle.value_meaning.specs.Spelled.{sorted_entries, all_some}
use Rattle.value_meaning.proofs.Made.{all_some-some, all_some-are, good-kids, all-good}
use Rattle.value_meaning.proofs.Nodes.{judged}
use Rattle.value_meaning.proofs.Permuted.{known-permuted}
use Rattle.value_meaning.proofs.Repeats.{sorted-none, none-sorted}
use Rattle.value_meaning.proofs.Sorted.{sorted-permutes, sorted-ascends, sorted-all, sorted-map}

-- ---- what entries spell together

-- an entry whose value spells one
spelled-entry : (key : Text) (o : Option Value) (p : Text × Value)
    → option_map (λ v. (key, v)) o ≡ Some p → (key ≡ p.0) × (o ≡ Some p.1)
spelled-entry key None p e = absurd (cc)
spelled-entry key (Some v) p e =
    let is : (key, v) ≡ p = cc in (ap (λ q. q.0) is, ap (λ q. Some q.1) is)

-- entries that all spell a value have these keys and values
pub pairs-spelled : (es : List EntrySeen) (pairs : List (Text × Value))
    → map entry_value es ≡ map Some pairs
    → (seen_keys es ≡ map (λ p. p.0) pairs) × (entry_values es ≡ map Some (map (λ p. p.1) pairs))
pairs-spelled [] [] e = (refl, refl)
pairs-spelled [] (p ∷ ps) e = absurd (cc)
pairs-spelled (d ∷ es) [] e = absurd (cc)
pairs-spelled (d ∷ es) (p ∷ ps) e =
    let first = spelled-entry d.key d.seen.value p (cc) in
    let rest = pairs-spelled es ps (cc) in (
      ap (λ k. k ∷ seen_keys es) first.0 ∙ ap (λ ks. p.0 ∷ ks) rest.0,
      ap (λ v. v ∷ entry_values es) first.1 ∙ ap (λ vs. Some p.1 ∷ vs) rest.1,
    )

-- and those that have these keys and values spell them
pub spelled-pairs : (es : List EntrySeen) (pairs : List (Text × Value))
    → map (λ p. p.0) pairs ≡ seen_keys es → entry_values es ≡ map Some (map (λ p. p.1) pairs)
    → map entry_value es ≡ map Some pairs
spelled-pairs [] [] keys spell = refl
spelled-pairs [] (p ∷ ps) keys spell = absurd (cc)
spelled-pairs (d ∷ es) [] keys spell = absurd (cc)
spelled-pairs (d ∷ es) (p ∷ ps) keys spell =
    let key : d.key ≡ p.0 = cc in
    let is : d.seen.value ≡ Some p.1 = cc in
    ap (λ o. option_map (λ v. (d.key, v)) o ∷ map entry_value es) is
    ∙ ap (λ k. Some (k, p.1) ∷ map entry_value es) key
    ∙ ap (λ os. Some p ∷ os) (spelled-pairs es ps (cc) (cc))

-- entries that spell a dictionary: their keys and values, and these as they are sorted
pub record IsDict (es : List EntrySeen) (v : Value) : Type 0 where
  pub pairs : List (Text × Value)
  pub sorted : List (Text × Value)
  pub keys : seen_keys es ≡ map (λ p. p.0) pairs
  pub spell : entry_values es ≡ map Some (map (λ p. p.1) pairs)
  pub sorts : sorted_entries pairs ≡ Some sorted
  pub is : v ≡ dict_of sorted

pub dict-spelled : (es : List EntrySeen) (v : Value) → dict_value es ≡ Some v → IsDict es v
dict-spelled es v e = go (all_some (map entry_value es)) refl e
  where
    sorts : (pairs : List (Text × Value)) → all_some (map entry_value es) ≡ Some pairs
        → (o : Option (List (Text × Value))) → sorted_entries pairs ≡ o
        → option_map dict_of o ≡ Some v → IsDict es v
    sorts pairs are None to e = absurd (cc)
    sorts pairs are (Some sorted) to e =
        let them = pairs-spelled es pairs (all_some-are (map entry_value es) pairs are) in
        record {
          pairs = pairs;
          sorted = sorted;
          keys = them.0;
          spell = them.1;
          sorts = to;
          is = cc;
        }

    go : (o : Option (List (Text × Value))) → all_some (map entry_value es) ≡ o
        → option_map dict_of (option_and_then sorted_entries o) ≡ Some v → IsDict es v
    go None are e = absurd (cc)
    go (Some pairs) are e = sorts pairs are (sorted_entries pairs) refl e

-- where a dictionary is good, so are its entries' values, and no key stands twice
pub good-entries : (g : Ground) (es : List EntrySeen)
    → HasGood g.table g.tests g.types (dict_value es) → AreGoodEntries g es
good-entries g es good =
    let it = dict-spelled es good.value good.is in
    let sorted = good-kids g (h.Dict (map (λ p. p.0) it.sorted)) (map (λ p. p.1) it.sorted)
    (subst (IsGood g) it.is good.good) in
    record {
      all = record {
        values_are = map (λ p. p.1) it.pairs;
        are = it.spell;
        good = (sorted-all (IsGood g) it.pairs it.sorted it.sorts).1 sorted;
      };
      distinct = λ r.
          let none = none-sorted it.pairs (subst HasRepeat it.keys r) in
          let no : None ≡ Some it.sorted = sym none ∙ it.sorts in absurd (cc);
    }

-- the head of a dictionary is that of no integer type
pub dict-other-head : (keys : List Text) → IsOther (h.Dict keys)
dict-other-head keys kind e = cc

-- a dictionary is no integer type
pub dict-other : (g : Ground) (es : List EntrySeen) → IsNoBadInteger g (dict_value es)
dict-other g es v kind e int =
    let it = dict-spelled es v e in
    absurd (dict-other-head (map (λ p. p.0) it.sorted) kind (ap (λ x. x.head) (sym it.is) ∙ int))

-- entries that aren't all good, or of which a key stands twice, are no good dictionary
pub judges-no-dict : (g : Ground) (n : ℕ) (es : List EntrySeen) (new : List Value)
    (first : Option Fault) → ¬ AreGoodEntries g es
    → IsFirst (IsFaultAmong g.table g.tests g.types (entries_marks (n + 1) [] es)) first
    → (first ≡ None → AreRightEntries g (n + 1) es)
    → Judges g n (dict_value es) (entries_marks (n + 1) [] es) new (judged None first)
judges-no-dict g n es new first bad is right = record {
  some = tt;
  none = λ good. bad (good-entries g es good);
  first = is;
  right = λ e room.
      let all = right e in
      absurd (bad (record {
        all = record {
          values_are = all.all.values_are;
          are = all.all.spell;
          good = all-good g (n + 1) all.all.values_are all.all.right;
        };
        distinct = all.distinct;
      }));
  integer = dict-other g es;
}

-- ---- good entries, sorted

-- entries of which no key stands twice can be sorted
pub keyed-sorts : (g : Ground) (es : List EntrySeen) (old : List Value)
    (pairs : List (Text × ValueId)) → AreKeyed g es old pairs
    → (sorted : List (Text × ValueId)) × (sorted_entries pairs ≡ Some sorted)
keyed-sorts g es old pairs keyed = go (sorted_entries pairs) refl
  where
    go : (o : Option (List (Text × ValueId))) → sorted_entries pairs ≡ o
        → (sorted : List (Text × ValueId)) × (sorted_entries pairs ≡ Some sorted)
    go None is = absurd (keyed.distinct (subst HasRepeat keyed.keys (sorted-none pairs is)))
    go (Some sorted) is = (sorted, is)

module _ (g : Ground) (es : List EntrySeen) (old : List Value)
    (pairs sorted : List (Text × ValueId)) (keyed : AreKeyed g es old pairs)
    (is : sorted_entries pairs ≡ Some sorted) where
  -- keys, with the values of the ids
  abbrev valued : List (Text × ValueId) → List (Text × Value)
  valued ps = map (λ p. (p.0, at old p.1.0)) ps

  -- the values of the ids
  abbrev values : List (Text × ValueId) → List Value
  values ps = list_of (kids_at old (map (λ p. p.1) ps))

  -- the head of the dictionary
  abbrev pub head : Head
  head = h.Dict (map (λ p. p.0) sorted)

  -- its kids
  abbrev pub kids : List Value
  kids = values sorted

  valued-keys : (ps : List (Text × ValueId)) → map (λ p. p.0) (valued ps) ≡ map (λ p. p.0) ps
  valued-keys [] = refl
  valued-keys (p ∷ ps) = ap (λ ks. p.0 ∷ ks) (valued-keys ps)

  valued-values : (ps : List (Text × ValueId)) → map (λ p. p.1) (valued ps) ≡ values ps
  valued-values [] = refl
  valued-values (p ∷ ps) = ap (λ vs. at old p.1.0 ∷ vs) (valued-values ps)

  values-count : (ps : List (Text × ValueId))
      → length (values ps) ≡ length (map (λ p. p.0) ps)
  values-count [] = refl
  values-count (p ∷ ps) = ap (λ k. suc k) (values-count ps)

  -- with their values they are sorted alike
  valued-sorts : sorted_entries (valued pairs) ≡ Some (valued sorted)
  valued-sorts = sorted-map (λ (id : ValueId). at old id.0) pairs ∙ ap (option_map valued) is

  -- they spell the dictionary of these
  pub dict-is : dict_value es ≡ Some (made_of head kids)
  dict-is =
      ap (λ os. option_map dict_of (option_and_then sorted_entries (all_some os)))
      (spelled-pairs es (valued pairs) (valued-keys pairs ∙ keyed.keys)
      (keyed.ids.spell ∙ ap (map Some) (sym (valued-values pairs))))
      ∙ ap (λ o. option_map dict_of (option_and_then sorted_entries o))
      (all_some-some (valued pairs))
      ∙ ap (option_map dict_of) valued-sorts
      ∙ ap (λ ks. Some (made_of (h.Dict ks) (map (λ p. p.1) (valued sorted)))) (valued-keys sorted)
      ∙ ap (λ vs. Some (made_of head vs)) (valued-values sorted)

  -- what holds of each value still does
  kids-all : (P : Value → Type 0) → AllByRecursion P (values pairs) → AllByRecursion P kids
  kids-all P all =
      subst (AllByRecursion P) (valued-values sorted)
      ((sorted-all P (valued pairs) (valued sorted) valued-sorts).0
      (subst (AllByRecursion P) (sym (valued-values pairs)) all))

  -- it keeps to its head's rule
  pub dict-keeps : Keeps g head kids
  dict-keeps = record {
    rule = record {
      count = values-count sorted;
      types = λ e. absurd (cc);
      right = sorted-ascends pairs sorted is;
    };
    defined = tt;
  }

  -- the ids are those of the kids
  dict-ids : AreIdsOf g (map Some kids) old (map (λ p. p.1) sorted)
  dict-ids = record {
    known = known-permuted (length old) (map (λ p. p.1) pairs) (map (λ p. p.1) sorted)
        (IsPermutation-map (λ p. p.1) pairs sorted (sorted-permutes pairs sorted is))
        keyed.ids.known;
    spell = refl;
    good = kids-all (IsGood g) keyed.ids.good;
  }

  -- where the entries' values are right, the kids are
  dict-right : (n : ℕ) → HaveRight g n (entry_values es) → HaveRight g n (map Some kids)
  dict-right n right = record {
    values_are = kids;
    spell = refl;
    right = kids-all (IsRight g n) (subst (AllByRecursion (IsRight g n)) same right.right);
  }
    where
      same : right.values_are ≡ values pairs
      same =
          let each = ap all_some (sym right.spell ∙ keyed.ids.spell) in
          let it : Some right.values_are ≡ Some (values pairs) =
          sym (all_some-some right.values_are) ∙ each ∙ all_some-some (values pairs) in
          cc

  -- the kids are judged as the entries are
  pub dict-kids : (n : ℕ) (ms : List Mark) (k : Kids) → k.ids.items ≡ map (λ p. p.1) sorted
      → k.all_good ≡ true → IsFirst (IsFaultAmong g.table g.tests g.types ms) k.first
      → (k.first ≡ None → AreRightEntries g n es) → JudgesKids g n (map Some kids) ms old k
  dict-kids n ms k ids good first right = record {
    some = λ e. subst (AreIdsOf g (map Some kids) old) (sym ids) dict-ids;
    none = λ e all. absurd (cc);
    first = first;
    right = λ e. dict-right n (right e).all;
  }
