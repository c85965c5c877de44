-- Judgements that are put together: a value and that it stands where it does, and kids one by one.
use Rattle.std.proofs.Common.{◌≡◌, ◌<◌, ◌≤◌, inl, inr, ℕ, Bool, true, false, ◌&&◌, List, [], ◌∷◌, ◌++◌}
use Rattle.std.proofs.Common.{map, length, refl, sym, ◌∙◌, ap, subst, arith, is_some}
use Rattle.std.proofs.Common.{IfSome, IfNone}
use Rattle.std.proofs.lemmas.Bool.{cases_lt}
use Rattle.std.specs.List.{AllByRecursion}
use Rattle.std.specs.declared.option.Option.{Option}
use Rattle.std.specs.declared.option.Option.TheVariants.{Some, None}
use Rattle.attr_value.specs.declared.head.TheConstants.{DEPTH_LIMIT}
use Rattle.attr_value.specs.declared.head.ValueId.{ValueId}
use Rattle.attr_value.specs.Ids.{at, kids_at, AreKnown}
use Rattle.attr_value.specs.Values.{Value, list_of}
use Rattle.constraint_solver.specs.Grown.{Extends}
use Rattle.constraint_solver.proofs.Grows.{kids_at-grows, known-grows}
use Rattle.first_fault.specs.declared.fault.Fault.{Fault}
use Rattle.first_fault.specs.Firsts.{earlier_of, IsFirst}
use Rattle.first_fault.proofs.Firsts.{earlier_of-both-none}
use Rattle.value_meaning.specs.declared.code.TheConstants.{NESTING}
use Rattle.value_meaning.specs.declared.judged.Judged.{Judged}
use Rattle.value_meaning.specs.declared.judged.Kids.{Kids}
use Rattle.value_meaning.specs.Faults.{HasGood, HaveGood, IsFaultOf, IsFaultAmong}
use Rattle.value_meaning.specs.Gathered.{IsAdded, listed}
use Rattle.value_meaning.specs.Judging.{Ground, IsGood, IsRight, IsIdOf, HasRight, Judges, IsJudged}
use Rattle.value_meaning.specs.Judging.{AreIdsOf, HaveRight, JudgesKids, AreJudged}
use Rattle.value_meaning.specs.Meaning.{Mark, Seen, NodeSeen, seen_at, claim_at, stands}
use Rattle.value_meaning.proofs.Among.{first-nil, first-append}
use Rattle.value_meaning.proofs.Nodes.{judged, judges-and}

-- ---- lists with one more

-- the kids of ids with one more are those with its value more
list_of-push : (vs : List Value) (ids : List ValueId) (id : ValueId)
    → list_of (kids_at vs (ids ++ id ∷ [])) ≡ list_of (kids_at vs ids) ++ at vs id.0 ∷ []
list_of-push vs [] id = refl
list_of-push vs (first ∷ ids) id = ap (λ l. at vs first.0 ∷ l) (list_of-push vs ids id)

-- ids that are known, with one more that is
pub known-push : (n : ℕ) (ids : List ValueId) (id : ValueId) → AreKnown n ids → id.0 < n
    → AreKnown n (ids ++ id ∷ [])
known-push n [] id known less = (less, tt)
known-push n (first ∷ ids) id known less = (known.0, known-push n ids id known.1 less)

-- what holds of each of a list and of one more
all-push : {A : Type 0} (P : A → Type 0) (xs : List A) (x : A) → AllByRecursion P xs → P x
    → AllByRecursion P (xs ++ x ∷ [])
all-push P [] x all last = (last, tt)
all-push P (y ∷ xs) x all last = (all.0, all-push P xs x all.1 last)

-- of each of a list, and of the last
all-front : {A : Type 0} (P : A → Type 0) (xs : List A) (x : A) → AllByRecursion P (xs ++ x ∷ [])
    → AllByRecursion P xs
all-front P [] x all = tt
all-front P (y ∷ xs) x all = (all.0, all-front P xs x all.1)

all-last : {A : Type 0} (P : A → Type 0) (xs : List A) (x : A) → AllByRecursion P (xs ++ x ∷ [])
    → P x
all-last P [] x all = all.0
all-last P (y ∷ xs) x all = all-last P xs x all.1

-- what is made of a list and of one more
pub map-push : {A B : Type 0} (f : A → B) (xs : List A) (x : A)
    → map f (xs ++ x ∷ []) ≡ map f xs ++ f x ∷ []
map-push f [] x = refl
map-push f (y ∷ xs) x = ap (λ l. f y ∷ l) (map-push f xs x)

-- both of two that hold together hold
pub both-true : (a b : Bool) → a && b ≡ true → (a ≡ true) × (b ≡ true)
both-true true true e = (refl, refl)
both-true true false e = absurd (cc)
both-true false b e = absurd (cc)

-- what is something, all of a list and one more, is cut at the last
pub record IsPushed {A : Type 0} (os : List (Option A)) (o : Option A) (xs : List A) : Type 0 where
  pub front : List A
  pub last : A
  pub are : os ≡ map Some front
  pub is : o ≡ Some last
  pub whole : xs ≡ front ++ last ∷ []

some-push : {A : Type 0} (os : List (Option A)) (o : Option A) (xs : List A)
    → os ++ o ∷ [] ≡ map Some xs → IsPushed os o xs
some-push [] o [] e = absurd (cc)
some-push [] o (x ∷ []) e = record {
  front = [];
  last = x;
  are = refl;
  is = cc;
  whole = refl;
}
some-push [] o (x ∷ y ∷ xs) e = absurd (cc)
some-push (p ∷ os) o [] e = absurd (cc)
some-push (p ∷ os) o (x ∷ xs) e =
    let rest = some-push os o xs (cc) in
    record {
      front = x ∷ rest.front;
      last = rest.last;
      are =
          let head : p ≡ Some x = cc in
          ap (λ l. p ∷ l) rest.are ∙ ap (λ q. q ∷ map Some rest.front) head;
      is = rest.is;
      whole = ap (λ l. x ∷ l) rest.whole;
    }

module _ (g : Ground) (n : ℕ) where
  abbrev Of : Mark → Fault → Type 0
  Of = IsFaultOf g.table g.tests g.types

  -- ---- a value where it stands

  -- a place at which there is room for a value has no fault
  pub first-room : (place : ℕ) → n ≤ DEPTH_LIMIT → IsFirst (Of (claim_at place (stands n))) None
  first-room place room = λ f x. let breaks = x.breaks.1 in omega (arith, breaks, room)

  -- and one at which there is none has this
  pub first-no-room : (place : ℕ) → DEPTH_LIMIT < n
      → IsFirst (Of (claim_at place (stands n))) (Some (record { place = place; code = NESTING }))
  first-no-room place deep = (
    record { place = refl; breaks = (refl, deep) },
    λ f x. inr (sym x.place, omega (arith, x.breaks.0)),
  )

  -- where there is no fault, there is room
  room-of : (place : ℕ) (a : Option Fault) → IsFirst (Of (claim_at place (stands n))) a → a ≡ None
      → n ≤ DEPTH_LIMIT
  room-of place (Some f) first e = absurd (cc)
  room-of place None first e = elim (cases_lt DEPTH_LIMIT n) as (λ _. n ≤ DEPTH_LIMIT) [
    | inl deep ↦ absurd (first (record { place = place; code = NESTING })
        (record { place = refl; breaks = (refl, deep) }))
    | inr room ↦ room
  ]

  -- a node that is judged at its place
  pub is-judged : (place : ℕ) (s : NodeSeen) (new : List Value) (a : Option Fault) (j : Judged)
      → IsFirst (Of (claim_at place (stands n))) a
      → Judges g n s.value (s.marks place n) new j
      → IsJudged g n (seen_at place s) new (judged j.value (earlier_of a j.first))
  is-judged place s new a j first x = record {
    judges =
        judges-and g n new s.value (claim_at place (stands n)) (s.marks place n) a j first x;
    right = λ e.
        let both = earlier_of-both-none a j.first e in
        x.right both.1 (room-of place a first both.0);
  }

  -- ---- kids

  -- no trees
  pub kids-none : (new : List Value) (k : Kids) → k.ids.items ≡ [] → k.first ≡ None
      → k.all_good ≡ true → AreJudged g n [] new k
  kids-none new k ids first all = record {
    some = λ e. subst (AreIdsOf g [] new) (sym ids)
        (record { known = tt; spell = refl; good = tt });
    none = λ e good. absurd (cc);
    first = subst (IsFirst (IsFaultAmong g.table g.tests g.types [])) (sym first)
        (first-nil g.table g.tests g.types);
    right = λ e. record { values_are = []; spell = refl; right = tt };
  }

  -- the ids of good values stay theirs as the table grows
  pub ids-grow : {old new : List Value} (spelled : List (Option Value)) (ids : List ValueId)
      → Extends old new → AreIdsOf g spelled old ids → AreIdsOf g spelled new ids
  ids-grow {old} {new} spelled ids grown x =
      let same = kids_at-grows grown ids x.known in
      record {
        known = known-grows grown ids x.known;
        spell = x.spell ∙ ap (λ ks. map Some (list_of ks)) (sym same);
        good = subst (λ ks. AllByRecursion (IsGood g) (list_of ks)) (sym same) x.good;
      }

  -- the ids of good values and of one more
  pub ids-push : (spelled : List (Option Value)) (o : Option Value) (new : List Value)
      (ids : List ValueId) (id : ValueId) → AreIdsOf g spelled new ids → IsIdOf g o new id
      → AreIdsOf g (spelled ++ o ∷ []) new (ids ++ id ∷ [])
  ids-push spelled o new ids id before last = record {
    known = known-push (length new) ids id before.known last.known;
    spell = ap (λ l. l ++ o ∷ []) before.spell
        ∙ ap (λ v. map Some (list_of (kids_at new ids)) ++ v ∷ []) last.spells
        ∙ sym (map-push Some (list_of (kids_at new ids)) (at new id.0))
        ∙ ap (map Some) (sym (list_of-push new ids id));
    good = subst (AllByRecursion (IsGood g)) (sym (list_of-push new ids id))
        (all-push (IsGood g) (list_of (kids_at new ids)) (at new id.0) before.good last.good);
  }

  -- where all and one more are good, all are, and the last is
  pub good-push : (spelled : List (Option Value)) (o : Option Value)
      → HaveGood g.table g.tests g.types (spelled ++ o ∷ [])
      → HaveGood g.table g.tests g.types spelled × HasGood g.table g.tests g.types o
  good-push spelled o good =
      let cut = some-push spelled o good.values_are good.are in
      let goods = subst (AllByRecursion (IsGood g)) cut.whole good.good in (
        record {
          values_are = cut.front;
          are = cut.are;
          good = all-front (IsGood g) cut.front cut.last goods;
        },
        record {
          value = cut.last;
          is = cut.is;
          good = all-last (IsGood g) cut.front cut.last goods;
        },
      )

  -- all that is right, and one more that is
  pub right-push : (spelled : List (Option Value)) (o : Option Value) → HaveRight g n spelled
      → HasRight g n o → HaveRight g n (spelled ++ o ∷ [])
  right-push spelled o before last = record {
    values_are = before.values_are ++ last.value ∷ [];
    spell = ap (λ l. l ++ o ∷ []) before.spell
        ∙ ap (λ v. map Some before.values_are ++ v ∷ []) last.spells
        ∙ sym (map-push Some before.values_are last.value);
    right = all-push (IsRight g n) before.values_are last.value before.right last.right;
  }

  module _ (spelled : List (Option Value)) (ms : List Mark) (s : Seen) (old new : List Value)
      (grown : Extends old new) (k : Kids) (j : Judged) (next : Kids)
      (x : JudgesKids g n spelled ms old k) (y : IsJudged g n s new j)
      (added : IsAdded k j next) where
    abbrev all : List (Option Value)
    all = spelled ++ s.value ∷ []

    abbrev Whole : Kids → Type 0
    Whole = JudgesKids g n all (ms ++ s.marks n) new

    -- the ids, where all are good
    added-ids : (value : Option ValueId) → j.value ≡ value → k.all_good && is_some value ≡ true
        → AreIdsOf g all new (k.ids.items ++ listed value)
    added-ids None is e = let no : false ≡ true = (both-true k.all_good false e).1 in absurd (cc)
    added-ids (Some id) is e =
        let before = ids-grow spelled k.ids.items grown (x.some (both-true k.all_good true e).0) in
        let last : IsIdOf g s.value new id =
        subst (λ v. IfSome v (IsIdOf g s.value new)) is y.judges.some in
        ids-push spelled s.value new k.ids.items id before last

    -- not all are good, where one isn't
    added-bad : (value : Option ValueId) → j.value ≡ value → k.all_good && is_some value ≡ false
        → HaveGood g.table g.tests g.types all → ⊥
    added-bad value is e good =
        let parts = good-push spelled s.value good in
        go k.all_good refl value is e parts.0 parts.1
      where
        go : (b : Bool) → k.all_good ≡ b → (value : Option ValueId) → j.value ≡ value
            → b && is_some value ≡ false → HaveGood g.table g.tests g.types spelled
            → HasGood g.table g.tests g.types s.value → ⊥
        go false b value is e goods last = x.none b goods
        go true b None is e goods last =
            subst (λ v. IfNone v (HasGood g.table g.tests g.types s.value → ⊥)) is y.judges.none last
        go true b (Some id) is e goods last = absurd (cc)

    -- one tree more
    pub kids-add : Whole next
    kids-add = record {
      some = λ e. subst (AreIdsOf g all new) (sym added.ids)
          (added-ids j.value refl (sym added.all_good ∙ e));
      none = λ e. added-bad j.value refl (sym added.all_good ∙ e);
      first = subst (IsFirst (IsFaultAmong g.table g.tests g.types (ms ++ s.marks n)))
          (sym added.first)
          (first-append g.table g.tests g.types ms (s.marks n) k.first j.first x.first
          y.judges.first);
      right = λ e.
          let both = earlier_of-both-none k.first j.first (sym added.first ∙ e) in
          right-push spelled s.value (x.right both.0) (y.right both.1);
    }
