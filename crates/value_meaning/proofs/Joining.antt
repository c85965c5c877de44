-- Kids put behind others: one tree more, and the only one.
use Rattle.std.proofs.Common.{◌≡◌, ℕ, true, false, List, [], ◌∷◌, ◌++◌}
use Rattle.std.proofs.Common.{map, refl, sym, ◌∙◌, ap, subst, IfSome, IfNone}
use Rattle.std.proofs.Common.{◌<◌}
use Rattle.std.specs.List.{AllByRecursion, flat_map}
use Rattle.std.specs.Prelude.{slice_get}
use Rattle.std.specs.declared.option.Option.{Option}
use Rattle.std.specs.declared.option.Option.TheVariants.{Some, None}
use Rattle.attr_value.specs.declared.head.ValueId.{ValueId}
use Rattle.attr_value.specs.Ids.{AreKnown}
use Rattle.attr_value.specs.Values.{Value}
use Rattle.constraint_solver.specs.Grown.{Extends}
use Rattle.first_fault.specs.Firsts.{IsFirst}
use Rattle.value_meaning.specs.declared.judged.Judged.{Judged}
use Rattle.value_meaning.specs.declared.judged.Kids.{Kids}
use Rattle.value_meaning.specs.Faults.{HasGood, HaveGood, IsFaultAmong}
use Rattle.value_meaning.specs.Gathered.{IsAdded, listed}
use Rattle.value_meaning.specs.Judging.{Ground, IsRight, IsIdOf, HasRight, IsJudged}
use Rattle.value_meaning.specs.Judging.{AreIdsOf, HaveRight, JudgesKids, AreJudged}
use Rattle.value_meaning.specs.Judging.{IsNoBadInteger}
use Rattle.value_meaning.specs.Meaning.{Mark, Seen}
use Rattle.value_meaning.proofs.Among.{flat_map-push}
use Rattle.value_meaning.proofs.Gathering.{kids-add, known-push, map-push}
use Rattle.value_meaning.proofs.Nodes.{judged}
use Rattle.std.proofs.lemmas.List.{append-nil}

-- ---- lists

-- ids that are known, with one more where there is one
pub added-known : (len : ℕ) (k next : Kids) (j : Judged) → IsAdded k j next
    → AreKnown len k.ids.items → IfSome j.value (λ id. id.0 < len) → AreKnown len next.ids.items
added-known len k next j added known less =
    subst (AreKnown len) (sym added.ids) (go j.value less)
  where
    go : (v : Option ValueId) → IfSome v (λ id. id.0 < len)
        → AreKnown len (k.ids.items ++ listed v)
    go None less = subst (AreKnown len) (sym (append-nil k.ids.items)) known
    go (Some id) less = known-push len k.ids.items id known less

-- the first of ids that are known is
pub first-known : (len : ℕ) (ids : List ValueId) (v : Option ValueId) → v ≡ slice_get ids 0
    → AreKnown len ids → IfSome v (λ id. id.0 < len)
first-known len [] v is known = subst (λ v. IfSome v (λ id. id.0 < len)) (sym is) tt
first-known len (id ∷ ids) v is known =
    subst (λ v. IfSome v (λ id. id.0 < len)) (sym is) known.0

module _ (g : Ground) (n : ℕ) where
  -- ---- one tree

  -- one tree more behind some
  pub listed-add : (ss : List Seen) (s : Seen) (old new : List Value) (grown : Extends old new)
      (k : Kids) (j : Judged) (next : Kids) → AreJudged g n ss old k → IsJudged g n s new j
      → IsAdded k j next → AreJudged g n (ss ++ s ∷ []) new next
  listed-add ss s old new grown k j next x y added =
      let marks : List Mark = flat_map (λ (s : Seen). s.marks n) ss in
      let values : List (Option Value) = map (λ (s : Seen). s.value) ss in
      subst (λ m. JudgesKids g n (map (λ (s : Seen). s.value) (ss ++ s ∷ [])) m new next)
      (sym (flat_map-push (λ (s : Seen). s.marks n) ss s))
      (subst (λ l. JudgesKids g n l (marks ++ s.marks n) new next)
      (sym (map-push (λ (s : Seen). s.value) ss s))
      (kids-add g n values marks s old new grown k j next x y added))

  -- the only one of a list of ids
  only-id : (spelled : Option Value) (new : List Value) (ids : List ValueId)
      → AreIdsOf g (spelled ∷ []) new ids → (id : ValueId) × (slice_get ids 0 ≡ Some id)
      × IsIdOf g spelled new id
  only-id spelled new [] x = let e = x.spell in absurd (cc)
  only-id spelled new (id ∷ ids) x = (
    id,
    refl,
    record {
      known = x.known.0;
      spells = let e = x.spell in cc;
      good = x.good.0;
    },
  )

  -- the only one of a list of good values
  only-good : (spelled : Option Value) → HasGood g.table g.tests g.types spelled
      → HaveGood g.table g.tests g.types (spelled ∷ [])
  only-good spelled good = record {
    values_are = good.value ∷ [];
    are = ap (λ o. o ∷ []) good.is;
    good = (good.good, tt);
  }

  only-right : (spelled : Option Value) → HaveRight g n (spelled ∷ []) → HasRight g n spelled
  only-right spelled x = go x.values_are x.spell x.right
    where
      go : (vs : List Value) → spelled ∷ [] ≡ map Some vs → AllByRecursion (IsRight g n) vs
          → HasRight g n spelled
      go [] e all = absurd (cc)
      go (v ∷ vs) e all = record { value = v; spells = cc; right = all.0 }

  module _ (s : Seen) (new : List Value) (k : Kids) (x : AreJudged g n (s ∷ []) new k)
      (integer : IsNoBadInteger g s.value) where
    only-judged : (v : Option ValueId) → IfSome v (IsIdOf g s.value new)
        → IfNone v (HasGood g.table g.tests g.types s.value → ⊥)
        → IsJudged g n s new (judged v k.first)
    only-judged v some none = record {
      judges = record {
        some = some;
        none = none;
        first = subst (λ ms. IsFirst (IsFaultAmong g.table g.tests g.types ms) k.first)
            (append-nil (s.marks n)) x.first;
        right = λ e room. only-right s.value (x.right e);
        integer = integer;
      };
      right = λ e. only-right s.value (x.right e);
    }

    -- it isn't good
    pub only-bad : k.all_good ≡ false → IsJudged g n s new (judged None k.first)
    only-bad bad = only-judged None tt (λ good. x.none bad (only-good s.value good))

    -- it is good
    pub only-some : (v : Option ValueId) → k.all_good ≡ true → v ≡ slice_get k.ids.items 0
        → IsJudged g n s new (judged v k.first)
    only-some v all is =
        let it = only-id s.value new k.ids.items (x.some all) in
        subst (λ v. IsJudged g n s new (judged v k.first)) (sym (is ∙ it.1))
        (only-judged (Some it.0) it.2 tt)
