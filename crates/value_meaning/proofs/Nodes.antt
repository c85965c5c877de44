-- What the judgement of a node shows, from that of what stands in it.
use Rattle.std.proofs.Common.{◌≡◌, ◌<◌, ◌≤◌, ℕ, ◌+◌, true, false, List, [], ◌∷◌}
use Rattle.std.proofs.Common.{map, length, refl, sym, ◌∙◌, ap, subst, arith, option_map}
use Rattle.std.specs.declared.option.Option.{Option}
use Rattle.std.specs.declared.option.Option.TheVariants.{Some, None}
use Rattle.attr_value.specs.declared.head.Head.{Head}
use Rattle.attr_value.specs.declared.head.Head.TheVariants as h
use Rattle.attr_value.specs.declared.head.TheConstants.{DEPTH_LIMIT}
use Rattle.attr_value.specs.declared.head.ValueId.{ValueId}
use Rattle.attr_value.specs.declared.kind.IntKind.{IntKind}
use Rattle.attr_value.specs.Heads.{OwnRule}
use Rattle.attr_value.specs.Ids.{at, kids_at}
use Rattle.attr_value.specs.Values.{Value, value, list_of, depth}
use Rattle.dialect_defs.specs.Goodness.{IsDefined}
use Rattle.first_fault.specs.declared.fault.Fault.{Fault}
use Rattle.first_fault.specs.Firsts.{earlier_of, IsFirst}
use Rattle.first_fault.proofs.Firsts.{earlier_of-both-none}
use Rattle.value_meaning.specs.declared.judged.Judged.{Judged}
use Rattle.value_meaning.specs.declared.judged.Kids.{Kids}
use Rattle.value_meaning.specs.Faults.{HasGood, HaveGood, IsFaultOf, IsFaultAmong}
use Rattle.value_meaning.specs.Judging.{Ground, IsGood, Fits, HasRight}
use Rattle.value_meaning.specs.Judging.{IsNoBadInteger, Judges, JudgesKids}
use Rattle.value_meaning.specs.Meaning.{Mark, made_of, leaf}
use Rattle.value_meaning.specs.Spelled.{all_some}
use Rattle.value_meaning.proofs.Among.{first-nil, first-cons}
use Rattle.value_meaning.proofs.Made.{all_some-some, all_some-are, kids_of-list_of}
use Rattle.value_meaning.proofs.Made.{greatest-fits, good-made, good-kids, all-good, all-fit}

-- what is judged so
abbrev pub judged : Option ValueId → Option Fault → Judged
judged v first = record { value = v; first = first }

module _ (g : Ground) (n : ℕ) (new : List Value) where
  abbrev Of : Mark → Fault → Type 0
  Of = IsFaultOf g.table g.tests g.types

  abbrev Among : List Mark → Fault → Type 0
  Among = IsFaultAmong g.table g.tests g.types

  -- one more mark in front
  pub judges-and : (spelled : Option Value) (m : Mark) (ms : List Mark) (a : Option Fault)
      (j : Judged) → IsFirst (Of m) a → Judges g n spelled ms new j
      → Judges g n spelled (m ∷ ms) new (judged j.value (earlier_of a j.first))
  judges-and spelled m ms a j first x = record {
    some = x.some;
    none = x.none;
    first = first-cons g.table g.tests g.types m ms a j.first first x.first;
    right = λ e room. x.right (earlier_of-both-none a j.first e).1 room;
    integer = x.integer;
  }

  -- a value without kids that is good
  pub judges-leaf : (head : Head) (id : ValueId) → id.0 < length new → at new id.0 ≡ leaf head
      → IsGood g (leaf head) → Judges g n (Some (leaf head)) [] new (judged (Some id) None)
  judges-leaf head id known is good = record {
    some = record {
      known = known;
      spells = ap Some (sym is);
      good = subst (IsGood g) (sym is) good;
    };
    none = tt;
    first = first-nil g.table g.tests g.types;
    right = λ e room. record {
      value = leaf head;
      spells = refl;
      right = record { good = good; fits = omega (arith, room) };
    };
    integer = λ v kind e int. let same : leaf head ≡ v = cc in subst (IsGood g) same good;
  }

  -- a node with a fault of its own, which isn't good
  pub judges-wrong : (spelled : Option Value) (m : Mark) (ms : List Mark) (f : Fault)
      (a : Option Fault) → IsFirst (Of m) (Some f) → IsFirst (Among ms) a
      → (HasGood g.table g.tests g.types spelled → ⊥) → IsNoBadInteger g spelled
      → Judges g n spelled (m ∷ ms) new (judged None (earlier_of (Some f) a))
  judges-wrong spelled m ms f a own first none integer = record {
    some = tt;
    none = none;
    first = first-cons g.table g.tests g.types m ms (Some f) a own first;
    right = λ e room.
        let no : Some f ≡ None = (earlier_of-both-none (Some f) a e).0 in absurd (cc);
    integer = integer;
  }

  -- ---- nodes with kids

  module _ (head : Head) (other : (kind : IntKind) → head ≡ h.Int kind → ⊥)
      (spelled : List (Option Value)) (ms : List Mark) where
    abbrev whole : Option Value
    whole = option_map (made_of head) (all_some spelled)

    -- what it spells, where its kids spell these
    pub whole-is : (vs : List Value) → spelled ≡ map Some vs → whole ≡ Some (made_of head vs)
    whole-is vs e = ap (option_map (made_of head)) (ap all_some e ∙ all_some-some vs)

    -- a value that it spells is made of what its kids spell
    pub whole-of : (v : Value) → whole ≡ Some v
        → (vs : List Value) × (spelled ≡ map Some vs) × (v ≡ made_of head vs)
    whole-of v e = go (all_some spelled) refl e
      where
        go : (r : Option (List Value)) → all_some spelled ≡ r
            → option_map (made_of head) r ≡ Some v
            → (vs : List Value) × (spelled ≡ map Some vs) × (v ≡ made_of head vs)
        go None is e = absurd (cc)
        go (Some vs) is e = (vs, all_some-are spelled vs is, cc)

    -- it is no integer type
    pub whole-other : IsNoBadInteger g whole
    whole-other v kind e int =
        let it = whole-of v e in
        absurd (other kind (ap (λ x. x.head) (sym it.2) ∙ int))

    -- where it is good, its kids are
    pub whole-good : HasGood g.table g.tests g.types whole → HaveGood g.table g.tests g.types spelled
    whole-good good =
        let it = whole-of good.value good.is in
        record {
          values_are = it.0;
          are = it.1;
          good = good-kids g head it.0 (subst (IsGood g) it.2 good.good);
        }

    -- a node of which some kid isn't good
    pub judges-not-made : (k : Kids) → JudgesKids g (n + 1) spelled ms new k
        → k.all_good ≡ false → Judges g n whole ms new (judged None k.first)
    judges-not-made k x bad = record {
      some = tt;
      none = λ good. x.none bad (whole-good good);
      first = x.first;
      right = λ e room.
          let kids = x.right e in
          absurd (x.none bad (record {
            values_are = kids.values_are;
            are = kids.spell;
            good = all-good g (n + 1) kids.values_are kids.right;
          }));
      integer = whole-other;
    }

    -- A node whose kids are good, which keeps to its rules, and which was interned: it is good
    -- where it nests no deeper than the limit.
    module _ (least : 1 ≤ n) (k : Kids) (old : List Value)
        (x : JudgesKids g (n + 1) spelled ms old k) (all : k.all_good ≡ true)
        (own : OwnRule head (list_of (kids_at old k.ids.items)))
        (defined : IsDefined g.table g.tests g.types head (list_of (kids_at old k.ids.items)))
        (id : ValueId) (known : id.0 < length new)
        (stands : at new id.0 ≡ value head (kids_at old k.ids.items)) where
      abbrev made : Value
      made = made_of head (list_of (kids_at old k.ids.items))

      -- it is the value of the id
      made-is : at new id.0 ≡ made
      made-is = stands ∙ ap (value head) (sym (kids_of-list_of (kids_at old k.ids.items)))

      -- what it spells
      made-spelled : whole ≡ Some made
      made-spelled = whole-is (list_of (kids_at old k.ids.items)) (x.some all).spell

      -- it is good where it isn't too deep
      made-good : depth (at new id.0) ≤ DEPTH_LIMIT → IsGood g made
      made-good shallow =
          good-made g head (list_of (kids_at old k.ids.items)) (x.some all).good own defined
          (subst (λ v. depth v ≤ DEPTH_LIMIT) made-is shallow)

      -- where there is no fault, there is room for it
      made-right : k.first ≡ None → n ≤ DEPTH_LIMIT → HasRight g n whole
      made-right e room =
          let kids = x.right e in
          let same : made ≡ made_of head kids.values_are =
          let it : Some made ≡ Some (made_of head kids.values_are) =
          sym made-spelled ∙ whole-is kids.values_are kids.spell in cc in
          let less = greatest-fits (n + 1) kids.values_are (omega (arith, room))
          (all-fit g (n + 1) kids.values_are kids.right) in
          let fits : Fits n made =
          subst (Fits n) (sym same) (omega (arith, less)) in
          record {
            value = made;
            spells = made-spelled;
            right = record {
              good = made-good (subst (λ v. depth v ≤ DEPTH_LIMIT) (sym made-is)
                  (omega (arith, fits, least)));
              fits = fits;
            };
          }

      -- it isn't too deep
      pub judges-made : depth (at new id.0) ≤ DEPTH_LIMIT
          → Judges g n whole ms new (judged (Some id) k.first)
      judges-made shallow = record {
        some = record {
          known = known;
          spells = made-spelled ∙ ap Some (sym made-is);
          good = subst (IsGood g) (sym made-is) (made-good shallow);
        };
        none = tt;
        first = x.first;
        right = made-right;
        integer = whole-other;
      }

      -- it is too deep
      pub judges-too-deep : DEPTH_LIMIT < depth (at new id.0)
          → Judges g n whole ms new (judged None k.first)
      judges-too-deep deep = record {
        some = tt;
        none = λ good.
            let it : made ≡ good.value =
            let e : Some made ≡ Some good.value = sym made-spelled ∙ good.is in cc in
            let shallow = (subst (IsGood g) (made-is-not it) good.good).shallow in
            omega (arith, deep, shallow);
        first = x.first;
        right = made-right;
        integer = whole-other;
      }
        where
          made-is-not : {v : Value} → made ≡ v → v ≡ at new id.0
          made-is-not it = sym it ∙ sym made-is
