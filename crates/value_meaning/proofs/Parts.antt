-- What the judgement of types, shapes and values of dialects shows, from that of their kids.
use Rattle.std.proofs.Common.{◌≡◌, ℕ, ◌+◌, Bool, true, false, List, [], ◌∷◌}
use Rattle.std.proofs.lemmas.List.{length-map}
use Rattle.std.proofs.Common.{map, length, refl, sym, ◌∙◌, ap, subst}
use Rattle.std.specs.Prelude.{option_map, if◌then◌else◌}
use Rattle.std.specs.List.{AllByRecursion}
use Rattle.std.specs.declared.option.Option.{Option}
use Rattle.std.specs.declared.option.Option.TheVariants.{Some, None}
use Rattle.attr_value.specs.declared.head.Head.{Head}
use Rattle.attr_value.specs.declared.head.Head.TheVariants as h
use Rattle.attr_value.specs.declared.kind.Dim.{Dim}
use Rattle.attr_value.specs.declared.kind.ShapeKind.{ShapeKind}
use Rattle.attr_value.specs.Heads.{IsType}
use Rattle.attr_value.specs.Ids.{kids_at}
use Rattle.attr_value.specs.Values.{Value, list_of}
use Rattle.first_fault.specs.declared.fault.Fault.{Fault}
use Rattle.first_fault.specs.Firsts.{earlier_of, IsFirst}
use Rattle.first_fault.proofs.Firsts.{earlier_of-both-none}
use Rattle.ir_lexer.specs.Spelling.{Text}
use Rattle.value_meaning.specs.declared.code.TheConstants.{PARAMETERS}
use Rattle.value_meaning.specs.declared.judged.Kids.{Kids}
use Rattle.value_meaning.specs.Faults.{HasGood, IsFaultOf}
use Rattle.value_meaning.specs.Judging.{Ground, IsGood, IsOther, IsOfTypes, Judges, JudgesKids}
use Rattle.value_meaning.specs.Meaning.{Mark, claim_at, made_of, measures}
use Rattle.value_meaning.specs.Meaning as claim
use Rattle.value_meaning.specs.Spelled.{all_some, dim_of}
use Rattle.value_meaning.proofs.Among.{first-cons, first-right, first-wrong}
use Rattle.value_meaning.proofs.Leaves.{some-same}
use Rattle.value_meaning.proofs.Made.{all-good, list_of-kids_of}
use Rattle.value_meaning.proofs.Mentions.{fault_at}
use Rattle.value_meaning.proofs.Nodes.{judged, judges-wrong, whole-of, whole-other, whole-good}
use Rattle.value_meaning.proofs.Right.{shape-right}

module _ (g : Ground) (n : ℕ) (place : ℕ) (now : List Value) where
  abbrev Of : Mark → Fault → Type 0
  Of = IsFaultOf g.table g.tests g.types

  -- one more mark without a fault in front
  pub kids-and : (spelled : List (Option Value)) (m : Mark) (ms : List Mark) (k : Kids)
      → IsFirst (Of m) None → JudgesKids g n spelled ms now k
      → JudgesKids g n spelled (m ∷ ms) now k
  kids-and spelled m ms k first x = record {
    some = x.some;
    none = x.none;
    first = first-cons g.table g.tests g.types m ms None k.first first x.first;
    right = x.right;
  }

  -- ---- types

  module _ (head : Head) (other : IsOther head) (spelled : List (Option Value)) (ms : List Mark)
      (k : Kids) (x : JudgesKids g (n + 1) spelled ms now k) where
    -- kids are as many as are spelled
    pub kids-many : k.all_good ≡ true
        → length (list_of (kids_at now k.ids.items)) ≡ length spelled
    kids-many all =
        let L : List Value = list_of (kids_at now k.ids.items) in
        sym (ap length (x.some all).spell ∙ length-map {A = Value} {B = Option Value} L Some)

    -- kids that some value is made of are these
    pub kids-are : (all : k.all_good ≡ true) (good : HasGood g.table g.tests g.types
        (option_map (made_of head) (all_some spelled)))
        → good.value ≡ made_of head (list_of (kids_at now k.ids.items))
    kids-are all good =
        let it = whole-of g n now head other spelled ms good.value good.is in
        it.2 ∙ ap (made_of head) (some-same it.0 (list_of (kids_at now k.ids.items))
        (sym it.1 ∙ (x.some all).spell))

    -- its kids are good
    pub kids-good : HasGood g.table g.tests g.types (option_map (made_of head) (all_some spelled))
        → k.all_good ≡ true
    kids-good good = go k.all_good refl
      where
        go : (b : Bool) → k.all_good ≡ b → k.all_good ≡ true
        go true is = is
        go false is = absurd (x.none is (whole-good g n now head other spelled ms good))

    -- a node with a fault of its own, which can't be good where its kids are
    pub node-bad : (m : Mark) (f : Fault) → IsFirst (Of m) (Some f)
        → (k.all_good ≡ true → IsGood g (made_of head (list_of (kids_at now k.ids.items))) → ⊥)
        → Judges g n (option_map (made_of head) (all_some spelled)) (m ∷ ms) now
        (judged None (earlier_of (Some f) k.first))
    node-bad m f own bad =
        judges-wrong g n now (option_map (made_of head) (all_some spelled)) m ms f k.first own
        x.first
        (λ good. bad (kids-good good) (subst (IsGood g) (kids-are (kids-good good) good) good.good))
        (whole-other g n now head other spelled ms)

    -- what stands where types are asked isn't one
    pub types-bad : IsOfTypes g head (length spelled) → (f : Fault)
        → IsFirst (Of (claim_at place (claim.types spelled))) (Some f)
        → (AllByRecursion IsType (list_of (kids_at now k.ids.items)) → ⊥)
        → Judges g n (option_map (made_of head) (all_some spelled))
        (claim_at place (claim.types spelled) ∷ ms) now
        (judged None (earlier_of (Some f) k.first))
    types-bad of f own wrong =
        node-bad (claim_at place (claim.types spelled)) f own
        (λ all good. wrong (subst (AllByRecursion IsType)
        (list_of-kids_of (list_of (kids_at now k.ids.items))) (good.node.rule.types of.made)))

  -- ---- shapes

  -- no dimension is wrong
  pub measured : (kind : ShapeKind) (dims : List Text) (ds : List Dim) (element : Option Value)
      → all_some (map (dim_of kind) dims) ≡ Some ds
      → IsFirst (Of (claim_at place (measures kind dims element))) None
  measured kind dims ds element e =
      first-right g.table g.tests g.types (claim_at place (measures kind dims element))
      (λ code breaks. let never : Some ds ≡ None = sym e ∙ breaks.2 in absurd (cc))

  -- a shape is made of a type
  pub shape-of : (kind : ShapeKind) (dims : List Text) (ds : List Dim)
      → all_some (map (dim_of kind) dims) ≡ Some ds → IsOfTypes g (h.Shaped kind ds) 1
  shape-of kind dims ds e = record {
    made = refl;
    keeps = λ kids many types. record {
      rule = record { count = many; types = λ made. types; right = shape-right kind dims ds e };
      defined = tt;
    };
  }

  -- what one kid makes
  pub made-of-one : (head : Head) (spelled : Option Value)
      → option_map (made_of head) (all_some (spelled ∷ []))
      ≡ option_map (λ v. made_of head (v ∷ [])) spelled
  made-of-one head None = refl
  made-of-one head (Some v) = refl

  module _ (kind : ShapeKind) (dims : List Text) (wrong : all_some (map (dim_of kind) dims) ≡ None)
      (spelled : Option Value) (ms : List Mark) (k : Kids)
      (x : JudgesKids g (n + 1) (spelled ∷ []) ms now k) where
    -- the fault of dimensions, where it is asked
    abbrev pub asked : Bool → Option Fault
    asked b = if b then Some (fault_at place PARAMETERS) else None

    -- it is asked where the element is good
    first-asked : (b : Bool) → k.all_good ≡ b
        → IsFirst (Of (claim_at place (measures kind dims spelled))) (asked b)
    first-asked true all =
        first-wrong g.table g.tests g.types (claim_at place (measures kind dims spelled))
        (fault_at place PARAMETERS)
        (record { place = refl; breaks = (refl, element-good, wrong) })
        (λ code breaks. sym breaks.0)
      where
        go : (vs : List Value) → spelled ∷ [] ≡ map Some vs → AllByRecursion (IsGood g) vs
            → HasGood g.table g.tests g.types spelled
        go [] e good = absurd (cc)
        go (v ∷ vs) e good = record { value = v; is = cc; good = good.0 }

        element-good : HasGood g.table g.tests g.types spelled
        element-good =
            go (list_of (kids_at now k.ids.items)) (x.some all).spell (x.some all).good
    first-asked false bad =
        first-right g.table g.tests g.types (claim_at place (measures kind dims spelled))
        (λ code breaks. x.none bad (record {
          values_are = breaks.1.value ∷ [];
          are = ap (λ o. o ∷ []) breaks.1.is;
          good = (breaks.1.good, tt);
        }))

    -- a shape with a wrong dimension
    pub shape-wrong : (a : Option Fault)
        → IsFirst (Of (claim_at place (claim.types (spelled ∷ [])))) a
        → Judges g n None
        (claim_at place (claim.types (spelled ∷ [])) ∷ claim_at place (measures kind dims spelled)
        ∷ ms) now (judged None (earlier_of a (earlier_of (asked k.all_good) k.first)))
    shape-wrong a first = record {
      some = tt;
      none = λ good. let never : None ≡ Some good.value = good.is in absurd (cc);
      first = first-cons g.table g.tests g.types (claim_at place (claim.types (spelled ∷ [])))
          (claim_at place (measures kind dims spelled) ∷ ms) a
          (earlier_of (asked k.all_good) k.first) first
          (first-cons g.table g.tests g.types (claim_at place (measures kind dims spelled)) ms
          (asked k.all_good) k.first (first-asked k.all_good refl) x.first);
      right = λ e room.
          let both = earlier_of-both-none a (earlier_of (asked k.all_good) k.first) e in
          let inner = earlier_of-both-none (asked k.all_good) k.first both.1 in
          absurd (faultless k.all_good refl inner.0 inner.1);
      integer = λ v kind e int. absurd (cc);
    }
      where
        faultless : (b : Bool) → k.all_good ≡ b → asked b ≡ None → k.first ≡ None → ⊥
        faultless true all e none = cc
        faultless false bad e none =
            let kids = x.right none in
            x.none bad (record {
              values_are = kids.values_are;
              are = kids.spell;
              good = all-good g (n + 1) kids.values_are kids.right;
            })
