-- The faults of marks: of none, of one, of those behind others, and of those of many parts; and
-- the first of them, as the marks come.
use Rattle.std.proofs.Common.{◌≡◌, ◌⊎◌, inl, inr, ℕ, List, [], ◌∷◌, ◌++◌, Contains}
use Rattle.std.proofs.Common.{refl, sym, ◌∙◌, ap, subst, arith, append_assoc}
use Rattle.std.proofs.lemmas.List.{append-nil}
use Rattle.std.proofs.lemmas.List.Elements.{Contains-append_left, Contains-append_right}
use Rattle.std.proofs.lemmas.List.Elements.{Contains-append_cases, Contains-push_cases}
use Rattle.std.specs.List.{flat_map}
use Rattle.std.specs.declared.option.Option.{Option}
use Rattle.std.specs.declared.option.Option.TheVariants.{Some, None}
use Rattle.attr_value.specs.Values.{Value}
use Rattle.dialect_defs.specs.declared.definition.TypeDef.{TypeDef}
use Rattle.dialect_defs.specs.Assignments.{Tests}
use Rattle.first_fault.specs.declared.fault.Fault.{Fault}
use Rattle.first_fault.specs.Firsts.{earlier_of, NoLater, IsFirst}
use Rattle.first_fault.proofs.Firsts.{first-same, first-either}
use Rattle.value_meaning.specs.Faults.{Breaks, IsFaultOf, IsFaultAmong}
use Rattle.value_meaning.specs.Meaning.{Mark}

-- nothing is in an empty list
pub contains-nil : {X : Type 0} (x : X) → Contains [] x → ⊥
contains-nil x (k, less, is) = absurd (omega arith)

-- what a list of one has is this one
pub contains-one : {X : Type 0} (y x : X) → Contains (y ∷ []) x → y ≡ x
contains-one y x has = elim (Contains-push_cases [] y x has) [
  | inl h ↦ absurd (contains-nil x h)
  | inr is ↦ is
]

-- the head is in its list
pub contains-head : {X : Type 0} (x : X) (xs : List X) → Contains (x ∷ xs) x
contains-head x xs = (0, omega arith, refl)

-- what is in the tail is in the list
pub contains-tail : {X : Type 0} (y : X) (xs : List X) (x : X) → Contains xs x
    → Contains (y ∷ xs) x
contains-tail y xs x has = Contains-append_right (y ∷ []) xs x has

-- what is in a list is its head or in its tail
pub contains-cons : {X : Type 0} (y : X) (xs : List X) (x : X) → Contains (y ∷ xs) x
    → (y ≡ x) ⊎ Contains xs x
contains-cons y xs x has = elim (Contains-append_cases (y ∷ []) xs x has) [
  | inl h ↦ inl (contains-one y x h)
  | inr h ↦ inr h
]

-- with one more at the end, what is made of each comes behind
pub flat_map-push : {X Y : Type 0} (k : X → List Y) (xs : List X) (x : X)
    → flat_map k (xs ++ x ∷ []) ≡ flat_map k xs ++ k x
flat_map-push k [] x = append-nil (k x)
flat_map-push k (y ∷ xs) x =
    ap (λ l. k y ++ l) (flat_map-push k xs x) ∙ sym (append_assoc (k y) (flat_map k xs) (k x))

module _ (values : List Value) (tests : Tests) (types : List TypeDef) where
  abbrev Of : Mark → Fault → Type 0
  Of = IsFaultOf values tests types

  abbrev Among : List Mark → Fault → Type 0
  Among = IsFaultAmong values tests types

  -- ---- faults

  -- among no marks there is no fault
  pub among-nil : (f : Fault) → Among [] f → ⊥
  among-nil f x = contains-nil x.mark x.among

  -- the fault of the first mark is one
  pub among-here : (m : Mark) (ms : List Mark) (f : Fault) → Of m f → Among (m ∷ ms) f
  among-here m ms f x = record { mark = m; among = contains-head m ms; is = x }

  -- those of the other marks are
  pub among-behind : (m : Mark) (ms : List Mark) (f : Fault) → Among ms f → Among (m ∷ ms) f
  among-behind m ms f x =
      record { mark = x.mark; among = contains-tail m ms x.mark x.among; is = x.is }

  -- a fault is that of the first mark or one of the others
  pub among-cons : (m : Mark) (ms : List Mark) (f : Fault) → Among (m ∷ ms) f → Of m f ⊎ Among ms f
  among-cons m ms f x = elim (contains-cons m ms x.mark x.among) [
    | inl same ↦ inl (subst (λ (k : Mark). Of k f) (sym same) x.is)
    | inr among ↦ inr (record { mark = x.mark; among = among; is = x.is })
  ]

  -- a fault among one mark is that mark's
  pub among-one : (m : Mark) (f : Fault) → Among (m ∷ []) f → Of m f
  among-one m f x = elim (among-cons m [] f x) as (λ _. Of m f) [
    | inl is ↦ is
    | inr rest ↦ absurd (among-nil f rest)
  ]

  -- the faults of marks stay with others behind them
  pub among-left : (ms ns : List Mark) (f : Fault) → Among ms f → Among (ms ++ ns) f
  among-left ms ns f x = record {
    mark = x.mark;
    among = Contains-append_left ms ns x.mark x.among;
    is = x.is;
  }

  -- and with others before them
  pub among-right : (ms ns : List Mark) (f : Fault) → Among ns f → Among (ms ++ ns) f
  among-right ms ns f x = record {
    mark = x.mark;
    among = Contains-append_right ms ns x.mark x.among;
    is = x.is;
  }

  -- a fault among marks and others is one of these or of those
  pub among-append : (ms ns : List Mark) (f : Fault) → Among (ms ++ ns) f → Among ms f ⊎ Among ns f
  among-append ms ns f x = elim (Contains-append_cases ms ns x.mark x.among) [
    | inl among ↦ inl (record { mark = x.mark; among = among; is = x.is })
    | inr among ↦ inr (record { mark = x.mark; among = among; is = x.is })
  ]

  -- ---- the first of them

  -- a mark whose claim breaks no rule has no fault
  pub first-right : (m : Mark) → ((code : ℕ) → Breaks values tests types m.claim code → ⊥)
      → IsFirst (Of m) None
  first-right m right = λ f x. right f.code x.breaks

  -- where it breaks one rule alone, that is its first fault
  pub first-wrong : (m : Mark) (f : Fault) → Of m f
      → ((code : ℕ) → Breaks values tests types m.claim code → f.code ≡ code)
      → IsFirst (Of m) (Some f)
  first-wrong m f x once = (x, λ g y. no_later g y)
    where
      no_later : (g : Fault) → Of m g → NoLater f g
      no_later g y =
          let p : f.place ≡ m.place = x.place in
          let q : g.place ≡ m.place = y.place in
          let code : f.code ≡ g.code = once g.code y.breaks in
          inr (cc, omega arith)

  -- no mark has no first fault
  pub first-nil : IsFirst (Among []) None
  first-nil = among-nil

  -- the first of one mark
  pub first-single : (m : Mark) (a : Option Fault) → IsFirst (Of m) a → IsFirst (Among (m ∷ [])) a
  first-single m a x =
      first-same (Of m) (Among (m ∷ [])) a (among-here m []) (among-one m) x

  -- the first of a mark and of those behind it
  pub first-cons : (m : Mark) (ms : List Mark) (a b : Option Fault) → IsFirst (Of m) a
      → IsFirst (Among ms) b → IsFirst (Among (m ∷ ms)) (earlier_of a b)
  first-cons m ms a b x y =
      first-same (λ f. Of m f ⊎ Among ms f) (Among (m ∷ ms)) (earlier_of a b)
      (λ f z. elim z as (λ _. Among (m ∷ ms) f) [
        | inl p ↦ among-here m ms f p
        | inr q ↦ among-behind m ms f q
      ])
      (among-cons m ms)
      (first-either (Of m) (Among ms) a b x y)

  -- the first of marks and of those behind them
  pub first-append : (ms ns : List Mark) (a b : Option Fault) → IsFirst (Among ms) a
      → IsFirst (Among ns) b → IsFirst (Among (ms ++ ns)) (earlier_of a b)
  first-append ms ns a b x y =
      first-same (λ f. Among ms f ⊎ Among ns f) (Among (ms ++ ns)) (earlier_of a b)
      (λ f z. elim z as (λ _. Among (ms ++ ns) f) [
        | inl p ↦ among-left ms ns f p
        | inr q ↦ among-right ms ns f q
      ])
      (among-append ms ns)
      (first-either (Among ms) (Among ns) a b x y)

  -- the first of the marks of many parts, with one part more
  pub first-flat_map : {X : Type 0} (k : X → List Mark) (xs : List X) (x : X) (a b : Option Fault)
      → IsFirst (Among (flat_map k xs)) a → IsFirst (Among (k x)) b
      → IsFirst (Among (flat_map k (xs ++ x ∷ []))) (earlier_of a b)
  first-flat_map k xs x a b p q =
      subst (λ (ms : List Mark). IsFirst (Among ms) (earlier_of a b)) (sym (flat_map-push k xs x))
      (first-append (flat_map k xs) (k x) a b p q)

  -- of parts in front of others
  pub first-parts : {X : Type 0} (k : X → List Mark) (x : X) (xs : List X) (a b : Option Fault)
      → IsFirst (Among (k x)) a → IsFirst (Among (flat_map k xs)) b
      → IsFirst (Among (flat_map k (x ∷ xs))) (earlier_of a b)
  first-parts k x xs a b p q = first-append (k x) (flat_map k xs) a b p q
