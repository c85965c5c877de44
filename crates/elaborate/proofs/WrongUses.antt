-- Wrong uses among those of an operation, and of operations one after the other.
use Rattle.std.proofs.Common.{◌≡◌, ◌⊎◌, inl, inr, ℕ, zero, suc, ◌+◌, ◌-◌, ◌<◌, List, []}
use Rattle.std.proofs.Common.{◌∷◌, ◌++◌, length, take, drop, get_or, refl, sym, ◌∙◌, ap, subst}
use Rattle.std.proofs.Common.{arith, length-take}
use Rattle.std.proofs.Common.{slice_get, Some}
use Rattle.std.proofs.lemmas.Bool.{cases_lt}
use Rattle.std.proofs.lemmas.List.{take_more}
use Rattle.std.proofs.lemmas.Option.{slice_get_within}
use Rattle.std.specs.declared.option.Option.{Option}
use Rattle.std.specs.declared.option.Option.TheVariants.{None}
use Rattle.attr_value.specs.declared.head.ValueId.{ValueId}
use Rattle.elaborate.specs.Uses.{IsWrongUse}
use Rattle.first_fault.specs.declared.fault.Fault.{Fault}
use Rattle.first_fault.specs.Firsts.{IsFirst, earlier_of}
use Rattle.first_fault.proofs.Firsts.{first-either, first-same}
use Rattle.generic_syntax.specs.declared.module_cst.UseCst.{UseCst}
use Rattle.symbol_scopes.proofs.Lists.{get-front, get-before}

-- ---- places in lists

module _ {A : Type 0} where
  -- a place behind the first list is one of the second
  pub get-behind : (xs ys : List A) (j : ℕ) → slice_get (xs ++ ys) (length xs + j) ≡ slice_get ys j
  get-behind [] ys j = let e : 0 + j ≡ j = omega arith in ap (slice_get ys) e
  get-behind (x ∷ xs) ys j =
      let e : suc (length xs) + j ≡ suc (length xs + j) = omega arith in
      ap (slice_get (x ∷ (xs ++ ys))) e ∙ get-behind xs ys j

  -- what stands between two lists
  pub get-between : (xs ys : List A) (y : A) → slice_get (xs ++ y ∷ ys) (length xs) ≡ Some y
  get-between [] ys y = refl
  get-between (x ∷ xs) ys y = get-between xs ys y

  -- what is left from a place on
  pub get-left : (xs : List A) (k j : ℕ) → slice_get xs (k + j) ≡ slice_get (drop k xs) j
  get-left xs zero j = let e : 0 + j ≡ j = omega arith in ap (slice_get xs) e
  get-left [] (suc k) j = refl
  get-left (x ∷ xs) (suc k) j =
      let e : suc k + j ≡ suc (k + j) = omega arith in
      ap (slice_get (x ∷ xs)) e ∙ get-left xs k j

  -- a list goes on at a place with so many items of another
  pub record GoesOn (k n : ℕ) (all part : List A) : Type 0 where
    pub same : (j : ℕ) → j < n → slice_get all (k + j) ≡ slice_get part j

  pub goes-left : (k n : ℕ) (all : List A) → GoesOn k n all (drop k all)
  goes-left k n all = record { same = λ j less. get-left all k j }

  pub goes-one : (k : ℕ) (all : List A) (x : A) → slice_get all k ≡ Some x
      → GoesOn k 1 all (x ∷ [])
  goes-one k all x is = record { same = one }
    where
      one : (j : ℕ) → j < 1 → slice_get all (k + j) ≡ slice_get (x ∷ []) j
      one zero less = let e : k + 0 ≡ k = omega arith in ap (slice_get all) e ∙ is
      one (suc j) less = absurd (omega arith)

-- ---- wrong uses

module _ (types : List ValueId) where
  -- no use is wrong
  pub none-wrong : (shown : List ValueId) (numbers : List ℕ)
      → IsFirst (IsWrongUse types [] shown numbers) None
  none-wrong shown numbers f h = let stands = h.stands in absurd (cc)

  -- some uses, and others behind them, whose types and numbers go on
  pub wrong-behind : (us vs : List UseCst) (k : ℕ) (shown shown_on : List ValueId)
      (numbers numbers_on : List ℕ) (a b : Option Fault) → k ≡ length us
      → GoesOn k (length vs) shown shown_on → GoesOn k (length vs) numbers numbers_on
      → IsFirst (IsWrongUse types us shown numbers) a
      → IsFirst (IsWrongUse types vs shown_on numbers_on) b
      → IsFirst (IsWrongUse types (us ++ vs) shown numbers) (earlier_of a b)
  wrong-behind us vs k shown shown_on numbers numbers_on a b long types_on on x y =
      first-same (λ f. IsWrongUse types us shown numbers f
      ⊎ IsWrongUse types vs shown_on numbers_on f) (IsWrongUse types (us ++ vs) shown numbers)
      (earlier_of a b)
      (λ f z. elim z as (λ _. IsWrongUse types (us ++ vs) shown numbers f) [
        | inl h ↦ in-front f h
        | inr h ↦ at-back f h
      ])
      either
      (first-either (IsWrongUse types us shown numbers)
      (IsWrongUse types vs shown_on numbers_on) a b x y)
    where
      in-front : (f : Fault) → IsWrongUse types us shown numbers f
          → IsWrongUse types (us ++ vs) shown numbers f
      in-front f h = record {
        at = h.at;
        use_there = h.use_there;
        type = h.type;
        number = h.number;
        stands = get-front us vs h.at h.use_there h.stands;
        typed = h.typed;
        means = h.means;
        differs = h.differs;
        place = h.place;
        code = h.code;
      }

      at-back : (f : Fault) → IsWrongUse types vs shown_on numbers_on f
          → IsWrongUse types (us ++ vs) shown numbers f
      at-back f h =
          let less : h.at < length vs = slice_get_within vs h.at h.use_there h.stands in
          record {
            at = k + h.at;
            use_there = h.use_there;
            type = h.type;
            number = h.number;
            stands =
                ap (λ n. slice_get (us ++ vs) (n + h.at)) long ∙ get-behind us vs h.at
                ∙ h.stands;
            typed = types_on.same h.at less ∙ h.typed;
            means = on.same h.at less ∙ h.means;
            differs = h.differs;
            place = h.place;
            code = h.code;
          }

      later : (f : Fault) (h : IsWrongUse types (us ++ vs) shown numbers f) (j : ℕ)
          → h.at ≡ k + j → IsWrongUse types vs shown_on numbers_on f
      later f h j is =
          let there : slice_get vs j ≡ Some h.use_there =
          sym (get-behind us vs j) ∙ ap (λ n. slice_get (us ++ vs) (n + j)) (sym long)
          ∙ ap (slice_get (us ++ vs)) (sym is) ∙ h.stands in
          let less : j < length vs = slice_get_within vs j h.use_there there in
          record {
            at = j;
            use_there = h.use_there;
            type = h.type;
            number = h.number;
            stands = there;
            typed = sym (types_on.same j less) ∙ ap (slice_get shown) (sym is) ∙ h.typed;
            means = sym (on.same j less) ∙ ap (slice_get numbers) (sym is) ∙ h.means;
            differs = h.differs;
            place = h.place;
            code = h.code;
          }

      either : (f : Fault) → IsWrongUse types (us ++ vs) shown numbers f
          → IsWrongUse types us shown numbers f ⊎ IsWrongUse types vs shown_on numbers_on f
      either f h = elim (cases_lt h.at (length us)) [
        | inl less ↦ inl (record {
          at = h.at;
          use_there = h.use_there;
          type = h.type;
          number = h.number;
          stands = sym (get-before us vs h.at less) ∙ h.stands;
          typed = h.typed;
          means = h.means;
          differs = h.differs;
          place = h.place;
          code = h.code;
        })
        | inr far ↦ inr (later f h (h.at - k) (omega arith))
      ]

  -- one use more
  pub wrong-next : (uses : List UseCst) (i : ℕ) (used : UseCst) (shown : List ValueId)
      (numbers : List ℕ) (type : ValueId) (number : ℕ) (a b : Option Fault) → i < length uses
      → used ≡ get_or uses i used → slice_get shown i ≡ Some type
      → slice_get numbers i ≡ Some number
      → IsFirst (IsWrongUse types (take i uses) shown numbers) a
      → IsFirst (IsWrongUse types (used ∷ []) (type ∷ []) (number ∷ [])) b
      → IsFirst (IsWrongUse types (take (i + 1) uses) shown numbers) (earlier_of a b)
  wrong-next uses i used shown numbers type number a b less is typed means x y =
      subst (λ us. IsFirst (IsWrongUse types us shown numbers) (earlier_of a b))
      (sym (take_more uses i used less ∙ ap (λ u. take i uses ++ u ∷ []) (sym is)))
      (wrong-behind (take i uses) (used ∷ []) i shown (type ∷ []) numbers (number ∷ []) a b
      (let long = length-take i uses in omega (arith, long)) (goes-one i shown type typed)
      (goes-one i numbers number means) x y)
