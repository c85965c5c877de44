-- Values that are made of others: when they are good, and how deep they are.
use Rattle.std.proofs.Common.{◌≡◌, ◌≤◌, ℕ, ◌+◌, List, [], ◌∷◌, map}
use Rattle.std.proofs.Common.{refl, sym, ◌∙◌, ap, subst, arith, option_map}
use Rattle.std.specs.List.{AllByRecursion}
use Rattle.std.specs.declared.option.Option.{Option}
use Rattle.std.specs.declared.option.Option.TheVariants.{Some, None}
use Rattle.attr_value.specs.declared.head.Head.{Head}
use Rattle.attr_value.specs.declared.head.TheConstants.{DEPTH_LIMIT}
use Rattle.attr_value.specs.Heads.{OwnRule}
use Rattle.attr_value.specs.Values.{Value, Values, none, more, list_of, depth, greatest_depth}
use Rattle.constraint_solver.proofs.Goods.{good-nodes}
use Rattle.dialect_defs.specs.Goodness.{AreGoodNodes, IsGoodNode, IsDefined}
use Rattle.value_meaning.specs.Judging.{Ground, IsGood, Fits, IsRight}
use Rattle.value_meaning.specs.Meaning.{kids_of, made_of, leaf}
use Rattle.value_meaning.specs.Spelled.{all_some}

-- ---- lists

-- what is each something is all something
pub all_some-some : {A : Type 0} (xs : List A) → all_some (map Some xs) ≡ Some xs
all_some-some [] = refl
all_some-some (x ∷ xs) = ap (option_map (λ ys. x ∷ ys)) (all_some-some xs)

-- and the other way round
pub all_some-are : {A : Type 0} (os : List (Option A)) (xs : List A) → all_some os ≡ Some xs
    → os ≡ map Some xs
all_some-are [] xs e = let h : [] ≡ xs = cc in ap (map Some) h
all_some-are (None ∷ os) xs e = absurd (cc)
all_some-are {A = A} (Some x ∷ os) xs e = go (all_some os) (all_some-are os) e
  where
    go : (r : Option (List A)) → ((ys : List A) → r ≡ Some ys → os ≡ map Some ys)
        → option_map (λ ys. x ∷ ys) r ≡ Some xs → Some x ∷ os ≡ map Some xs
    go None is e = absurd (cc)
    go (Some ys) is e =
        let h : x ∷ ys ≡ xs = cc in
        ap (λ l. Some x ∷ l) (is ys refl) ∙ ap (map Some) h

-- values as kids are these values
pub list_of-kids_of : (vs : List Value) → list_of (kids_of vs) ≡ vs
list_of-kids_of [] = refl
list_of-kids_of (v ∷ vs) = ap (λ l. v ∷ l) (list_of-kids_of vs)

-- kids as a list are these kids
pub kids_of-list_of : (ks : Values) → kids_of (list_of ks) ≡ ks
kids_of-list_of none = refl
kids_of-list_of (more head kids rest) = ap (more head kids) (kids_of-list_of rest)

-- ---- depth

-- values for which there is room at a nesting are no deeper than that together
pub greatest-fits : (n : ℕ) (vs : List Value) → n ≤ DEPTH_LIMIT + 1
    → AllByRecursion (Fits n) vs → greatest_depth (kids_of vs) + n ≤ DEPTH_LIMIT + 1
greatest-fits n [] room fit = omega (arith, room)
greatest-fits n (v ∷ vs) room fit =
    let first = fit.0 in let rest = greatest-fits n vs room fit.1 in omega (arith, first, rest)

-- ---- goodness

module _ (g : Ground) where
  -- a value without kids is good where it keeps to its rules
  pub good-leaf : (head : Head) → OwnRule head [] → IsDefined g.table g.tests g.types head []
      → IsGood g (leaf head)
  good-leaf head own defined = record {
    shallow = omega arith;
    node = record { rule = own; defined = defined };
    kids = tt;
  }

  -- and one of good kids, which nests no deeper than the limit
  pub good-made : (head : Head) (vs : List Value) → AllByRecursion (IsGood g) vs
      → OwnRule head vs → IsDefined g.table g.tests g.types head vs
      → depth (made_of head vs) ≤ DEPTH_LIMIT → IsGood g (made_of head vs)
  good-made head vs good own defined shallow =
      let same = sym (list_of-kids_of vs) in
      record {
        shallow = shallow;
        node = subst (IsGoodNode g.table g.tests g.types head) same
            (record { rule = own; defined = defined });
        kids = good-nodes g.table g.tests g.types (kids_of vs)
            (subst (AllByRecursion (IsGood g)) same good);
      }

  -- the kids of a good value are good
  good-kids-below : (ks : Values) → greatest_depth ks ≤ DEPTH_LIMIT
      → AreGoodNodes g.table g.tests g.types ks → AllByRecursion (IsGood g) (list_of ks)
  good-kids-below none shallow nodes = tt
  good-kids-below (more head kids rest) shallow nodes = (
    record { shallow = omega (arith, shallow); node = nodes.0; kids = nodes.1 },
    good-kids-below rest (omega (arith, shallow)) nodes.2,
  )

  -- the kids of a good value are good
  pub good-kids : (head : Head) (vs : List Value) → IsGood g (made_of head vs)
      → AllByRecursion (IsGood g) vs
  good-kids head vs good =
      let shallow = good.shallow in
      subst (AllByRecursion (IsGood g)) (list_of-kids_of vs)
      (good-kids-below (kids_of vs) (omega (arith, shallow)) good.kids)

  -- what is right is good
  pub all-good : (n : ℕ) (vs : List Value) → AllByRecursion (IsRight g n) vs
      → AllByRecursion (IsGood g) vs
  all-good n [] right = tt
  all-good n (v ∷ vs) right = (right.0.good, all-good n vs right.1)

  -- and there is room for it
  pub all-fit : (n : ℕ) (vs : List Value) → AllByRecursion (IsRight g n) vs
      → AllByRecursion (Fits n) vs
  all-fit n [] right = tt
  all-fit n (v ∷ vs) right = (right.0.fits, all-fit n vs right.1)
