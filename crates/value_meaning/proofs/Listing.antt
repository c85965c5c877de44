-- The kids of a form, as they are judged one by one.
use Rattle.std.proofs.Common.{◌≡◌, ◌<◌, zero, suc, ℕ, ◌+◌, List, [], ◌∷◌, ◌++◌, length, take}
use Rattle.std.proofs.Common.{refl, sym, ◌∙◌, ap, subst, arith, IfSome}
use Rattle.std.specs.Prelude.{slice_get}
use Rattle.std.specs.declared.option.Option.TheVariants.{Some, None}
use Rattle.attr_value.specs.Ids.{AreKnown}
use Rattle.attr_value.specs.Values.{Value}
use Rattle.constraint_solver.specs.Grown.{Extends}
use Rattle.constraint_solver.proofs.Grows.{extends-refl, extends-trans, known-grows, length-grows}
use Rattle.constraint_solver.proofs.Grows.{sound-defs-grows}
use Rattle.generic_syntax.specs.declared.cst.ValueCst.{ValueCst, out-ValueCst}
use Rattle.value_meaning.specs.declared.judged.Judged.{Judged}
use Rattle.value_meaning.specs.declared.judged.Kids.{Kids}
use Rattle.value_meaning.specs.Gathered.{IsAdded}
use Rattle.value_meaning.specs.Judging.{AreJudged, Basis, ByEach, CanJudge, counted, Ground}
use Rattle.value_meaning.specs.Judging.{IsJudged, Judges, values_at, with_table}
use Rattle.value_meaning.specs.KidsSeen.{kids_nesting, kids_seen}
use Rattle.value_meaning.specs.Meaning.{Aliases, Seen, NodeSeen, seen, node_seen, seen_at}
use Rattle.value_meaning.proofs.Joining.{added-known, listed-add}
use Rattle.value_meaning.proofs.KidsOf.{nesting-least}
use Rattle.value_meaning.proofs.Trees.{seen-value}

-- what can be judged by a table can be by a longer one
pub can-grows : (b : Basis) (old new : List Value) → Extends old new → CanJudge (length old) b
    → CanJudge (length new) b
can-grows b old new grown can = record {
  defs = sound-defs-grows (length-grows grown) can.defs;
  known = λ is_type name id is.
      let less = can.known is_type name id is in
      let longer = length-grows grown in omega (arith, less, longer);
}

-- a list as far as the next item
take-next : {A : Type 0} (xs : List A) (i : ℕ) (x : A) → Some x ≡ slice_get xs i
    → take (suc i) xs ≡ take i xs ++ x ∷ []
take-next [] i x at = absurd (cc)
take-next (y ∷ xs) zero x at = let same : y ≡ x = cc in ap (λ z. z ∷ []) same
take-next (y ∷ xs) (suc i) x at = ap (λ l. y ∷ l) (take-next xs i x at)

-- and as far as its end
take-end : {A : Type 0} (xs : List A) (i : ℕ) → None ≡ slice_get xs i → take i xs ≡ xs
take-end [] zero at = refl
take-end [] (suc i) at = refl
take-end (y ∷ xs) zero at = absurd (cc)
take-end (y ∷ xs) (suc i) at = ap (λ l. y ∷ l) (take-end xs i at)

-- the kids are those of the first trees of a list
pub record IsSoFar (b : Basis) (inner : ℕ) (first now : List Value) (list : Aliases → List Seen)
    (i : ℕ) (kids : Kids) : Type 0 where
  pub can : CanJudge (length now) b
  pub grown : Extends first now
  pub known : AreKnown (length now) kids.ids.items
  pub judged : ByEach b first inner (λ g n al. AreJudged g n (take i (list al)) now kids)

-- a kid is judged so
pub record IsKidJudged (b : Basis) (inner : ℕ) (now : List Value) (kid : Aliases → Seen)
    (new : List Value) (j : Judged) : Type 0 where
  pub more : Extends now new
  pub less : IfSome j.value (λ id. id.0 < length new)
  pub judged : ByEach b now inner (λ g n al. IsJudged g n (kid al) new j)

-- what aliases have no part in
pub by-each : (b : Basis) (inner : ℕ) (now : List Value) (s : Seen) (new : List Value) (j : Judged)
    → ((g : Ground) (n : ℕ) → inner ≡ counted n → IsJudged g n s new j)
    → ByEach b now inner (λ g n al. IsJudged g n s new j)
by-each b inner now s new j x =
    λ table n ready grown least same. x (with_table b table) n same

module _ (b : Basis) (inner : ℕ) (first : List Value) (list : Aliases → List Seen) where
  -- of none
  pub so-far-none : (kids : Kids) → CanJudge (length first) b
      → ((len : ℕ) → AreKnown len kids.ids.items)
      → ((g : Ground) (n : ℕ) (new : List Value) → AreJudged g n [] new kids)
      → IsSoFar b inner first first list 0 kids
  so-far-none kids can known none = record {
    can = can;
    grown = extends-refl first;
    known = known (length first);
    judged = λ table n ready grown least same. none (with_table b table) n first;
  }

  module _ (now : List Value) (i : ℕ) (kids : Kids) (x : IsSoFar b inner first now list i kids) where
    -- one more
    pub so-far-more : (new : List Value) (kid : Aliases → Seen) (j : Judged) (next : Kids)
        (k : ℕ) → k ≡ i + 1
        → ((al : Aliases) → Some (kid al) ≡ slice_get (list al) i)
        → IsKidJudged b inner now kid new j → IsAdded kids j next
        → IsSoFar b inner first new list k next
    so-far-more new kid j next k is at y added = record {
      can = can-grows b now new y.more x.can;
      grown = extends-trans x.grown y.more;
      known = added-known (length new) kids next j added
          (known-grows y.more kids.ids.items x.known) y.less;
      judged = λ table n ready grown least same.
          let g = with_table b table in
          let al = values_at table b.ids in
          let suc_is : suc i ≡ k = omega (arith, is) in
          subst (λ (m : ℕ). AreJudged g n (take m (list al)) new next) suc_is
          (subst (λ (ss : List Seen). AreJudged g n ss new next)
          (sym (take-next (list al) i (kid al) (at al)))
          (listed-add g n (take i (list al)) (kid al) now new y.more kids j next
          (x.judged table n ready grown least same)
          (y.judged table n ready (extends-trans grown x.grown) least same) added));
    }

    -- of all
    pub so-far-all : ((al : Aliases) → None ≡ slice_get (list al) i)
        → ByEach b first inner (λ g n al. AreJudged g n (list al) now kids)
    so-far-all at = λ table n ready grown least same.
        let al = values_at table b.ids in
        subst (λ (ss : List Seen). AreJudged (with_table b table) n ss now kids)
        (take-end (list al) i (at al)) (x.judged table n ready grown least same)

-- a tree, by its form at its place
pub tree-judged : (b : Basis) (nesting inner : ℕ) (first now new : List Value) (c : ValueCst)
    (place : ℕ) (kids : Kids) (node j : Judged) → place ≡ (out-ValueCst c).place → Extends first now
    → ((n : ℕ) → nesting ≡ counted n → inner ≡ counted (kids_nesting (out-ValueCst c).node n))
    → ByEach b first inner (λ g n al. AreJudged g n (kids_seen al (out-ValueCst c).node) now kids)
    → ByEach b now nesting (λ g n al.
    AreJudged g (kids_nesting (out-ValueCst c).node n) (kids_seen al (out-ValueCst c).node) now kids
    → Judges g n (node_seen al (out-ValueCst c).node).value
    ((node_seen al (out-ValueCst c).node).marks place n) new node)
    → ((g : Ground) (n : ℕ) (s : NodeSeen) (table : List Value) → nesting ≡ counted n
    → Judges g n s.value (s.marks place n) table node → IsJudged g n (seen_at place s) table j)
    → ByEach b first nesting (λ g n al. IsJudged g n (seen al c) new j)
tree-judged b nesting inner first now new c place kids node j here more deep all form stood =
    λ table n ready grown least same.
    let g = with_table b table in
    let al = values_at table b.ids in
    subst (λ (s : Seen). IsJudged g n s new j)
    (sym (seen-value al c ∙ ap (λ p. seen_at p (node_seen al (out-ValueCst c).node)) (sym here)))
    (stood g n (node_seen al (out-ValueCst c).node) new same
    (form table n ready (extends-trans grown more) least same
    (all table (kids_nesting (out-ValueCst c).node n) ready grown
    (nesting-least (out-ValueCst c).node n least) (deep n same))))
