-- The numbers of the first values of definitions, in the making.
--
--   ArgsPassed, args-more          so many arguments have numbers
--   ResultsPassed, results-more    so many names of results have
--   op-passed, region-passed, block-passed     one thing that stands in a tree has
--   Passed, passed-more, passed-all            so many have
use Rattle.std.proofs.Common.{◌≡◌, ℕ, suc, ◌+◌, ◌-◌, ◌<◌, ◌≤◌, Bool, List, [], ◌∷◌, ◌++◌, length}
use Rattle.std.proofs.Common.{map, drop, get_or, refl, ap, sym, ◌∙◌, append_assoc}
use Rattle.std.proofs.Common.{drop-cons, add-one, arith}
use Rattle.std.proofs.lemmas.List.{drop-map}
use Rattle.std.specs.List.{range_with_len}
use Rattle.std.specs.declared.result.Result.{Result}
use Rattle.std.specs.declared.result.Result.TheVariants.{Ok, Err}
use Rattle.std.specs.Result.{OnOk}
use Rattle.generic_syntax.specs.declared.module_cst.BlockCst.{BlockCst, out-BlockCst}
use Rattle.generic_syntax.specs.declared.module_cst.OpCst.{OpCst, out-OpCst}
use Rattle.generic_syntax.specs.declared.module_cst.RegionCst.{RegionCst}
use Rattle.generic_syntax.specs.declared.module_cst.ResultCst.{ResultCst}
use Rattle.module_builder.specs.declared.firsts.Numbering.{Numbering}
use Rattle.module_builder.specs.Firsts.{firsts_of, Numbered}
use Rattle.module_faults.specs.Shape.{result_firsts}
use Rattle.module_faults.specs.Standings.{Standing, an_op, a_region, a_block, ops_of}
use Rattle.module_meaning.specs.Names.{pack_size}

-- the items from this one on
pub from-here : {A : Type 0} (xs : List A) (i : ℕ) (x : A) → i < length xs → x ≡ get_or xs i x
    → drop i xs ≡ x ∷ drop (i + 1) xs
from-here xs i x less is = drop-cons xs i x less ∙ ap (λ y. y ∷ drop (suc i) xs) (sym is)
    ∙ ap (λ k. x ∷ drop k xs) (sym (add-one i))

-- what is made of the items from this one on
pub made-from-here : {A B : Type 0} (f : A → B) (xs : List A) (i : ℕ) (x : A) → i < length xs
    → x ≡ get_or xs i x → drop i (map f xs) ≡ f x ∷ drop (i + 1) (map f xs)
made-from-here f xs i x less is =
    drop-map f i xs ∙ ap (map f) (from-here xs i x less is)
    ∙ ap (λ l. f x ∷ l) (sym (drop-map f (i + 1) xs))

-- three clauses of a call that went well
pub on-three : {A E P Q R S : Type 0} (r : Result A E) → (P → Q → R → S) → OnOk r P → OnOk r Q
    → OnOk r R → OnOk r S
on-three (Ok x) f p q s = f p q s
on-three (Err e) f p q s = tt

-- ---- arguments

-- so many arguments have numbers
pub record ArgsPassed (begun now : List ℕ) (next n count i : ℕ) : Type 0 where
  pub firsts : now ++ range_with_len n (count - i) ≡ begun ++ range_with_len next count
  pub number : n ≡ next + i

range-step : (n k m : ℕ) → k ≡ suc m → range_with_len n k ≡ n ∷ range_with_len (n + 1) m
range-step n k m e = ap (range_with_len n) e

pub args-more : (begun now more : List ℕ) (next n later count i : ℕ) → i < count
    → ArgsPassed begun now next n count i → more ≡ now ++ n ∷ [] → later ≡ n + 1
    → ArgsPassed begun more next later count (i + 1)
args-more begun now more next n later count i less p pushed grown =
    let left : count - i ≡ suc (count - (i + 1)) = omega arith in
    record {
      firsts = ap (λ l. l ++ range_with_len later (count - (i + 1))) pushed
          ∙ append_assoc now (n ∷ []) (range_with_len later (count - (i + 1)))
          ∙ ap (λ k. now ++ (n ∷ range_with_len k (count - (i + 1)))) grown
          ∙ ap (λ l. now ++ l) (sym (range-step n (count - i) (count - (i + 1)) left))
          ∙ p.firsts;
      number = let e = p.number in omega arith;
    }

-- ---- results

-- so many names of results have numbers
pub record ResultsPassed (begun now : List ℕ) (next first : ℕ) (names : List ResultCst) (i : ℕ)
    : Type 0 where
  pub firsts : now ++ result_firsts first (drop i names) ≡ begun ++ result_firsts next names

pub results-more : (begun now more : List ℕ) (next first later : ℕ) (names : List ResultCst)
    (i : ℕ) (name : ResultCst) → i < length names → name ≡ get_or names i name
    → ResultsPassed begun now next first names i → more ≡ now ++ first ∷ []
    → later ≡ first + pack_size name.pack → ResultsPassed begun more next later names (i + 1)
results-more begun now more next first later names i name less is p pushed grown = record {
  firsts = ap (λ l. l ++ result_firsts later (drop (i + 1) names)) pushed
      ∙ append_assoc now (first ∷ []) (result_firsts later (drop (i + 1) names))
      ∙ ap (λ k. now ++ (first ∷ result_firsts k (drop (i + 1) names))) grown
      ∙ ap (λ l. now ++ result_firsts first l) (sym (from-here names i name less is))
      ∙ p.firsts;
}

-- ---- what stands in a tree

pub op-passed : (old new : Numbering) (c : OpCst) (last : Bool) (counts : List ℕ) (k : ℕ)
    → drop old.ops counts ≡ k ∷ drop (old.ops + 1) counts
    → new.firsts.items ≡ old.firsts.items ++ result_firsts old.next (out-OpCst c).results
    → new.next ≡ old.next + k → new.ops ≡ old.ops + 1
    → Numbered old new (an_op c last ∷ []) counts
op-passed old new c last counts k here firsts next ops = record {
  firsts = λ more.
      ap (λ l. l ++ firsts_of new.next more (drop new.ops counts)) firsts
      ∙ append_assoc old.firsts.items (result_firsts old.next (out-OpCst c).results)
      (firsts_of new.next more (drop new.ops counts))
      ∙ ap (λ n. old.firsts.items ++ (result_firsts old.next (out-OpCst c).results
      ++ firsts_of n more (drop new.ops counts))) next
      ∙ ap (λ n. old.firsts.items ++ (result_firsts old.next (out-OpCst c).results
      ++ firsts_of (old.next + k) more (drop n counts))) ops
      ∙ ap (λ l. old.firsts.items ++ firsts_of old.next (an_op c last ∷ more) l) (sym here);
  ops = ops;
}

pub region-passed : (same : Numbering) (n : ℕ) (r : RegionCst) (counts : List ℕ)
    → Numbered same same (a_region n r ∷ []) counts
region-passed same n r counts = record { firsts = λ more. refl; ops = omega arith }

pub block-passed : (old new : Numbering) (b : BlockCst) (counts : List ℕ)
    → new.firsts.items
    ≡ old.firsts.items ++ range_with_len old.next (length (out-BlockCst b).args)
    → new.next ≡ old.next + length (out-BlockCst b).args → new.ops ≡ old.ops
    → Numbered old new (a_block b ∷ []) counts
block-passed old new b counts firsts next ops = record {
  firsts = λ more.
      ap (λ l. l ++ firsts_of new.next more (drop new.ops counts)) firsts
      ∙ append_assoc old.firsts.items (range_with_len old.next (length (out-BlockCst b).args))
      (firsts_of new.next more (drop new.ops counts))
      ∙ ap (λ n. old.firsts.items ++ (range_with_len old.next (length (out-BlockCst b).args)
      ++ firsts_of n more (drop new.ops counts))) next
      ∙ ap (λ n. old.firsts.items ++ (range_with_len old.next (length (out-BlockCst b).args)
      ++ firsts_of (old.next + length (out-BlockCst b).args) more (drop n counts))) ops;
  ops = let e = ops in omega arith;
}

-- ---- all that stands in a tree

-- so many of what stands have numbers, and those to come are known
pub record Passed (now : Numbering) (whole left : List Standing) (counts : List ℕ) : Type 0 where
  pub firsts : now.firsts.items ++ firsts_of now.next left (drop now.ops counts)
      ≡ firsts_of 0 whole counts
  pub enough : now.ops + length (ops_of left) ≤ length counts

ops-behind : (s : Standing) (ss : List Standing)
    → length (ops_of (s ∷ ss)) ≡ length (ops_of (s ∷ [])) + length (ops_of ss)
ops-behind (an_op c last) ss = omega arith
ops-behind (a_region n r) ss = omega arith
ops-behind (a_block b) ss = omega arith

pub passed-more : (old new : Numbering) (whole left : List Standing) (s : Standing)
    (counts : List ℕ) → Passed old whole (s ∷ left) counts → Numbered old new (s ∷ []) counts
    → Passed new whole left counts
passed-more old new whole left s counts p q = record {
  firsts = q.firsts left ∙ p.firsts;
  enough =
      let many = ops-behind s left in
      let moved = q.ops in
      let before = p.enough in
      omega arith;
}

-- the next one may be passed
pub next-fits : (now : Numbering) (whole left : List Standing) (s : Standing) (counts : List ℕ)
    → Passed now whole (s ∷ left) counts → now.ops + length (ops_of (s ∷ [])) ≤ length counts
next-fits now whole left s counts p =
    let many = ops-behind s left in
    let before = p.enough in
    omega arith
