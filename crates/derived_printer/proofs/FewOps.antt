-- Where a module has few operations, its regions nest little: each region that stands in another is
-- that of an operation there. The tests count operations, since a store doesn't tell how deep its
-- regions nest.
use Rattle.std.proofs.Common.{◌≡◌, ℕ, zero, suc, ◌+◌, ◌<◌, ◌≤◌, List, [], ◌∷◌, ◌++◌, length, drop}
use Rattle.std.proofs.Common.{refl, ◌∙◌, ap, subst, arith, Some, slice_get}
use Rattle.std.proofs.lemmas.List.{length-append}
use Rattle.std.specs.List.{AllByRecursion}
use Rattle.ir_store.specs.Modules.{Ops, Regions, Blocks, no_ops, then_op, no_regions, region}
use Rattle.ir_store.specs.Modules.{no_blocks, block}
use Rattle.ir_store.specs.Numbering.{Numbers, Part, parts, parts_of_regions}
use Rattle.ir_store.specs.Numbering.{parts_of_blocks, op_sites, ops_in, past_op, past_region}
use Rattle.ir_store.specs.Numbering.{past_block, behind, behind_regions, behind_blocks, first_numbers}
use Rattle.ir_store.proofs.Replay.{op-sites-append}
use Rattle.derived_printer.specs.Printable.{nesting, nesting_of_regions, nesting_of_blocks}

-- an item, and those from the next on
pub all-from : {A : Type 0} (P : A → Type 0) (xs : List A) (i : ℕ) (x : A)
    → slice_get xs i ≡ Some x → P x → AllByRecursion P (drop (suc i) xs)
    → AllByRecursion P (drop i xs)
all-from P [] i x e p h = absurd (cc)
all-from P (y ∷ ys) zero x e p h = let same : x ≡ y = cc in (subst P same p, h)
all-from P (y ∷ ys) (suc i) x e p h = all-from P ys i x e p h

-- the item at a place below the length
pub there : {A : Type 0} (xs : List A) (i : ℕ) → i < length xs
    → (x : A) × (slice_get xs i ≡ Some x)
there [] i l = absurd (omega arith)
there (x ∷ xs) zero l = (x, refl)
there (x ∷ xs) (suc i) l = there xs i (omega arith)

module _ {N V : Type 0} where
  -- how many operations there are among parts
  abbrev count : List (Part N V) → ℕ
  count ps = length (op_sites ps)

  count-append : (ps qs : List (Part N V)) → count (ps ++ qs) ≡ count ps + count qs
  count-append ps qs =
      ap length (op-sites-append ps qs) ∙ length-append (op_sites ps) (op_sites qs)

  mutual
    ops-few : (c : Numbers) (os : Ops N V) → nesting os ≤ count (parts c os)
    ops-few c no_ops = omega arith
    ops-few c (then_op head rs os) =
        let many = count-append (parts_of_regions (past_op c head) rs)
        (parts (behind_regions (past_op c head) rs) os) in
        let inner = regions-few (past_op c head) rs in
        let more = ops-few (behind_regions (past_op c head) rs) os in
        omega (arith, many, inner, more)

    regions-few : (c : Numbers) (rs : Regions N V)
        → nesting_of_regions rs ≤ suc (count (parts_of_regions c rs))
    regions-few c no_regions = omega arith
    regions-few c (region bs rs) =
        let many = count-append (parts_of_blocks (past_region c) bs)
        (parts_of_regions (behind_blocks (past_region c) bs) rs) in
        let inner = blocks-few (past_region c) bs in
        let more = regions-few (behind_blocks (past_region c) bs) rs in
        omega (arith, many, inner, more)

    blocks-few : (c : Numbers) (bs : Blocks N V)
        → nesting_of_blocks bs ≤ count (parts_of_blocks c bs)
    blocks-few c no_blocks = omega arith
    blocks-few c (block args os bs) =
        let many = count-append (parts (past_block c args) os)
        (parts_of_blocks (behind (past_block c args) os) bs) in
        let inner = ops-few (past_block c args) os in
        let more = blocks-few (behind (past_block c args) os) bs in
        omega (arith, many, inner, more)

  -- regions nest no deeper than there are operations
  pub nesting-few : (m : Ops N V) → nesting m ≤ length (ops_in m)
  nesting-few m = ops-few first_numbers m
