-- The operations that stand in trees, as flat lists: those of one tree and of what stands in it,
-- and those of trees behind others.
--
--   ops-of-joined                         the operations of two lists of standings
--   op-stands, region-stands, block-stands      one tree, and others behind it
--   ops-joined, regions-joined, blocks-joined   some trees, and others behind them
--   under-joined                          the blocks of some regions, and of others behind them
use Rattle.std.proofs.Common.{◌≡◌, ℕ, List, [], ◌∷◌, ◌++◌, refl, ap, sym, ◌∙◌, append_assoc}
use Rattle.generic_syntax.specs.declared.module_cst.BlockCst.{BlockCst, out-BlockCst}
use Rattle.generic_syntax.specs.declared.module_cst.OpCst.{OpCst}
use Rattle.generic_syntax.specs.declared.module_cst.RegionCst.{RegionCst, out-RegionCst}
use Rattle.module_builder.specs.Fit.{blocks_under}
use Rattle.module_faults.specs.Standings.{Standing, an_op, a_region, a_block, deeper, ops_of}
use Rattle.module_faults.specs.Standings.{generic_regions, op_inside, region_standings}
use Rattle.module_faults.specs.Standings.{block_standings, ops_standings, regions_standings}
use Rattle.module_faults.specs.Standings.{blocks_standings}
use Rattle.module_faults.proofs.Opening.{op-opens, region-opens, block-opens}

-- the operations of two lists of standings
pub ops-of-joined : (xs ys : List Standing) → ops_of (xs ++ ys) ≡ ops_of xs ++ ops_of ys
ops-of-joined [] ys = refl
ops-of-joined (an_op c last ∷ xs) ys = ap (λ l. c ∷ l) (ops-of-joined xs ys)
ops-of-joined (a_region n r ∷ xs) ys = ops-of-joined xs ys
ops-of-joined (a_block b ∷ xs) ys = ops-of-joined xs ys

-- ---- the operations that stand among trees, with n regions round them

abbrev pub in_ops : ℕ → List OpCst → List OpCst
in_ops n cs = ops_of (ops_standings n cs)

abbrev pub in_regions : ℕ → List RegionCst → List OpCst
in_regions n rs = ops_of (regions_standings n rs)

abbrev pub in_blocks : ℕ → List BlockCst → List OpCst
in_blocks n bs = ops_of (blocks_standings n bs)

-- an operation, those in its regions, and others behind it
pub op-stands : (n : ℕ) (c : OpCst) (cs : List OpCst)
    → in_ops n (c ∷ cs) ≡ c ∷ (in_regions n (generic_regions c) ++ in_ops n cs)
op-stands n c cs = ap (λ l. c ∷ l) (ops-of-joined (op_inside n c) (ops_standings n cs)
    ∙ ap (λ l. ops_of l ++ in_ops n cs) (op-opens n c))

-- those in a region, and in others behind it
pub region-stands : (n : ℕ) (r : RegionCst) (rs : List RegionCst)
    → in_regions n (r ∷ rs) ≡ in_blocks (deeper n) (out-RegionCst r).blocks ++ in_regions n rs
region-stands n r rs = ops-of-joined (region_standings n r) (regions_standings n rs)
    ∙ ap (λ l. ops_of l ++ in_regions n rs) (region-opens n r)

-- those in a block, and in others behind it
pub block-stands : (n : ℕ) (b : BlockCst) (bs : List BlockCst)
    → in_blocks n (b ∷ bs) ≡ in_ops n (out-BlockCst b).ops ++ in_blocks n bs
block-stands n b bs = ops-of-joined (block_standings n b) (blocks_standings n bs)
    ∙ ap (λ l. ops_of l ++ in_blocks n bs) (block-opens n b)

-- operations, and others behind them
pub ops-joined : (n : ℕ) (xs ys : List OpCst) → in_ops n (xs ++ ys) ≡ in_ops n xs ++ in_ops n ys
ops-joined n [] ys = refl
ops-joined n (x ∷ xs) ys =
    op-stands n x (xs ++ ys)
    ∙ ap (λ l. x ∷ (in_regions n (generic_regions x) ++ l)) (ops-joined n xs ys)
    ∙ ap (λ l. x ∷ l)
    (sym (append_assoc (in_regions n (generic_regions x)) (in_ops n xs) (in_ops n ys)))
    ∙ ap (λ l. l ++ in_ops n ys) (sym (op-stands n x xs))

-- regions, and others behind them
pub regions-joined : (n : ℕ) (xs ys : List RegionCst)
    → in_regions n (xs ++ ys) ≡ in_regions n xs ++ in_regions n ys
regions-joined n [] ys = refl
regions-joined n (x ∷ xs) ys =
    region-stands n x (xs ++ ys)
    ∙ ap (λ l. in_blocks (deeper n) (out-RegionCst x).blocks ++ l) (regions-joined n xs ys)
    ∙ sym (append_assoc (in_blocks (deeper n) (out-RegionCst x).blocks) (in_regions n xs)
    (in_regions n ys))
    ∙ ap (λ l. l ++ in_regions n ys) (sym (region-stands n x xs))

-- blocks, and others behind them
pub blocks-joined : (n : ℕ) (xs ys : List BlockCst)
    → in_blocks n (xs ++ ys) ≡ in_blocks n xs ++ in_blocks n ys
blocks-joined n [] ys = refl
blocks-joined n (x ∷ xs) ys =
    block-stands n x (xs ++ ys)
    ∙ ap (λ l. in_ops n (out-BlockCst x).ops ++ l) (blocks-joined n xs ys)
    ∙ sym (append_assoc (in_ops n (out-BlockCst x).ops) (in_blocks n xs) (in_blocks n ys))
    ∙ ap (λ l. l ++ in_blocks n ys) (sym (block-stands n x xs))

-- the blocks of some regions, and of others behind them
pub under-joined : (xs ys : List RegionCst)
    → blocks_under (xs ++ ys) ≡ blocks_under xs ++ blocks_under ys
under-joined [] ys = refl
under-joined (x ∷ xs) ys =
    ap (λ l. (out-RegionCst x).blocks ++ l) (under-joined xs ys)
    ∙ sym (append_assoc (out-RegionCst x).blocks (blocks_under xs) (blocks_under ys))
