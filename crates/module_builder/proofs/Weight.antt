-- How much stands among trees: what stands in one of them is less.
--
--   ops_weight, regions_weight, blocks_weight      twice the number of what stands
--   op-lighter, region-lighter, block-lighter      what stands in one of some trees
use Rattle.std.proofs.Common.{◌≡◌, ℕ, suc, ◌+◌, ◌*◌, ◌<◌, ◌≤◌, List, [], ◌∷◌, length, drop}
use Rattle.std.proofs.Common.{zero, subst, get_or, ap, sym, ◌∙◌, arith, drop-cons, length-append}
use Rattle.attr_value.specs.declared.head.TheConstants.{DEPTH_LIMIT}
use Rattle.generic_syntax.specs.declared.module_cst.BlockCst.{BlockCst, out-BlockCst}
use Rattle.generic_syntax.specs.declared.module_cst.OpCst.{OpCst}
use Rattle.generic_syntax.specs.declared.module_cst.RegionCst.{RegionCst, out-RegionCst}
use Rattle.module_faults.specs.Standings.{generic_regions, op_inside, region_standings}
use Rattle.module_faults.specs.Standings.{block_standings, ops_standings, regions_standings}
use Rattle.module_faults.specs.Standings.{blocks_standings}
use Rattle.module_faults.proofs.Opening.{op-opens, region-opens, block-opens}

-- a number of regions round trees that doesn't grow any more
abbrev pub deep : ℕ
deep = suc DEPTH_LIMIT

-- ---- operations

abbrev pub ops_weight : List OpCst → ℕ
ops_weight cs = 2 * length (ops_standings deep cs)

abbrev pub regions_weight : List RegionCst → ℕ
regions_weight rs = 2 * length (regions_standings deep rs)

abbrev pub blocks_weight : List BlockCst → ℕ
blocks_weight bs = 2 * length (blocks_standings deep bs)

ops-behind : (i : ℕ) (cs : List OpCst)
    → length (ops_standings deep (drop i cs)) ≤ length (ops_standings deep cs)
ops-behind zero cs = omega arith
ops-behind (suc i) [] = omega arith
ops-behind (suc i) (c ∷ cs) =
    let less = ops-behind i cs in
    let whole = length-append (op_inside deep c) (ops_standings deep cs) in
    omega (arith, less, whole)

pub op-lighter : (cs : List OpCst) (i : ℕ) (c : OpCst) → i < length cs → c ≡ get_or cs i c
    → regions_weight (generic_regions c) + 2 ≤ ops_weight cs
op-lighter cs i c less is =
    let here : drop i cs ≡ c ∷ drop (suc i) cs
    = drop-cons cs i c less ∙ ap (λ y. y ∷ drop (suc i) cs) (sym is) in
    let some : length (ops_standings deep (c ∷ drop (suc i) cs)) ≤ length (ops_standings deep cs)
    = subst (λ l. length (ops_standings deep l)
    ≤ length (ops_standings deep cs)) here (ops-behind i cs) in
    let whole = length-append (op_inside deep c) (ops_standings deep (drop (suc i) cs)) in
    let inside = ap length (op-opens deep c) in
    omega (arith, some, whole, inside)

-- ---- regions

regions-behind : (i : ℕ) (rs : List RegionCst)
    → length (regions_standings deep (drop i rs)) ≤ length (regions_standings deep rs)
regions-behind zero rs = omega arith
regions-behind (suc i) [] = omega arith
regions-behind (suc i) (r ∷ rs) =
    let less = regions-behind i rs in
    let whole = length-append (region_standings deep r) (regions_standings deep rs) in
    omega (arith, less, whole)

pub region-lighter : (rs : List RegionCst) (i : ℕ) (r : RegionCst) → i < length rs
    → r ≡ get_or rs i r → blocks_weight (out-RegionCst r).blocks + 2 ≤ regions_weight rs
region-lighter rs i r less is =
    let here : drop i rs ≡ r ∷ drop (suc i) rs
    = drop-cons rs i r less ∙ ap (λ y. y ∷ drop (suc i) rs) (sym is) in
    let some : length (regions_standings deep (r ∷ drop (suc i) rs))
    ≤ length (regions_standings deep rs) = subst (λ l. length (regions_standings deep l)
    ≤ length (regions_standings deep rs)) here (regions-behind i rs) in
    let whole =
    length-append (region_standings deep r) (regions_standings deep (drop (suc i) rs)) in
    let inside : length (region_standings deep r)
    ≡ suc (length (blocks_standings deep (out-RegionCst r).blocks))
    = ap length (region-opens deep r) in
    omega (arith, some, whole, inside)

-- ---- blocks

blocks-behind : (i : ℕ) (bs : List BlockCst)
    → length (blocks_standings deep (drop i bs)) ≤ length (blocks_standings deep bs)
blocks-behind zero bs = omega arith
blocks-behind (suc i) [] = omega arith
blocks-behind (suc i) (b ∷ bs) =
    let less = blocks-behind i bs in
    let whole = length-append (block_standings deep b) (blocks_standings deep bs) in
    omega (arith, less, whole)

pub block-lighter : (bs : List BlockCst) (i : ℕ) (b : BlockCst) → i < length bs
    → b ≡ get_or bs i b → ops_weight (out-BlockCst b).ops + 2 ≤ blocks_weight bs
block-lighter bs i b less is =
    let here : drop i bs ≡ b ∷ drop (suc i) bs
    = drop-cons bs i b less ∙ ap (λ y. y ∷ drop (suc i) bs) (sym is) in
    let some : length (blocks_standings deep (b ∷ drop (suc i) bs))
    ≤ length (blocks_standings deep bs) = subst (λ l. length (blocks_standings deep l)
    ≤ length (blocks_standings deep bs)) here (blocks-behind i bs) in
    let whole = length-append (block_standings deep b) (blocks_standings deep (drop (suc i) bs)) in
    let inside : length (block_standings deep b)
    ≡ suc (length (ops_standings deep (out-BlockCst b).ops)) = ap length (block-opens deep b) in
    omega (arith, some, whole, inside)
