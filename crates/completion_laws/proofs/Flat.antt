-- What is said of each operation beside its tree is said of the flat lists of both, place by place.
use Rattle.std.proofs.Common.{◌≡◌, ℕ, Bool, List, [], ◌∷◌, ◌++◌, refl, sym, ◌∙◌, ap}
use Rattle.std.proofs.Common.{subst}
use Rattle.std.specs.List.{AllZip}
use Rattle.attr_value.specs.Values.{Value}
use Rattle.generic_syntax.specs.declared.module_cst.BlockCst.{BlockCst, out-BlockCst}
use Rattle.generic_syntax.specs.declared.module_cst.OpCst.{OpCst}
use Rattle.generic_syntax.specs.declared.module_cst.RegionCst.{RegionCst, out-RegionCst}
use Rattle.ir_lexer.specs.Spelling.{Text}
use Rattle.ir_store.specs.Modules.{Regions, Blocks, no_ops, then_op, no_regions, region}
use Rattle.ir_store.specs.Modules.{no_blocks, block}
use Rattle.ir_store.specs.Numbering.{Numbers, OpSite, past_op, past_region, past_block}
use Rattle.ir_store.specs.Numbering.{behind, behind_regions, behind_blocks, parts}
use Rattle.ir_store.specs.Numbering.{parts_of_regions, parts_of_blocks, op_sites}
use Rattle.ir_store.proofs.Replay.{op-sites-append}
use Rattle.completion_laws.specs.Beside.{OpsBeside, RegionsBeside, BlocksBeside}
use Rattle.completion_laws.proofs.Besides.{Stands}
use Rattle.completion_laws.proofs.Zips.{zip-joined, zip-cut, zip-long}
use Rattle.module_faults.proofs.Opening.{op-opens, region-opens, block-opens}
use Rattle.module_faults.specs.Standings.{Standing, an_op, a_region, a_block, generic_regions}
use Rattle.module_faults.specs.Standings.{deeper, op_inside, region_standings, block_standings}
use Rattle.module_faults.specs.Standings.{ops_standings, regions_standings, blocks_standings}
use Rattle.module_faults.specs.Standings.{ops_of}
use Rattle.module_meaning.specs.WholeModules.{WholeHead, WholeModule}

-- ---- the operations of standing lists

pub ops-of-append : (ss ts : List Standing) → ops_of (ss ++ ts) ≡ ops_of ss ++ ops_of ts
ops-of-append [] ts = refl
ops-of-append (an_op c last ∷ ss) ts = ap (λ l. c ∷ l) (ops-of-append ss ts)
ops-of-append (a_region n r ∷ ss) ts = ops-of-append ss ts
ops-of-append (a_block b ∷ ss) ts = ops-of-append ss ts

-- behind an operation
ops-behind : (k : ℕ) (c : OpCst) (ts : List Standing)
    → ops_of (op_inside k c ++ ts) ≡ ops_of (regions_standings k (generic_regions c)) ++ ops_of ts
ops-behind k c ts =
    ops-of-append (op_inside k c) ts ∙ ap (λ l. ops_of l ++ ops_of ts) (op-opens k c)

-- in regions
ops-in-regions : (k : ℕ) (r : RegionCst) (ts : List Standing)
    → ops_of (region_standings k r ++ ts)
    ≡ ops_of (blocks_standings (deeper k) (out-RegionCst r).blocks) ++ ops_of ts
ops-in-regions k r ts =
    ops-of-append (region_standings k r) ts
    ∙ ap (λ l. ops_of l ++ ops_of ts) (region-opens k r)

-- in blocks
ops-in-blocks : (k : ℕ) (b : BlockCst) (ts : List Standing)
    → ops_of (block_standings k b ++ ts)
    ≡ ops_of (ops_standings k (out-BlockCst b).ops) ++ ops_of ts
ops-in-blocks k b ts =
    ops-of-append (block_standings k b) ts ∙ ap (λ l. ops_of l ++ ops_of ts) (block-opens k b)

-- ---- both lists

module _ (P : OpCst → WholeHead → Regions Text Value → Type 0) where
  -- of an operation beside its tree, wherever it stands
  abbrev pub Here : OpCst → WholeHead → Regions Text Value → Bool → Type 0
  Here c head rs last = P c head rs

  -- of one where it stands
  abbrev pub At : OpCst → OpSite Text Value → Type 0
  At c site = P c site.head site.regions

  abbrev Both : List OpCst → List (OpSite Text Value) → Type 0
  Both cs sites = AllZip At cs sites

  -- two parts of both lists, as they stand
  joined-both : (all xs zs : List OpCst) (sites ys ws : List (OpSite Text Value))
      → all ≡ xs ++ zs → sites ≡ ys ++ ws → Both xs ys → Both zs ws → Both all sites
  joined-both all xs zs sites ys ws e f p q =
      subst (λ l. Both l sites) (sym e)
      (subst (λ l. Both (xs ++ zs) l) (sym f) (zip-joined At xs zs ys ws p q))

  mutual
    pub ops-flat : (k : ℕ) (at : Numbers) (cs : List OpCst) (os : WholeModule)
        → OpsBeside Here cs os → Both (ops_of (ops_standings k cs)) (op_sites (parts at os))
    ops-flat k at [] no_ops p = tt
    ops-flat k at [] (then_op head rs os) p = absurd p
    ops-flat k at (c ∷ cs) no_ops p = absurd p
    ops-flat k at (c ∷ cs) (then_op head rs os) (p, inner, more) = (
      p,
      joined-both _ (ops_of (regions_standings k (generic_regions c)))
          (ops_of (ops_standings k cs)) _ (op_sites (parts_of_regions (past_op at head) rs))
          (op_sites (parts (behind_regions (past_op at head) rs) os))
          (ops-behind k c (ops_standings k cs))
          (op-sites-append (parts_of_regions (past_op at head) rs)
          (parts (behind_regions (past_op at head) rs) os))
          (regions-flat k (past_op at head) (generic_regions c) rs inner)
          (ops-flat k (behind_regions (past_op at head) rs) cs os more),
    )

    regions-flat : (k : ℕ) (at : Numbers) (cs : List RegionCst) (rs : Regions Text Value)
        → RegionsBeside Here cs rs
        → Both (ops_of (regions_standings k cs)) (op_sites (parts_of_regions at rs))
    regions-flat k at [] no_regions p = tt
    regions-flat k at [] (region bs rs) p = absurd p
    regions-flat k at (c ∷ cs) no_regions p = absurd p
    regions-flat k at (c ∷ cs) (region bs rs) (p, more) =
        joined-both _ (ops_of (blocks_standings (deeper k) (out-RegionCst c).blocks))
        (ops_of (regions_standings k cs)) _ (op_sites (parts_of_blocks (past_region at) bs))
        (op_sites (parts_of_regions (behind_blocks (past_region at) bs) rs))
        (ops-in-regions k c (regions_standings k cs))
        (op-sites-append (parts_of_blocks (past_region at) bs)
        (parts_of_regions (behind_blocks (past_region at) bs) rs))
        (blocks-flat (deeper k) (past_region at) (out-RegionCst c).blocks bs p)
        (regions-flat k (behind_blocks (past_region at) bs) cs rs more)

    blocks-flat : (k : ℕ) (at : Numbers) (cs : List BlockCst) (bs : Blocks Text Value)
        → BlocksBeside Here cs bs
        → Both (ops_of (blocks_standings k cs)) (op_sites (parts_of_blocks at bs))
    blocks-flat k at [] no_blocks p = tt
    blocks-flat k at [] (block args os bs) p = absurd p
    blocks-flat k at (c ∷ cs) no_blocks p = absurd p
    blocks-flat k at (c ∷ cs) (block args os bs) (p, more) =
        joined-both _ (ops_of (ops_standings k (out-BlockCst c).ops))
        (ops_of (blocks_standings k cs)) _ (op_sites (parts (past_block at args) os))
        (op_sites (parts_of_blocks (behind (past_block at args) os) bs))
        (ops-in-blocks k c (blocks_standings k cs))
        (op-sites-append (parts (past_block at args) os)
        (parts_of_blocks (behind (past_block at args) os) bs))
        (ops-flat k (past_block at args) (out-BlockCst c).ops os p)
        (blocks-flat k (behind (past_block at args) os) cs bs more)

-- ---- and back

-- that something stands at each place
abbrev There : OpCst → WholeHead → Regions Text Value → Type 0
There c head rs = Unit {0}

module _ (P : OpCst → WholeHead → Regions Text Value → Type 0) where
  abbrev Each : List OpCst → List (OpSite Text Value) → Type 0
  Each cs sites = AllZip (At P) cs sites

  -- two parts of both lists, apart
  cut-both : (all xs zs : List OpCst) (sites ys ws : List (OpSite Text Value))
      → all ≡ xs ++ zs → sites ≡ ys ++ ws → AllZip (At There) xs ys → Each all sites
      → Each xs ys × Each zs ws
  cut-both all xs zs sites ys ws e f there p =
      zip-cut (At P) xs zs ys ws (zip-long (At There) xs ys there)
      (subst (λ l. Each (xs ++ zs) l) f (subst (λ l. Each l sites) e p))

  mutual
    -- what is said of both lists, place by place, is said of each operation beside its tree
    pub flat-ops : (k : ℕ) (at : Numbers) (cs : List OpCst) (os : WholeModule)
        → OpsBeside Stands cs os → Each (ops_of (ops_standings k cs)) (op_sites (parts at os))
        → OpsBeside (Here P) cs os
    flat-ops k at [] no_ops s p = tt
    flat-ops k at [] (then_op head rs os) s p = absurd s
    flat-ops k at (c ∷ cs) no_ops s p = absurd s
    flat-ops k at (c ∷ cs) (then_op head rs os) (s, inner, more) (p, ps) =
        let cut = cut-both _ (ops_of (regions_standings k (generic_regions c)))
        (ops_of (ops_standings k cs)) _ (op_sites (parts_of_regions (past_op at head) rs))
        (op_sites (parts (behind_regions (past_op at head) rs) os))
        (ops-behind k c (ops_standings k cs))
        (op-sites-append (parts_of_regions (past_op at head) rs)
        (parts (behind_regions (past_op at head) rs) os))
        (regions-flat There k (past_op at head) (generic_regions c) rs inner) ps in (
          p,
          flat-regions k (past_op at head) (generic_regions c) rs inner cut.0,
          flat-ops k (behind_regions (past_op at head) rs) cs os more cut.1,
        )

    flat-regions : (k : ℕ) (at : Numbers) (cs : List RegionCst) (rs : Regions Text Value)
        → RegionsBeside Stands cs rs
        → Each (ops_of (regions_standings k cs)) (op_sites (parts_of_regions at rs))
        → RegionsBeside (Here P) cs rs
    flat-regions k at [] no_regions s p = tt
    flat-regions k at [] (region bs rs) s p = absurd s
    flat-regions k at (c ∷ cs) no_regions s p = absurd s
    flat-regions k at (c ∷ cs) (region bs rs) (s, more) p =
        let cut = cut-both _ (ops_of (blocks_standings (deeper k) (out-RegionCst c).blocks))
        (ops_of (regions_standings k cs)) _ (op_sites (parts_of_blocks (past_region at) bs))
        (op_sites (parts_of_regions (behind_blocks (past_region at) bs) rs))
        (ops-in-regions k c (regions_standings k cs))
        (op-sites-append (parts_of_blocks (past_region at) bs)
        (parts_of_regions (behind_blocks (past_region at) bs) rs))
        (blocks-flat There (deeper k) (past_region at) (out-RegionCst c).blocks bs s) p in (
          flat-blocks (deeper k) (past_region at) (out-RegionCst c).blocks bs s cut.0,
          flat-regions k (behind_blocks (past_region at) bs) cs rs more cut.1,
        )

    flat-blocks : (k : ℕ) (at : Numbers) (cs : List BlockCst) (bs : Blocks Text Value)
        → BlocksBeside Stands cs bs
        → Each (ops_of (blocks_standings k cs)) (op_sites (parts_of_blocks at bs))
        → BlocksBeside (Here P) cs bs
    flat-blocks k at [] no_blocks s p = tt
    flat-blocks k at [] (block args os bs) s p = absurd s
    flat-blocks k at (c ∷ cs) no_blocks s p = absurd s
    flat-blocks k at (c ∷ cs) (block args os bs) (s, more) p =
        let cut = cut-both _ (ops_of (ops_standings k (out-BlockCst c).ops))
        (ops_of (blocks_standings k cs)) _ (op_sites (parts (past_block at args) os))
        (op_sites (parts_of_blocks (behind (past_block at args) os) bs))
        (ops-in-blocks k c (blocks_standings k cs))
        (op-sites-append (parts (past_block at args) os)
        (parts_of_blocks (behind (past_block at args) os) bs))
        (ops-flat There k (past_block at args) (out-BlockCst c).ops os s) p in (
          flat-ops k (past_block at args) (out-BlockCst c).ops os s cut.0,
          flat-blocks k (behind (past_block at args) os) cs bs more cut.1,
        )
