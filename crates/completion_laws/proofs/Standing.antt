-- What is said of all that stands in trees, and of the operations of a module beside them. Regions
-- nest in the module as deep as in the trees.
use Rattle.std.proofs.Common.{◌≡◌, ℕ, suc, ◌+◌, ◌≤◌, List, [], ◌∷◌, ◌++◌, sym, subst}
use Rattle.std.proofs.Common.{arith, Bool}
use Rattle.std.specs.List.{AllByRecursion}
use Rattle.attr_value.specs.declared.head.TheConstants.{DEPTH_LIMIT}
use Rattle.attr_value.specs.Values.{Value}
use Rattle.generic_syntax.specs.declared.module_cst.BlockCst.{BlockCst, out-BlockCst}
use Rattle.generic_syntax.specs.declared.module_cst.OpCst.{OpCst}
use Rattle.generic_syntax.specs.declared.module_cst.RegionCst.{RegionCst, out-RegionCst}
use Rattle.ir_lexer.specs.Spelling.{Text}
use Rattle.ir_store.specs.Modules.{Regions, Blocks, no_ops, then_op, no_regions, region}
use Rattle.ir_store.specs.Modules.{no_blocks, block}
use Rattle.completion_laws.specs.Beside.{OpsBeside, RegionsBeside, BlocksBeside}
use Rattle.completion_laws.proofs.Besides.{Stands, last-same}
use Rattle.module_faults.proofs.Opening.{op-opens, region-opens, block-opens}
use Rattle.module_faults.specs.Standings.{Standing, an_op, a_region, a_block, generic_regions}
use Rattle.module_faults.specs.Standings.{deeper, op_inside, region_standings, block_standings}
use Rattle.module_faults.specs.Standings.{ops_standings, regions_standings, blocks_standings}
use Rattle.module_meaning.proofs.GenericFacts.{all-apart}
use Rattle.module_meaning.proofs.Places.{all-joined}
use Rattle.module_meaning.specs.WholeModules.{WholeHead, WholeModule, region_depth}
use Rattle.module_meaning.specs.WholeModules.{depth_of_regions, depth_of_blocks}

-- ---- what is said of all that stands

module _ (S : Standing → Type 0) where
  -- of an operation beside its tree
  abbrev pub SaidOf : OpCst → WholeHead → Regions Text Value → Bool → Type 0
  SaidOf c head rs last = S (an_op c last)

  abbrev All : List Standing → Type 0
  All ss = AllByRecursion S ss

  -- an operation, what is in it, and those behind it
  op-apart : (k : ℕ) (c : OpCst) (ts : List Standing) → All (op_inside k c ++ ts)
      → All (regions_standings k (generic_regions c)) × All ts
  op-apart k c ts h = all-apart S (regions_standings k (generic_regions c)) ts
      (subst (λ l. All (l ++ ts)) (op-opens k c) h)

  op-joined : (k : ℕ) (c : OpCst) (ts : List Standing)
      → All (regions_standings k (generic_regions c)) → All ts → All (op_inside k c ++ ts)
  op-joined k c ts p q = subst (λ l. All (l ++ ts)) (sym (op-opens k c))
      (all-joined S (regions_standings k (generic_regions c)) ts p q)

  -- a region, what is in it, and those behind it
  region-apart : (k : ℕ) (r : RegionCst) (ts : List Standing) → All (region_standings k r ++ ts)
      → S (a_region (deeper k) r)
      × All (blocks_standings (deeper k) (out-RegionCst r).blocks) × All ts
  region-apart k r ts h =
      let whole : All ((a_region (deeper k) r
      ∷ blocks_standings (deeper k) (out-RegionCst r).blocks) ++ ts) =
      subst (λ l. All (l ++ ts)) (region-opens k r) h in
      let cut = all-apart S (blocks_standings (deeper k) (out-RegionCst r).blocks) ts whole.1 in
      (whole.0, cut.0, cut.1)

  region-joined : (k : ℕ) (r : RegionCst) (ts : List Standing) → S (a_region (deeper k) r)
      → All (blocks_standings (deeper k) (out-RegionCst r).blocks) → All ts
      → All (region_standings k r ++ ts)
  region-joined k r ts s p q = subst (λ l. All (l ++ ts)) (sym (region-opens k r))
      (s, all-joined S (blocks_standings (deeper k) (out-RegionCst r).blocks) ts p q)

  -- a block, what is in it, and those behind it
  block-apart : (k : ℕ) (b : BlockCst) (ts : List Standing) → All (block_standings k b ++ ts)
      → All (ops_standings k (out-BlockCst b).ops) × All ts
  block-apart k b ts h =
      let whole : All ((a_block b ∷ ops_standings k (out-BlockCst b).ops) ++ ts) =
      subst (λ l. All (l ++ ts)) (block-opens k b) h in
      all-apart S (ops_standings k (out-BlockCst b).ops) ts whole.1

  block-joined : (k : ℕ) (b : BlockCst) (ts : List Standing) → S (a_block b)
      → All (ops_standings k (out-BlockCst b).ops) → All ts → All (block_standings k b ++ ts)
  block-joined k b ts s p q = subst (λ l. All (l ++ ts)) (sym (block-opens k b))
      (s, all-joined S (ops_standings k (out-BlockCst b).ops) ts p q)

  mutual
    -- what is said of all that stands is said of each operation
    pub ops-said : (k : ℕ) (cs : List OpCst) (os : WholeModule) → OpsBeside Stands cs os
        → All (ops_standings k cs) → OpsBeside SaidOf cs os
    ops-said k [] no_ops s h = tt
    ops-said k [] (then_op head rs os) s h = absurd s
    ops-said k (c ∷ cs) no_ops s h = absurd s
    ops-said k (c ∷ cs) (then_op head rs os) (s, inner, more) (p, h) =
        let cut = op-apart k c (ops_standings k cs) h in (
          subst (λ last. S (an_op c last)) (last-same Stands cs os more) p,
          regions-said k (generic_regions c) rs inner cut.0,
          ops-said k cs os more cut.1,
        )

    regions-said : (k : ℕ) (cs : List RegionCst) (rs : Regions Text Value)
        → RegionsBeside Stands cs rs → All (regions_standings k cs) → RegionsBeside SaidOf cs rs
    regions-said k [] no_regions s h = tt
    regions-said k [] (region bs rs) s h = absurd s
    regions-said k (c ∷ cs) no_regions s h = absurd s
    regions-said k (c ∷ cs) (region bs rs) (s, more) h =
        let cut = region-apart k c (regions_standings k cs) h in (
          blocks-said (deeper k) (out-RegionCst c).blocks bs s cut.1,
          regions-said k cs rs more cut.2,
        )

    blocks-said : (k : ℕ) (cs : List BlockCst) (bs : Blocks Text Value)
        → BlocksBeside Stands cs bs → All (blocks_standings k cs) → BlocksBeside SaidOf cs bs
    blocks-said k [] no_blocks s h = tt
    blocks-said k [] (block args os bs) s h = absurd s
    blocks-said k (c ∷ cs) no_blocks s h = absurd s
    blocks-said k (c ∷ cs) (block args os bs) (s, more) h =
        let cut = block-apart k c (blocks_standings k cs) h in
        (ops-said k (out-BlockCst c).ops os s cut.0, blocks-said k cs bs more cut.1)

  -- and what is said of each operation, and of regions and blocks, is said of all that stands
  module _ (blocks : (b : BlockCst) → S (a_block b))
      (regions : (n : ℕ) (r : RegionCst) → n ≤ DEPTH_LIMIT → S (a_region n r)) where
    mutual
      pub said-ops : (k : ℕ) (cs : List OpCst) (os : WholeModule) → OpsBeside SaidOf cs os
          → k + region_depth os ≤ DEPTH_LIMIT → All (ops_standings k cs)
      said-ops k [] no_ops s low = tt
      said-ops k [] (then_op head rs os) s low = absurd s
      said-ops k (c ∷ cs) no_ops s low = absurd s
      said-ops k (c ∷ cs) (then_op head rs os) (s, inner, more) low = (
        subst (λ last. S (an_op c last)) (sym (last-same SaidOf cs os more)) s,
        op-joined k c (ops_standings k cs)
            (said-regions k (generic_regions c) rs inner (omega (arith, low)))
            (said-ops k cs os more (omega (arith, low))),
      )

      said-regions : (k : ℕ) (cs : List RegionCst) (rs : Regions Text Value)
          → RegionsBeside SaidOf cs rs → k + depth_of_regions rs ≤ DEPTH_LIMIT
          → All (regions_standings k cs)
      said-regions k [] no_regions s low = tt
      said-regions k [] (region bs rs) s low = absurd s
      said-regions k (c ∷ cs) no_regions s low = absurd s
      said-regions k (c ∷ cs) (region bs rs) (s, more) low =
          let counted : deeper k ≡ suc k = omega (arith, low) in
          region-joined k c (regions_standings k cs)
          (regions (deeper k) c (omega (arith, low, counted)))
          (said-blocks (deeper k) (out-RegionCst c).blocks bs s (omega (arith, low, counted)))
          (said-regions k cs rs more (omega (arith, low)))

      said-blocks : (k : ℕ) (cs : List BlockCst) (bs : Blocks Text Value)
          → BlocksBeside SaidOf cs bs → k + depth_of_blocks bs ≤ DEPTH_LIMIT
          → All (blocks_standings k cs)
      said-blocks k [] no_blocks s low = tt
      said-blocks k [] (block args os bs) s low = absurd s
      said-blocks k (c ∷ cs) no_blocks s low = absurd s
      said-blocks k (c ∷ cs) (block args os bs) (s, more) low =
          block-joined k c (blocks_standings k cs) (blocks c)
          (said-ops k (out-BlockCst c).ops os s (omega (arith, low)))
          (said-blocks k cs bs more (omega (arith, low)))

-- ---- nesting

-- a region nests no deeper than the limit
abbrev pub Shallow : Standing → Type 0
Shallow (an_op c last) = Unit {0}
Shallow (a_region n r) = n ≤ DEPTH_LIMIT
Shallow (a_block b) = Unit {0}

mutual
  -- where no region of trees nests too deep, none of the module does
  pub ops-shallow : (k : ℕ) (cs : List OpCst) (os : WholeModule) → OpsBeside Stands cs os
      → k ≤ DEPTH_LIMIT → AllByRecursion Shallow (ops_standings k cs)
      → k + region_depth os ≤ DEPTH_LIMIT
  ops-shallow k [] no_ops s low h = omega (arith, low)
  ops-shallow k [] (then_op head rs os) s low h = absurd s
  ops-shallow k (c ∷ cs) no_ops s low h = absurd s
  ops-shallow k (c ∷ cs) (then_op head rs os) (s, inner, more) low (p, h) =
      let cut = op-apart Shallow k c (ops_standings k cs) h in
      let first = regions-shallow k (generic_regions c) rs inner low cut.0 in
      let rest = ops-shallow k cs os more low cut.1 in
      omega (arith, first, rest)

  regions-shallow : (k : ℕ) (cs : List RegionCst) (rs : Regions Text Value)
      → RegionsBeside Stands cs rs → k ≤ DEPTH_LIMIT
      → AllByRecursion Shallow (regions_standings k cs) → k + depth_of_regions rs ≤ DEPTH_LIMIT
  regions-shallow k [] no_regions s low h = omega (arith, low)
  regions-shallow k [] (region bs rs) s low h = absurd s
  regions-shallow k (c ∷ cs) no_regions s low h = absurd s
  regions-shallow k (c ∷ cs) (region bs rs) (s, more) low h =
      let cut = region-apart Shallow k c (regions_standings k cs) h in
      let here : deeper k ≤ DEPTH_LIMIT = cut.0 in
      let first = blocks-shallow (deeper k) (out-RegionCst c).blocks bs s here cut.1 in
      let rest = regions-shallow k cs rs more low cut.2 in
      omega (arith, here, first, rest)

  blocks-shallow : (k : ℕ) (cs : List BlockCst) (bs : Blocks Text Value)
      → BlocksBeside Stands cs bs → k ≤ DEPTH_LIMIT
      → AllByRecursion Shallow (blocks_standings k cs) → k + depth_of_blocks bs ≤ DEPTH_LIMIT
  blocks-shallow k [] no_blocks s low h = omega (arith, low)
  blocks-shallow k [] (block args os bs) s low h = absurd s
  blocks-shallow k (c ∷ cs) no_blocks s low h = absurd s
  blocks-shallow k (c ∷ cs) (block args os bs) (s, more) low h =
      let cut = block-apart Shallow k c (blocks_standings k cs) h in
      let first = ops-shallow k (out-BlockCst c).ops os s low cut.0 in
      let rest = blocks-shallow k cs bs more low cut.1 in
      omega (arith, first, rest)
