-- The numbers of operations, regions, blocks and values: each takes the next of its kind in text
-- order.
--
--   Numbers            how many of each kind come before a place: the next one has that number
--   first_numbers      those at the beginning of a module
--   past_op, past_region, past_block      those behind the head of an operation, .. a block
--   behind c ops       the numbers behind operations that begin at c
--   behind_regions, behind_blocks      the same of regions and of blocks
--   OpSite, RegionSite, BlockSite      an operation, a region, a block, and the numbers where it
--                                      begins
--   Part               an operation, a region or a block where it stands
--   parts c ops        the parts of operations that begin at c, in text order
--   parts_of_regions, parts_of_blocks       the same of regions and of blocks
--   op_sites, region_sites, block_sites     those of one kind among some parts
--   ops_in m, regions_in m, blocks_in m      those of a module, in text order
use Rattle.std.specs.Prelude.{ℕ, ◌+◌, List, [], ◌∷◌, ◌++◌, length}
use Rattle.ir_store.specs.Modules.{OpHead, Ops, Regions, Blocks}
use Rattle.ir_store.specs.Modules.{no_ops, then_op, no_regions, region, no_blocks, block}

-- how many of each kind come before a place
pub record Numbers : Type 0 where
  pub ops : ℕ
  pub regions : ℕ
  pub blocks : ℕ
  pub values : ℕ

-- nothing comes before
abbrev pub first_numbers : Numbers
first_numbers = record { ops = 0; regions = 0; blocks = 0; values = 0 }

-- behind the head of an operation, which has a number, and so has each of its results
abbrev pub past_op : {N V : Type 0} → Numbers → OpHead N V → Numbers
past_op c head = record c { ops = c.ops + 1; values = c.values + length head.results }

-- behind the beginning of a region
abbrev pub past_region : Numbers → Numbers
past_region c = record c { regions = c.regions + 1 }

-- behind the label of a block, which has a number, and so has each of its arguments
abbrev pub past_block : {V : Type 0} → Numbers → List V → Numbers
past_block c args = record c { blocks = c.blocks + 1; values = c.values + length args }

-- an operation where it stands
pub record OpSite (N V : Type 0) : Type 0 where
  pub at : Numbers
  pub head : OpHead N V
  pub regions : Regions N V

-- a region where it stands, by its blocks
pub record RegionSite (N V : Type 0) : Type 0 where
  pub at : Numbers
  pub blocks : Blocks N V

-- a block where it stands
pub record BlockSite (N V : Type 0) : Type 0 where
  pub at : Numbers
  pub args : List V
  pub ops : Ops N V

-- a thing that has a number
pub data Part (N V : Type 0) : Type 0 where
  an_op : OpSite N V → Part N V
  a_region : RegionSite N V → Part N V
  a_block : BlockSite N V → Part N V

module _ {N V : Type 0} where
  -- the numbers behind what begins at c
  abbrev mutual
    pub behind : Numbers → Ops N V → Numbers
    behind c no_ops = c
    behind c (then_op head regions os) = behind (behind_regions (past_op c head) regions) os

    -- behind regions that begin at c
    pub behind_regions : Numbers → Regions N V → Numbers
    behind_regions c no_regions = c
    behind_regions c (region blocks rs) = behind_regions (behind_blocks (past_region c) blocks) rs

    -- behind blocks that begin at c
    pub behind_blocks : Numbers → Blocks N V → Numbers
    behind_blocks c no_blocks = c
    behind_blocks c (block args ops bs) = behind_blocks (behind (past_block c args) ops) bs

  -- the parts of what begins at c, in text order
  abbrev mutual
    pub parts : Numbers → Ops N V → List (Part N V)
    parts c no_ops = []
    parts c (then_op head regions os) =
        an_op (record { at = c; head = head; regions = regions })
        ∷ (parts_of_regions (past_op c head) regions
        ++ parts (behind_regions (past_op c head) regions) os)

    -- the parts of regions that begin at c
    pub parts_of_regions : Numbers → Regions N V → List (Part N V)
    parts_of_regions c no_regions = []
    parts_of_regions c (region blocks rs) =
        a_region (record { at = c; blocks = blocks })
        ∷ (parts_of_blocks (past_region c) blocks
        ++ parts_of_regions (behind_blocks (past_region c) blocks) rs)

    -- the parts of blocks that begin at c
    pub parts_of_blocks : Numbers → Blocks N V → List (Part N V)
    parts_of_blocks c no_blocks = []
    parts_of_blocks c (block args ops bs) =
        a_block (record { at = c; args = args; ops = ops })
        ∷ (parts (past_block c args) ops
        ++ parts_of_blocks (behind (past_block c args) ops) bs)

  -- the operations among these parts, the regions, the blocks
  abbrev pub op_sites : List (Part N V) → List (OpSite N V)
  op_sites [] = []
  op_sites (an_op x ∷ ps) = x ∷ op_sites ps
  op_sites (a_region x ∷ ps) = op_sites ps
  op_sites (a_block x ∷ ps) = op_sites ps

  -- the regions among these parts
  abbrev pub region_sites : List (Part N V) → List (RegionSite N V)
  region_sites [] = []
  region_sites (an_op x ∷ ps) = region_sites ps
  region_sites (a_region x ∷ ps) = x ∷ region_sites ps
  region_sites (a_block x ∷ ps) = region_sites ps

  -- the blocks among these parts
  abbrev pub block_sites : List (Part N V) → List (BlockSite N V)
  block_sites [] = []
  block_sites (an_op x ∷ ps) = block_sites ps
  block_sites (a_region x ∷ ps) = block_sites ps
  block_sites (a_block x ∷ ps) = x ∷ block_sites ps

  -- the operations of a module in text order
  abbrev pub ops_in : Ops N V → List (OpSite N V)
  ops_in m = op_sites (parts first_numbers m)

  -- the regions of a module in text order
  abbrev pub regions_in : Ops N V → List (RegionSite N V)
  regions_in m = region_sites (parts first_numbers m)

  -- the blocks of a module in text order
  abbrev pub blocks_in : Ops N V → List (BlockSite N V)
  blocks_in m = block_sites (parts first_numbers m)
