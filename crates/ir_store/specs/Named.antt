-- What ids name: the id of an operation, a region or a block is its number in text order.
--
--   op_id n, region_id n, block_id n      the id of the number n
--   op_at m op, region_at m region, block_at m block      what an id names, if the module has it
--   AreOps m c ids ops        the ids are those of these operations, which begin at c in the module
--   AreRegions, AreBlocks     the same of regions and of blocks
--   HaveTypes m n ts          the values from the number n on have these types
--   AttrsAreRight head        keys strictly ascend, and each has a value
use Rattle.std.specs.Prelude.{◌≡◌, ℕ, ◌+◌, List, [], ◌∷◌, length, Option, Some, slice_get}
use Rattle.attr_value.specs.Heads.{Ascend}
use Rattle.ir_store.specs.declared.rows.OpId.{OpId}
use Rattle.ir_store.specs.declared.rows.RegionId.{RegionId}
use Rattle.ir_store.specs.declared.rows.BlockId.{BlockId}
use Rattle.ir_store.specs.Modules.{OpHead, Ops, Regions, Blocks, types_in}
use Rattle.ir_store.specs.Modules.{no_ops, then_op, no_regions, region, no_blocks, block}
use Rattle.ir_store.specs.Numbering.{Numbers, OpSite, RegionSite, BlockSite}
use Rattle.ir_store.specs.Numbering.{past_op, past_region, past_block}
use Rattle.ir_store.specs.Numbering.{behind, behind_regions, behind_blocks}
use Rattle.ir_store.specs.Numbering.{ops_in, regions_in, blocks_in}

-- the ids of these numbers
abbrev pub op_id : ℕ → OpId
op_id n = record { 0 = n }

-- the id of the region of this number
abbrev pub region_id : ℕ → RegionId
region_id n = record { 0 = n }

-- the id of the block of this number
abbrev pub block_id : ℕ → BlockId
block_id n = record { 0 = n }

-- keys strictly ascend by bytes, and each has the value at its place
pub record AttrsAreRight {N V : Type 0} (head : OpHead N V) : Type 0 where
  pub ascend : Ascend head.keys
  pub counts : length head.values ≡ length head.keys

module _ {N V : Type 0} where
  -- what stands where an id says, if anything does
  abbrev pub op_at : Ops N V → OpId → Option (OpSite N V)
  op_at m op = slice_get (ops_in m) op.0

  -- the region that an id names, if there is one
  abbrev pub region_at : Ops N V → RegionId → Option (RegionSite N V)
  region_at m r = slice_get (regions_in m) r.0

  -- the block that an id names, if there is one
  abbrev pub block_at : Ops N V → BlockId → Option (BlockSite N V)
  block_at m b = slice_get (blocks_in m) b.0

  -- the values from this number on have these types
  abbrev pub HaveTypes : Ops N V → ℕ → List V → Type 0
  HaveTypes m n types =
      (i : ℕ) (t : V) → slice_get types i ≡ Some t → slice_get (types_in m) (n + i) ≡ Some t

  -- each id is the number of its operation, and names that one in the module
  abbrev pub AreOps : Ops N V → Numbers → List OpId → Ops N V → Type 0
  AreOps m c [] no_ops = Unit {0}
  AreOps m c (id ∷ ids) (then_op head regions os) =
      (id ≡ op_id c.ops)
      × (op_at m id ≡ Some (record { at = c; head = head; regions = regions }))
      × AreOps m (behind_regions (past_op c head) regions) ids os
  AreOps m c [] (then_op _ _ _) = ⊥
  AreOps m c (_ ∷ _) no_ops = ⊥

  -- the same of regions
  abbrev pub AreRegions : Ops N V → Numbers → List RegionId → Regions N V → Type 0
  AreRegions m c [] no_regions = Unit {0}
  AreRegions m c (id ∷ ids) (region blocks rs) =
      (id ≡ region_id c.regions)
      × (region_at m id ≡ Some (record { at = c; blocks = blocks }))
      × AreRegions m (behind_blocks (past_region c) blocks) ids rs
  AreRegions m c [] (region _ _) = ⊥
  AreRegions m c (_ ∷ _) no_regions = ⊥

  -- the same of blocks
  abbrev pub AreBlocks : Ops N V → Numbers → List BlockId → Blocks N V → Type 0
  AreBlocks m c [] no_blocks = Unit {0}
  AreBlocks m c (id ∷ ids) (block args ops bs) =
      (id ≡ block_id c.blocks)
      × (block_at m id ≡ Some (record { at = c; args = args; ops = ops }))
      × AreBlocks m (behind (past_block c args) ops) ids bs
  AreBlocks m c [] (block _ _ _) = ⊥
  AreBlocks m c (_ ∷ _) no_blocks = ⊥
