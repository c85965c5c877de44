-- The tables that a store keeps, and those of a module.
--
--   OpNode, node_of e  a row of the table of operations, and that of an entry
--   Rows, no_rows      tables of operations, regions, blocks and types; those of nothing
--   op_ids c ops, region_ids, block_ids      the ids of what begins at c
--   op_node x, region_node, block_node       the row of what stands at x
--   op_nodes ps, region_nodes, block_nodes   the rows of some parts
--   rows_of m          the tables of a module: at each place those ids that its parts have
--   changed f i xs     the list with f at its i-th item
--   top_with, blocks_with      operations that are put last at top level, or last in a block
--   with_op s b head   the tables with one more operation; with_region and with_block likewise
--   head_at s i, first_at, regions_at, blocks_at, ops_at, args_at      what stands at a place
--                      of a table
--
-- Inside: no public clause rests on this.
use Rattle.std.specs.Prelude.{ℕ, zero, suc, List, [], ◌∷◌, ◌++◌, length, map}
use Rattle.std.specs.Prelude.{slice_get, option_map}
use Rattle.std.specs.declared.option.Option.{Option}
use Rattle.std.specs.declared.option.Option.TheVariants.{Some, None}
use Rattle.attr_value.specs.declared.head.ValueId.{ValueId}
use Rattle.ir_store.specs.declared.rows.OpId.{OpId}
use Rattle.ir_store.specs.declared.rows.RegionId.{RegionId}
use Rattle.ir_store.specs.declared.rows.BlockId.{BlockId}
use Rattle.ir_store.specs.declared.tables.OpEntry.{OpEntry}
use Rattle.ir_store.specs.declared.tables.RegionRow.{RegionRow}
use Rattle.ir_store.specs.declared.tables.BlockEntry.{BlockEntry}
use Rattle.ir_store.specs.Modules.{Regions, Blocks, types_in}
use Rattle.ir_store.specs.Modules.{no_ops, then_op, no_regions, region, no_blocks, block}
use Rattle.ir_store.specs.Numbering.{Numbers, first_numbers, past_op, past_region, past_block}
use Rattle.ir_store.specs.Numbering.{behind, behind_regions, behind_blocks}
use Rattle.ir_store.specs.Numbering.{OpSite, RegionSite, BlockSite, Part, parts}
use Rattle.ir_store.specs.Numbering.{op_sites, region_sites, block_sites}
use Rattle.ir_store.specs.Named.{op_id, region_id, block_id}
use Rattle.ir_store.specs.Store.{OpName, StoredHead, Module, head_of}

-- a row of the table of operations: the operation, the number of its first result, its regions
pub record OpNode : Type 0 where
  pub head : StoredHead
  pub first : ℕ
  pub regions : List RegionId

-- the row that an entry stands for; spare room is forgotten
abbrev pub node_of : OpEntry → OpNode
node_of e = record { head = head_of e.row; first = e.first; regions = e.regions }

-- the ids at top level, the tables by ids, and the types of all values
pub record Rows : Type 0 where
  pub top : List OpId
  pub ops : List OpNode
  pub regions : List RegionRow
  pub blocks : List BlockEntry
  pub types : List ValueId

-- the tables of nothing
abbrev pub no_rows : Rows
no_rows = record { top = []; ops = []; regions = []; blocks = []; types = [] }

-- ---- the tables of a module

-- the ids of operations that begin at c
abbrev pub op_ids : Numbers → Module → List OpId
op_ids c no_ops = []
op_ids c (then_op head regions os) =
    op_id c.ops ∷ op_ids (behind_regions (past_op c head) regions) os

-- the ids of regions that begin at c
abbrev pub region_ids : Numbers → Regions OpName ValueId → List RegionId
region_ids c no_regions = []
region_ids c (region blocks rs) =
    region_id c.regions ∷ region_ids (behind_blocks (past_region c) blocks) rs

-- the ids of blocks that begin at c
abbrev pub block_ids : Numbers → Blocks OpName ValueId → List BlockId
block_ids c no_blocks = []
block_ids c (block args ops bs) =
    block_id c.blocks ∷ block_ids (behind (past_block c args) ops) bs

-- the row of an operation where it stands, of a region, of a block
abbrev pub op_node : OpSite OpName ValueId → OpNode
op_node x = record {
  head = x.head;
  first = x.at.values;
  regions = region_ids (past_op x.at x.head) x.regions;
}

-- the row of a region where it stands
abbrev pub region_node : RegionSite OpName ValueId → RegionRow
region_node x = record { blocks = block_ids (past_region x.at) x.blocks }

-- the row of a block where it stands
abbrev pub block_node : BlockSite OpName ValueId → BlockEntry
block_node x = record {
  first = x.at.values;
  count = length x.args;
  ops = op_ids (past_block x.at x.args) x.ops;
}

-- the rows of these parts
abbrev pub op_nodes : List (Part OpName ValueId) → List OpNode
op_nodes ps = map op_node (op_sites ps)

-- the rows of the regions among these parts
abbrev pub region_nodes : List (Part OpName ValueId) → List RegionRow
region_nodes ps = map region_node (region_sites ps)

-- the rows of the blocks among these parts
abbrev pub block_nodes : List (Part OpName ValueId) → List BlockEntry
block_nodes ps = map block_node (block_sites ps)

-- the tables of a module
abbrev pub rows_of : Module → Rows
rows_of m = record {
  top = op_ids first_numbers m;
  ops = op_nodes (parts first_numbers m);
  regions = region_nodes (parts first_numbers m);
  blocks = block_nodes (parts first_numbers m);
  types = types_in m;
}

-- ---- what is added

-- f at the i-th
abbrev pub changed : {A : Type 0} → (A → A) → ℕ → List A → List A
changed f i [] = []
changed f zero (x ∷ xs) = f x ∷ xs
changed f (suc i) (x ∷ xs) = x ∷ changed f i xs

-- these operations last at top level
abbrev pub top_with : Option BlockId → List OpId → List OpId → List OpId
top_with None ids top = top ++ ids
top_with (Some b) ids top = top

-- these operations last in the block
abbrev pub blocks_with : Option BlockId → List OpId → List BlockEntry → List BlockEntry
blocks_with None ids blocks = blocks
blocks_with (Some b) ids blocks = changed (λ n. record n { ops = n.ops ++ ids }) b.0 blocks

-- an operation last in a block, or last at top level
abbrev pub with_op : Rows → Option BlockId → StoredHead → Rows
with_op s b head = record s {
  top = top_with b (op_id (length s.ops) ∷ []) s.top;
  ops = s.ops ++ (record { head = head; first = length s.types; regions = [] }) ∷ [];
  blocks = blocks_with b (op_id (length s.ops) ∷ []) s.blocks;
  types = s.types ++ head.results;
}

-- an empty region last in an operation
abbrev pub with_region : Rows → OpId → Rows
with_region s o = record s {
  ops = changed
      (λ n. record n { regions = n.regions ++ region_id (length s.regions) ∷ [] }) o.0 s.ops;
  regions = s.regions ++ (record { blocks = [] }) ∷ [];
}

-- an empty block last in a region
abbrev pub with_block : Rows → RegionId → List ValueId → Rows
with_block s r args = record s {
  regions = changed
      (λ n. record n { blocks = n.blocks ++ block_id (length s.blocks) ∷ [] }) r.0 s.regions;
  blocks = s.blocks
      ++ (record { first = length s.types; count = length args; ops = [] }) ∷ [];
  types = s.types ++ args;
}

-- ---- what stands at a place

-- of the operation of an id: the head, the number of its first result, its regions
abbrev pub head_at : Rows → ℕ → Option StoredHead
head_at s i = option_map (λ n. n.head) (slice_get s.ops i)

-- the number of the first result of the operation of an id
abbrev pub first_at : Rows → ℕ → Option ℕ
first_at s i = option_map (λ n. n.first) (slice_get s.ops i)

-- the regions of the operation of an id
abbrev pub regions_at : Rows → ℕ → Option (List RegionId)
regions_at s i = option_map (λ n. n.regions) (slice_get s.ops i)

-- the blocks of a region, and the operations of a block
abbrev pub blocks_at : Rows → ℕ → Option (List BlockId)
blocks_at s r = option_map (λ n. n.blocks) (slice_get s.regions r)

-- the operations of the block of an id
abbrev pub ops_at : Rows → ℕ → Option (List OpId)
ops_at s b = option_map (λ n. n.ops) (slice_get s.blocks b)

-- the number of a block's first argument, and how many it has
abbrev pub args_at : Rows → ℕ → Option (ℕ × ℕ)
args_at s b = option_map (λ n. (n.first, n.count)) (slice_get s.blocks b)
