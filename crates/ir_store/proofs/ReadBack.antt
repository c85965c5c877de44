-- The rows of a module are read back as that module, and their ids name its parts.
use Rattle.std.proofs.Common.{◌≡◌, ℕ, zero, suc, ◌+◌, ◌≤◌, List, [], ◌∷◌, length, Some, option_map}
use Rattle.std.proofs.Common.{slice_get, take, drop, refl, ap, sym, ◌∙◌, arith, length-append}
use Rattle.std.proofs.lemmas.List.{length-map}
use Rattle.std.proofs.lemmas.Option.{slice_get-map}
use Rattle.attr_value.specs.declared.head.ValueId.{ValueId}
use Rattle.ir_store.specs.declared.rows.OpId.{OpId}
use Rattle.ir_store.specs.declared.rows.RegionId.{RegionId}
use Rattle.ir_store.specs.declared.rows.BlockId.{BlockId}
use Rattle.ir_store.specs.declared.tables.RegionRow.{RegionRow}
use Rattle.ir_store.specs.declared.tables.BlockEntry.{BlockEntry}
use Rattle.ir_store.specs.Modules.{no_ops, then_op, no_regions, region, no_blocks, block, types_in}
use Rattle.ir_store.specs.Modules.{types_in_regions, types_in_blocks}
use Rattle.ir_store.specs.Numbering.{Numbers, first_numbers, past_op, past_region, past_block, behind}
use Rattle.ir_store.specs.Numbering.{behind_regions, behind_blocks, OpSite, RegionSite, BlockSite}
use Rattle.ir_store.specs.Numbering.{Part, an_op, a_region, a_block, parts, parts_of_regions}
use Rattle.ir_store.specs.Numbering.{parts_of_blocks, op_sites, region_sites, block_sites, ops_in}
use Rattle.ir_store.specs.Numbering.{regions_in, blocks_in}
use Rattle.ir_store.specs.Named.{op_id, region_id, block_id, op_at, region_at, block_at, AreOps}
use Rattle.ir_store.specs.Named.{AreRegions, AreBlocks}
use Rattle.ir_store.specs.Store.{OpName, Module}
use Rattle.ir_store.specs.Rows.{OpNode, Rows, rows_of, op_ids, region_ids, block_ids, op_node}
use Rattle.ir_store.specs.Rows.{region_node, block_node}
use Rattle.ir_store.specs.Read.{read_ops, read_regions, read_blocks, module_of}
use Rattle.ir_store.proofs.Replay.{Rs, Bs}
use Rattle.ir_store.proofs.Inside.{Inside, inside-op, inside-region, inside-block, inside-all}
use Rattle.ir_store.proofs.Inside.{stands-piece}

-- ---- ids

mutual
  -- the ids of operations that stand in a module name them
  pub are-ops : (os : Module) (m : Module) (c : Numbers) → Inside m c (parts c os) (types_in os)
      → AreOps m c (op_ids c os) os
  are-ops no_ops m c x = tt
  are-ops (then_op h rs os) m c x =
      let o = inside-op m c h rs os x in
      (refl, o.here, are-ops os m (behind_regions (past_op c h) rs) o.rest)

  -- the same of regions
  pub are-regions : (rs : Rs) (m : Module) (c : Numbers)
      → Inside m c (parts_of_regions c rs) (types_in_regions rs)
      → AreRegions m c (region_ids c rs) rs
  are-regions no_regions m c x = tt
  are-regions (region bs rs) m c x =
      let o = inside-region m c bs rs x in
      (refl, o.here, are-regions rs m (behind_blocks (past_region c) bs) o.rest)

  -- the same of blocks
  pub are-blocks : (bs : Bs) (m : Module) (c : Numbers)
      → Inside m c (parts_of_blocks c bs) (types_in_blocks bs) → AreBlocks m c (block_ids c bs) bs
  are-blocks no_blocks m c x = tt
  are-blocks (block args os bs) m c x =
      let o = inside-block m c args os bs x in
      (refl, o.here, are-blocks bs m (behind (past_block c args) os) o.rest)

-- ---- what stands at a place of the rows

-- the row of an operation that an id names
pub op-row : (m : Module) (id : OpId) (x : OpSite OpName ValueId) → op_at m id ≡ Some x
    → slice_get (rows_of m).ops id.0 ≡ Some (op_node x)
op-row m id x e = slice_get-map op_node (ops_in m) id.0 ∙ ap (option_map op_node) e

-- the row of a region that an id names
pub region-row : (m : Module) (id : RegionId) (x : RegionSite OpName ValueId)
    → region_at m id ≡ Some x → slice_get (rows_of m).regions id.0 ≡ Some (region_node x)
region-row m id x e = slice_get-map region_node (regions_in m) id.0 ∙ ap (option_map region_node) e

-- the row of a block that an id names
pub block-row : (m : Module) (id : BlockId) (x : BlockSite OpName ValueId) → block_at m id ≡ Some x
    → slice_get (rows_of m).blocks id.0 ≡ Some (block_node x)
block-row m id x e = slice_get-map block_node (blocks_in m) id.0 ∙ ap (option_map block_node) e

-- ---- reading back

-- the first id of a list is read as the operation of its row
pub op-now : (s : Rows) (steps : ℕ) (id : OpId) (ids : List OpId) (n : OpNode)
    → slice_get s.ops id.0 ≡ Some n
    → read_ops s (suc steps) (id ∷ ids) ≡ then_op n.head (read_regions s steps n.regions) (read_ops s steps ids)
op-now s steps id ids n e = rw (e, read_ops)

-- the same of regions
pub region-now : (s : Rows) (steps : ℕ) (id : RegionId) (ids : List RegionId) (n : RegionRow)
    → slice_get s.regions id.0 ≡ Some n
    → read_regions s (suc steps) (id ∷ ids) ≡ region (read_blocks s steps n.blocks) (read_regions s steps ids)
region-now s steps id ids n e = rw (e, read_regions)

-- the same of blocks
pub block-now : (s : Rows) (steps : ℕ) (id : BlockId) (ids : List BlockId) (n : BlockEntry)
    → slice_get s.blocks id.0 ≡ Some n
    → read_blocks s (suc steps) (id ∷ ids) ≡ block (take n.count (drop n.first s.types)) (read_ops s steps n.ops) (read_blocks s steps ids)
block-now s steps id ids n e = rw (e, read_blocks)

mutual
  -- operations are read back from the tables of the module in which they stand
  pub back-ops : (steps : ℕ) (os m : Module) (c : Numbers) → Inside m c (parts c os) (types_in os)
      → length (parts c os) ≤ steps → read_ops (rows_of m) steps (op_ids c os) ≡ os
  back-ops zero no_ops m c x within = refl
  back-ops zero (then_op h rs os) m c x within = absurd (omega arith)
  back-ops (suc steps) no_ops m c x within = refl
  back-ops (suc steps) (then_op h rs os) m c x within =
      let d = past_op c h in
      let f = behind_regions d rs in
      let o = inside-op m c h rs os x in
      let many = length-append (parts_of_regions d rs) (parts f os) in
      let inside : read_regions (rows_of m) steps (region_ids d rs) ≡ rs = back-regions steps rs m d o.inside (omega arith) in
      let rest : read_ops (rows_of m) steps (op_ids f os) ≡ os = back-ops steps os m f o.rest (omega arith) in
      op-now (rows_of m) steps (op_id c.ops) (op_ids f os) _ (op-row m (op_id c.ops) _ o.here)
      ∙ ap (λ rs. then_op h rs (read_ops (rows_of m) steps (op_ids f os))) inside ∙ ap (then_op h rs) rest

  -- the same of regions
  pub back-regions : (steps : ℕ) (rs : Rs) (m : Module) (c : Numbers)
      → Inside m c (parts_of_regions c rs) (types_in_regions rs)
      → length (parts_of_regions c rs) ≤ steps
      → read_regions (rows_of m) steps (region_ids c rs) ≡ rs
  back-regions zero no_regions m c x within = refl
  back-regions zero (region bs rs) m c x within = absurd (omega arith)
  back-regions (suc steps) no_regions m c x within = refl
  back-regions (suc steps) (region bs rs) m c x within =
      let d = past_region c in
      let f = behind_blocks d bs in
      let o = inside-region m c bs rs x in
      let many = length-append (parts_of_blocks d bs) (parts_of_regions f rs) in
      let inside : read_blocks (rows_of m) steps (block_ids d bs) ≡ bs = back-blocks steps bs m d o.inside (omega arith) in
      let rest : read_regions (rows_of m) steps (region_ids f rs) ≡ rs = back-regions steps rs m f o.rest (omega arith) in
      region-now (rows_of m) steps (region_id c.regions) (region_ids f rs) _ (region-row m (region_id c.regions) _ o.here)
      ∙ ap (λ bs. region bs (read_regions (rows_of m) steps (region_ids f rs))) inside ∙ ap (region bs) rest

  -- the same of blocks
  pub back-blocks : (steps : ℕ) (bs : Bs) (m : Module) (c : Numbers)
      → Inside m c (parts_of_blocks c bs) (types_in_blocks bs)
      → length (parts_of_blocks c bs) ≤ steps
      → read_blocks (rows_of m) steps (block_ids c bs) ≡ bs
  back-blocks zero no_blocks m c x within = refl
  back-blocks zero (block args os bs) m c x within = absurd (omega arith)
  back-blocks (suc steps) no_blocks m c x within = refl
  back-blocks (suc steps) (block args os bs) m c x within =
      let d = past_block c args in
      let f = behind d os in
      let o = inside-block m c args os bs x in
      let many = length-append (parts d os) (parts_of_blocks f bs) in
      let types : take (length args) (drop c.values (types_in m)) ≡ args = stands-piece (types_in m) args c.values o.types in
      let inside : read_ops (rows_of m) steps (op_ids d os) ≡ os = back-ops steps os m d o.inside (omega arith) in
      let rest : read_blocks (rows_of m) steps (block_ids f bs) ≡ bs = back-blocks steps bs m f o.rest (omega arith) in
      block-now (rows_of m) steps (block_id c.blocks) (block_ids f bs) _ (block-row m (block_id c.blocks) _ o.here)
      ∙ ap (λ args. block args (read_ops (rows_of m) steps (op_ids d os)) (read_blocks (rows_of m) steps (block_ids f bs))) types
      ∙ ap (λ os. block args os (read_blocks (rows_of m) steps (block_ids f bs))) inside ∙ ap (block args os) rest

-- each part is of one kind
parts-length : (ps : List (Part OpName ValueId))
    → length ps ≡ length (op_sites ps) + length (region_sites ps) + length (block_sites ps)
parts-length [] = refl
parts-length (an_op x ∷ ps) = let rest = parts-length ps in omega arith
parts-length (a_region x ∷ ps) = let rest = parts-length ps in omega arith
parts-length (a_block x ∷ ps) = let rest = parts-length ps in omega arith

-- the module of the rows of a module is that module
pub module-rows : (m : Module) → module_of (rows_of m) ≡ m
module-rows m =
    back-ops _ m m first_numbers (inside-all m)
    (omega (arith, parts-length (parts first_numbers m), length-map (op_sites (parts first_numbers m)) op_node, length-map (region_sites (parts first_numbers m)) region_node, length-map (block_sites (parts first_numbers m)) block_node))

-- modules with the same rows are the same
pub rows-same : (a b : Module) → rows_of a ≡ rows_of b → a ≡ b
rows-same a b e = sym (module-rows a) ∙ ap module_of e ∙ module-rows b
