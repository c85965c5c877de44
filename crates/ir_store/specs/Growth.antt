-- What may be added to a module, and which module stands then.
--
--   Parent             what operations, regions or blocks stand in: the top level or a block, an
--                     operation, a region
--   IsOneOf p ps      the place p is in a list
--   open_ops, open_regions, open_blocks      the open places among what begins at some numbers
--   open_in m         the open places of a module, from the top level inwards
--   IsOpen m p        the place p is open
--   Addition          what is put last, and in which place
--   parent_of a       the place where an addition goes
--   in_this_op, in_this_region, in_this_block      an addition at a number, or inside
--   added_ops, added_regions, added_blocks         what begins at some numbers, with an addition
--   added m a         the module with the addition
--   one_op, one_region, one_block      what one call adds
--   Opens old new parent child      what is open when a child was put into a parent
use Rattle.std.specs.Prelude.{◌≡◌, ◌⊎◌, ℕ, List, [], ◌∷◌, ◌++◌, ◌==◌, if◌then◌else◌}
use Rattle.std.specs.declared.option.Option.{Option}
use Rattle.std.specs.declared.option.Option.TheVariants.{Some, None}
use Rattle.ir_store.specs.declared.rows.OpId.{OpId}
use Rattle.ir_store.specs.declared.rows.RegionId.{RegionId}
use Rattle.ir_store.specs.declared.rows.BlockId.{BlockId}
use Rattle.ir_store.specs.Modules.{OpHead, Ops, Regions, Blocks}
use Rattle.ir_store.specs.Modules.{no_ops, then_op, no_regions, region, no_blocks, block}
use Rattle.ir_store.specs.Modules.{joined_ops, joined_regions, joined_blocks}
use Rattle.ir_store.specs.Numbering.{Numbers, first_numbers, past_op, past_region, past_block}
use Rattle.ir_store.specs.Numbering.{behind, behind_regions, behind_blocks}
use Rattle.ir_store.specs.Named.{op_id, region_id, block_id}

-- what others stand in: the top level or a block, an operation, a region
pub data Parent : Type 0 where
  in_block : Option BlockId → Parent
  in_op : OpId → Parent
  in_region : RegionId → Parent

-- the place is in the list
abbrev pub IsOneOf : Parent → List Parent → Type 0
IsOneOf p [] = ⊥
IsOneOf p (q ∷ qs) = (p ≡ q) ⊎ IsOneOf p qs

-- these operations are put last in the block, or last at top level; or these regions last in the
-- operation; or these blocks last in the region
pub data Addition (N V : Type 0) : Type 0 where
  to_block : Option BlockId → Ops N V → Addition N V
  to_op : OpId → Regions N V → Addition N V
  to_region : RegionId → Blocks N V → Addition N V

module _ {N V : Type 0} where
  -- What is open among operations that begin at c: the last one; of its regions the last one; of
  -- that region's blocks the last one; and what is open among the operations of that block.
  abbrev mutual
    pub open_ops : Numbers → Ops N V → List Parent
    open_ops c no_ops = []
    open_ops c (then_op head regions no_ops) =
        in_op (op_id c.ops) ∷ open_regions (past_op c head) regions
    open_ops c (then_op head regions (then_op next more os)) =
        open_ops (behind_regions (past_op c head) regions) (then_op next more os)

    -- what is open among regions that begin at c
    pub open_regions : Numbers → Regions N V → List Parent
    open_regions c no_regions = []
    open_regions c (region blocks no_regions) =
        in_region (region_id c.regions) ∷ open_blocks (past_region c) blocks
    open_regions c (region blocks (region next rs)) =
        open_regions (behind_blocks (past_region c) blocks) (region next rs)

    -- what is open among blocks that begin at c
    pub open_blocks : Numbers → Blocks N V → List Parent
    open_blocks c no_blocks = []
    open_blocks c (block args ops no_blocks) =
        in_block (Some (block_id c.blocks)) ∷ open_ops (past_block c args) ops
    open_blocks c (block args ops (block next more bs)) =
        open_blocks (behind (past_block c args) ops) (block next more bs)

  -- The top level is always open. An operation is open where it is the last at top level or the
  -- last of an open block, a region where it is the last of an open operation, and a block where
  -- it is the last of an open region.
  abbrev pub open_in : Ops N V → List Parent
  open_in m = in_block None ∷ open_ops first_numbers m

  -- the place is one of the open ones
  pub record IsOpen (m : Ops N V) (p : Parent) : Type 0 where
    pub among : IsOneOf p (open_in m)

  -- where an addition goes: the place must be open
  abbrev pub parent_of : Addition N V → Parent
  parent_of (to_block b _) = in_block b
  parent_of (to_op o _) = in_op o
  parent_of (to_region r _) = in_region r

  -- the regions of the operation of a number: with the addition, if it goes there, and otherwise
  -- with the addition inside
  abbrev pub in_this_op : Addition N V → ℕ → Regions N V → Regions N V → Regions N V
  in_this_op (to_op o more) n rs inside = if o.0 == n then joined_regions rs more else inside
  in_this_op (to_block b more) n rs inside = inside
  in_this_op (to_region r more) n rs inside = inside

  -- the blocks of the region of a number, and the operations of the block of a number
  abbrev pub in_this_region : Addition N V → ℕ → Blocks N V → Blocks N V → Blocks N V
  in_this_region (to_region r more) n bs inside = if r.0 == n then joined_blocks bs more else inside
  in_this_region (to_block b more) n bs inside = inside
  in_this_region (to_op o more) n bs inside = inside

  -- the operations of the block of a number, in the same way
  abbrev pub in_this_block : Addition N V → ℕ → Ops N V → Ops N V → Ops N V
  in_this_block (to_block (Some b) more) n os inside =
      if b.0 == n then joined_ops os more else inside
  in_this_block (to_block None more) n os inside = inside
  in_this_block (to_op o more) n os inside = inside
  in_this_block (to_region r more) n os inside = inside

  -- what begins at c, with an addition to one of its open places
  abbrev mutual
    pub added_ops : Addition N V → Numbers → Ops N V → Ops N V
    added_ops a c no_ops = no_ops
    added_ops a c (then_op head regions no_ops) =
        then_op head
        (in_this_op a c.ops regions (added_regions a (past_op c head) regions)) no_ops
    added_ops a c (then_op head regions (then_op next more os)) =
        then_op head regions
        (added_ops a (behind_regions (past_op c head) regions) (then_op next more os))

    -- regions that begin at c, with the addition
    pub added_regions : Addition N V → Numbers → Regions N V → Regions N V
    added_regions a c no_regions = no_regions
    added_regions a c (region blocks no_regions) =
        region (in_this_region a c.regions blocks (added_blocks a (past_region c) blocks))
        no_regions
    added_regions a c (region blocks (region next rs)) =
        region blocks (added_regions a (behind_blocks (past_region c) blocks) (region next rs))

    -- blocks that begin at c, with the addition
    pub added_blocks : Addition N V → Numbers → Blocks N V → Blocks N V
    added_blocks a c no_blocks = no_blocks
    added_blocks a c (block args ops no_blocks) =
        block args (in_this_block a c.blocks ops (added_ops a (past_block c args) ops)) no_blocks
    added_blocks a c (block args ops (block next more bs)) =
        block args ops (added_blocks a (behind (past_block c args) ops) (block next more bs))

  -- the module with an addition to an open place
  abbrev pub added : Ops N V → Addition N V → Ops N V
  added m (to_block None more) = joined_ops m more
  added m (to_block (Some b) more) = added_ops (to_block (Some b) more) first_numbers m
  added m (to_op o more) = added_ops (to_op o more) first_numbers m
  added m (to_region r more) = added_ops (to_region r more) first_numbers m

  -- an operation without regions, as a list
  abbrev pub one_op : OpHead N V → Ops N V
  one_op head = then_op head no_regions no_ops

  -- a region without blocks
  abbrev pub one_region : Regions N V
  one_region = region no_blocks no_regions

  -- a block without operations
  abbrev pub one_block : List V → Blocks N V
  one_block args = block args no_ops no_blocks

  -- The child is open now. Its parent and what was open round that stay open, and nothing else
  -- does.
  pub record Opens (old new : Ops N V) (parent child : Parent) : Type 0 where
    pub round : List Parent
    pub inside : List Parent
    pub was : open_in old ≡ round ++ parent ∷ inside
    pub is : open_in new ≡ round ++ parent ∷ child ∷ []
