-- The module that tables stand for, read from its first operations down.
--
--   read_ops s n ids, read_regions, read_blocks      what ids name, in at most n steps
--   module_of s    the module
--   IsSound s      the tables are those of that module, and the attributes of each row are right
--
-- Inside: no public clause rests on this.
use Rattle.std.specs.Prelude.{◌≡◌, ℕ, zero, suc, ◌+◌, List, [], ◌∷◌, length, slice_get, take, drop}
use Rattle.std.specs.List.{AllByRecursion}
use Rattle.std.specs.declared.option.Option.TheVariants.{Some, None}
use Rattle.attr_value.specs.declared.head.ValueId.{ValueId}
use Rattle.ir_store.specs.declared.rows.OpId.{OpId}
use Rattle.ir_store.specs.declared.rows.RegionId.{RegionId}
use Rattle.ir_store.specs.declared.rows.BlockId.{BlockId}
use Rattle.ir_store.specs.Modules.{Regions, Blocks}
use Rattle.ir_store.specs.Modules.{no_ops, then_op, no_regions, region, no_blocks, block}
use Rattle.ir_store.specs.Named.{AttrsAreRight}
use Rattle.ir_store.specs.Rows.{Rows, rows_of}
use Rattle.ir_store.specs.Store.{OpName, Module}

-- the operations of these ids, in so many steps at most
abbrev mutual
  pub read_ops : Rows → ℕ → List OpId → Module
  read_ops s zero ids = no_ops
  read_ops s (suc steps) [] = no_ops
  read_ops s (suc steps) (id ∷ ids) = elim (slice_get s.ops id.0) [
    | None ↦ no_ops
    | Some n ↦ then_op n.head (read_regions s steps n.regions) (read_ops s steps ids)
  ]

  -- the regions of these ids
  pub read_regions : Rows → ℕ → List RegionId → Regions OpName ValueId
  read_regions s zero ids = no_regions
  read_regions s (suc steps) [] = no_regions
  read_regions s (suc steps) (id ∷ ids) = elim (slice_get s.regions id.0) [
    | None ↦ no_regions
    | Some n ↦ region (read_blocks s steps n.blocks) (read_regions s steps ids)
  ]

  -- the blocks of these ids
  pub read_blocks : Rows → ℕ → List BlockId → Blocks OpName ValueId
  read_blocks s zero ids = no_blocks
  read_blocks s (suc steps) [] = no_blocks
  read_blocks s (suc steps) (id ∷ ids) = elim (slice_get s.blocks id.0) [
    | None ↦ no_blocks
    | Some n ↦ block (take n.count (drop n.first s.types)) (read_ops s steps n.ops)
        (read_blocks s steps ids)
  ]

-- each row takes one step
abbrev pub module_of : Rows → Module
module_of s = read_ops s (length s.ops + length s.regions + length s.blocks) s.top

-- the tables are those of the module that is read from them, and the attributes of each row are
-- right
pub record IsSound (s : Rows) : Type 0 where
  pub made : s ≡ rows_of (module_of s)
  pub attrs : AllByRecursion (λ n. AttrsAreRight n.head) s.ops
