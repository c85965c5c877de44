-- What a walk over a tree adds to a store, with rows that it takes one after the other.
--
--   Shown, shown_of row     an operation by its head and the types of the arguments of its blocks;
--                           that of a row
--   shown_in os             the operations of a module, in text order
--   shown_in_regions rs, shown_in_blocks bs      those in regions and in blocks
--   Await cs rows           rows begin with one for each of these operations, which fits it
--   OpsFilled old new b cs rows left      operations of the trees cs were added to a block, with
--                           the rows that aren't left
--   RegionsFilled, BlocksFilled           the same of regions and of blocks, with the types of the
--                           arguments of blocks taken in the same way
--
-- Inside: no public clause rests on this.
use Rattle.std.specs.Prelude.{◌≡◌, ℕ, List, [], ◌∷◌, ◌++◌, map}
use Rattle.std.specs.List.{AllZip}
use Rattle.std.specs.declared.option.Option.{Option}
use Rattle.attr_value.specs.declared.head.ValueId.{ValueId}
use Rattle.generic_syntax.specs.declared.module_cst.BlockCst.{BlockCst}
use Rattle.generic_syntax.specs.declared.module_cst.OpCst.{OpCst}
use Rattle.generic_syntax.specs.declared.module_cst.RegionCst.{RegionCst}
use Rattle.ir_store.specs.declared.rows.OpId.{OpId}
use Rattle.ir_store.specs.declared.rows.RegionId.{RegionId}
use Rattle.ir_store.specs.declared.rows.BlockId.{BlockId}
use Rattle.ir_store.specs.Growth.{added, to_block, to_op, to_region}
use Rattle.ir_store.specs.Modules.{Regions, Blocks, no_ops, then_op, no_regions}
use Rattle.ir_store.specs.Modules.{region, no_blocks, block, block_args}
use Rattle.ir_store.specs.Store.{OpName, StoredHead, Module, head_of}
use Rattle.module_builder.specs.declared.row.Row.{Row}
use Rattle.module_builder.specs.Built.{all_args}
use Rattle.module_builder.specs.Fit.{ArgsFit, blocks_under}
use Rattle.module_builder.specs.Rows.{RowFits}
use Rattle.module_faults.specs.Shape.{HasShape, RegionsHaveShape, BlocksHaveShape}
use Rattle.module_faults.specs.Standings.{Standing, ops_of, ops_standings, regions_standings}
use Rattle.module_faults.specs.Standings.{blocks_standings}

-- an operation by its head and the types of the arguments of the blocks of its regions
pub record Shown : Type 0 where
  pub head : StoredHead
  pub args : List (List ValueId)

-- that of a row
abbrev pub shown_of : Row → Shown
shown_of r = record { head = head_of r.row; args = r.args }

abbrev mutual
  -- the operations of a module, in text order
  pub shown_in : Module → List Shown
  shown_in no_ops = []
  shown_in (then_op head regions os) =
      record { head = head; args = all_args regions } ∷ (shown_in_regions regions ++ shown_in os)

  -- those in regions
  pub shown_in_regions : Regions OpName ValueId → List Shown
  shown_in_regions no_regions = []
  shown_in_regions (region bs rs) = shown_in_blocks bs ++ shown_in_regions rs

  -- those in blocks
  pub shown_in_blocks : Blocks OpName ValueId → List Shown
  shown_in_blocks no_blocks = []
  shown_in_blocks (block args os bs) = shown_in os ++ shown_in_blocks bs

-- the operations that stand among trees with so many regions round them
abbrev pub Stands : Type 0
Stands = ℕ → List Standing

-- rows begin with one for each operation that stands there, which fits it
pub record Await (ss : Stands) (rows : List Row) : Type 0 where
  pub round : ℕ
  pub more : List OpCst
  pub fit : AllZip RowFits (ops_of (ss round) ++ more) rows

-- of rows that begin with those of what stands there, the others are left
abbrev pub Leaves : Stands → List Row → List Row → Type 0
Leaves ss rows left = (n : ℕ) (more : List OpCst)
    → AllZip RowFits (ops_of (ss n) ++ more) rows → AllZip RowFits more left

-- of lists of types that begin with those of these blocks, the others are left
abbrev pub LeavesArgs : List BlockCst → List (List ValueId) → List (List ValueId) → Type 0
LeavesArgs bs args left = (more : List BlockCst)
    → AllZip ArgsFit (bs ++ more) args → AllZip ArgsFit more left

-- lists of types begin with one for each of these blocks, which fits it
pub record AwaitArgs (bs : List BlockCst) (args : List (List ValueId)) : Type 0 where
  pub more : List BlockCst
  pub fit : AllZip ArgsFit (bs ++ more) args

-- operations were added to a block, or to the top level
pub record OpsFilled (old new : Module) (b : Option BlockId) (cs : List OpCst)
    (rows left : List Row) : Type 0 where
  pub ops : Module
  pub is : new ≡ added old (to_block b ops)
  pub shape : HasShape cs ops
  pub shown : shown_in ops ++ map shown_of left ≡ map shown_of rows
  pub leaves : Leaves (λ n. ops_standings n cs) rows left

-- regions were added to an operation
pub record RegionsFilled (old new : Module) (o : OpId) (rs : List RegionCst)
    (args args_left : List (List ValueId)) (rows left : List Row) : Type 0 where
  pub regions : Regions OpName ValueId
  pub is : new ≡ added old (to_op o regions)
  pub shape : RegionsHaveShape rs regions
  pub types : all_args regions ++ args_left ≡ args
  pub leaves_args : LeavesArgs (blocks_under rs) args args_left
  pub shown : shown_in_regions regions ++ map shown_of left ≡ map shown_of rows
  pub leaves : Leaves (λ n. regions_standings n rs) rows left

-- blocks were added to a region
pub record BlocksFilled (old new : Module) (r : RegionId) (bs : List BlockCst)
    (args args_left : List (List ValueId)) (rows left : List Row) : Type 0 where
  pub blocks : Blocks OpName ValueId
  pub is : new ≡ added old (to_region r blocks)
  pub shape : BlocksHaveShape bs blocks
  pub types : block_args blocks ++ args_left ≡ args
  pub leaves_args : LeavesArgs bs args args_left
  pub shown : shown_in_blocks blocks ++ map shown_of left ≡ map shown_of rows
  pub leaves : Leaves (λ n. blocks_standings n bs) rows left
