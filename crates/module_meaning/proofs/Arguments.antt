-- The arguments of blocks are among the values that are defined: what holds of the types of these
-- holds of theirs.
use Rattle.std.proofs.Common.{◌++◌}
use Rattle.std.specs.List.{AllByRecursion}
use Rattle.attr_value.specs.Values.{Value}
use Rattle.ir_lexer.specs.Spelling.{Text}
use Rattle.ir_store.specs.Modules.{Regions, Blocks, no_regions, region, no_blocks, block, types_in}
use Rattle.ir_store.specs.Modules.{types_in_regions, types_in_blocks, block_args, region_args}
use Rattle.module_meaning.proofs.GenericFacts.{all-apart}

module _ (G : Value → Type 0) where
  -- of the blocks of a region
  pub block-arguments : (bs : Blocks Text Value) → AllByRecursion G (types_in_blocks bs)
      → AllByRecursion (AllByRecursion G) (block_args bs)
  block-arguments no_blocks h = tt
  block-arguments (block xs os bs) h =
      let first = all-apart G (xs ++ types_in os) (types_in_blocks bs) h in
      ((all-apart G xs (types_in os) first.0).0, block-arguments bs first.1)

  -- and of regions
  pub region-arguments : (rs : Regions Text Value) → AllByRecursion G (types_in_regions rs)
      → AllByRecursion (AllByRecursion (AllByRecursion G)) (region_args rs)
  region-arguments no_regions h = tt
  region-arguments (region bs rs) h =
      let first = all-apart G (types_in_blocks bs) (types_in_regions rs) h in
      (block-arguments bs first.0, region-arguments rs first.1)
