-- What is known of the operations of a stored module: which definitions they name, and what texts
-- and how many blocks they have.
--
--   NameDefinitions count m     each operation names one of so many definitions
--   HasFewBlocks m id           64 bits can number the blocks of the region that an id names
--   HaveFewBlocks rs            each of these regions is so
--   IsHeld site                 an operation's keys have bytes, and its regions few enough blocks
use Rattle.std.specs.Prelude.{ℕ, ◌<◌, ◌≤◌, ◌^◌, length}
use Rattle.std.specs.List.{AllByRecursion}
use Rattle.std.specs.Option.{ForSome}
use Rattle.attr_value.specs.declared.head.ValueId.{ValueId}
use Rattle.derived_printer.specs.Spellable.{AreBytes}
use Rattle.ir_store.specs.declared.rows.RegionId.{RegionId}
use Rattle.ir_store.specs.Modules.{Regions, no_regions, region, block_args}
use Rattle.ir_store.specs.Named.{region_at}
use Rattle.ir_store.specs.Numbering.{ops_in}
use Rattle.ir_store.specs.Store.{OpName, Module}
use Rattle.op_verifier.specs.Seen.{Site}

-- the number of each operation's definition is below the count
pub record NameDefinitions (count : ℕ) (m : Module) : Type 0 where
  pub each : AllByRecursion (λ (site : Site). site.head.name.def < count) (ops_in m)

-- the region of this id, if the module has it, has at most 2^64 blocks
pub record HasFewBlocks (m : Module) (id : RegionId) : Type 0 where
  pub few : ForSome (region_at m id) (λ x. length (block_args x.blocks) ≤ 2 ^ 64)

-- Each region has at most 2^64 blocks. Regions in them are not looked at.
abbrev pub HaveFewBlocks : Regions OpName ValueId → Type 0
HaveFewBlocks no_regions = Unit {0}
HaveFewBlocks (region blocks rs) = (length (block_args blocks) ≤ 2 ^ 64) × HaveFewBlocks rs

-- an operation as a program holds it, where it stands
pub record IsHeld (site : Site) : Type 0 where
  pub keys : AllByRecursion AreBytes site.head.keys
  pub regions : HaveFewBlocks site.regions
