-- An operation of a stored module as its definition sees it.
--
-- In a stored module types and values are ids of a table of values, which is `values` throughout.
--
--   Site                           an operation where it stands in a stored module
--   values_at values ids           the values of these ids
--   attrs_seen values keys ids     attributes, each key with the value at its place
--   blocks_seen values blocks      for each block the types of its arguments
--   regions_seen values regions    for each block of each region the types of its arguments
--   operation values types head regions      an operation by its parts in the store, where its
--                                  operands have these types
--   operation_seen values types site         the operation at a site
--   type_in m n                    the type of a value of the module
--   operand_types m site           the types of the operands at a site
--   HasIds len m                   types and attributes of the module are values of a table of len
use Rattle.std.specs.Prelude.{ℕ, List, [], ◌∷◌, length, map, slice_index_or}
use Rattle.std.specs.List.{AllByRecursion, zip}
use Rattle.attr_value.specs.declared.head.ValueId.{ValueId}
use Rattle.attr_value.specs.Ids.{at, AreKnown}
use Rattle.attr_value.specs.Values.{Value}
use Rattle.dialect_defs.specs.Operations.{Attrs, Operation}
use Rattle.ir_store.specs.Modules.{Regions, Blocks, no_regions, region, no_blocks, block}
use Rattle.ir_store.specs.Modules.{types_in}
use Rattle.ir_store.specs.Numbering.{OpSite, ops_in}
use Rattle.ir_store.specs.Store.{OpName, StoredHead, Module}

-- an operation where it stands in a stored module
abbrev pub Site : Type 0
Site = OpSite OpName ValueId

-- the values of these ids
abbrev pub values_at : List Value → List ValueId → List Value
values_at values ids = map (λ id. at values id.0) ids

-- each key with the value at its place
abbrev pub attrs_seen : List Value → List (List ℕ) → List ValueId → Attrs
attrs_seen values keys ids = zip keys (values_at values ids)

-- for each block the types of its arguments
abbrev pub blocks_seen : List Value → Blocks OpName ValueId → List (List Value)
blocks_seen values no_blocks = []
blocks_seen values (block args ops blocks) = values_at values args ∷ blocks_seen values blocks

-- for each region what its blocks are
abbrev pub regions_seen : List Value → Regions OpName ValueId → List (List (List Value))
regions_seen values no_regions = []
regions_seen values (region blocks regions) =
    blocks_seen values blocks ∷ regions_seen values regions

-- the operation of a head and regions, where its operands have these types
abbrev pub operation : List Value → List ValueId → StoredHead → Regions OpName ValueId → Operation
operation values types head regions = record {
  operands = values_at values types;
  results = values_at values head.results;
  successors = length head.successors;
  attrs = attrs_seen values head.keys head.values;
  regions = regions_seen values regions;
}

-- the operation at a site
abbrev pub operation_seen : List Value → List ValueId → Site → Operation
operation_seen values types site = operation values types site.head site.regions

-- the type of a value of the module
abbrev pub type_in : Module → ℕ → ValueId
type_in m n = slice_index_or (types_in m) n (record { 0 = 0 })

-- the types of the operands at a site
abbrev pub operand_types : Module → Site → List ValueId
operand_types m site = map (type_in m) site.head.operands

-- the types of all values, and the values of all attributes, are in a table of so many values
pub record HasIds (len : ℕ) (m : Module) : Type 0 where
  pub types : AreKnown len (types_in m)
  pub attrs : AllByRecursion (λ (site : Site). AreKnown len site.head.values) (ops_in m)
