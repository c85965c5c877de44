-- Modules with whole names and values, and what makes one proper whatever text it is of.
--
--   WholeHead, WholeModule     an operation without its regions; a module
--   Loaded                     what definition files define
--   IsGoodType loaded t        a good value that is a type
--   operation_with ts head regions     an operation as its definition sees it, where its operands
--                              have these types
--   keys_in_order o            the keys of its attributes, as they are listed
--   region_depth m             how many regions stand one in the other
--   own_numbers n os           the numbers of the values that operations define themselves
--   EachOp P .. os             each operation is so where it stands
--   IsInScope ..               operands and successors are in scope where an operation stands
--   IsProperOp ..              what else is asked of it there
--   Proper loaded m            a proper module
use Rattle.std.specs.Prelude.{◌≡◌, ◌<◌, ◌≤◌, ℕ, suc, ◌+◌, max, Bool, true, false, List, []}
use Rattle.std.specs.Prelude.{◌++◌, length, map, Contains}
use Rattle.std.specs.List.{AllByRecursion, range_with_len, zip}
use Rattle.attr_value.specs.declared.head.TheConstants.{DEPTH_LIMIT}
use Rattle.attr_value.specs.Heads.{IsType}
use Rattle.attr_value.specs.Values.{Value}
use Rattle.dialect_defs.specs.declared.definition.OpDef.{OpDef}
use Rattle.dialect_defs.specs.declared.definition.TypeDef.{TypeDef}
use Rattle.dialect_defs.specs.Assignments.{Tests}
use Rattle.dialect_defs.specs.Goodness.{Good}
use Rattle.dialect_defs.specs.Operations.{Operation}
use Rattle.ir_lexer.specs.Spelling.{Text}
use Rattle.ir_store.specs.Modules.{OpHead, Ops, Regions, Blocks, no_ops, then_op, no_regions}
use Rattle.ir_store.specs.Modules.{region, no_blocks, block, types_in, types_in_regions}
use Rattle.ir_store.specs.Modules.{types_in_blocks, block_args, region_args}
use Rattle.ir_store.specs.Named.{AttrsAreRight}

-- an operation without its regions, by its name, with types and attributes as values
abbrev pub WholeHead : Type 0
WholeHead = OpHead Text Value

-- a module of such operations
abbrev pub WholeModule : Type 0
WholeModule = Ops Text Value

-- What definition files define: types and attributes, and operations. Constants are ids of the
-- table, and predicates are numbers in the list of tests.
pub record Loaded : Type 0 where
  pub values : List Value
  pub tests : Tests
  pub types : List TypeDef
  pub ops : List OpDef

-- a value is good by these definitions
abbrev pub IsGood : Loaded → Value → Type 0
IsGood loaded = Good loaded.values loaded.tests loaded.types

-- a value is good, and a type
pub record IsGoodType (loaded : Loaded) (t : Value) : Type 0 where
  pub good : IsGood loaded t
  pub type : IsType t

-- an operation as its definition sees it, where its operands have these types
abbrev pub operation_with : List Value → WholeHead → Regions Text Value → Operation
operation_with types head regions = record {
  operands = types;
  results = head.results;
  successors = length head.successors;
  attrs = zip head.keys head.values;
  regions = region_args regions;
}

-- the keys of an operation's attributes, as they are listed
abbrev pub keys_in_order : Operation → List Text
keys_in_order o = map (λ attr. attr.0) o.attrs

-- ---- regions

-- how many regions stand one in the other
abbrev mutual
  pub region_depth : WholeModule → ℕ
  region_depth no_ops = 0
  region_depth (then_op head regions os) = max (depth_of_regions regions) (region_depth os)

  -- these regions and what stands in them
  pub depth_of_regions : Regions Text Value → ℕ
  depth_of_regions no_regions = 0
  depth_of_regions (region blocks rs) = max (suc (depth_of_blocks blocks)) (depth_of_regions rs)

  -- what stands in blocks
  pub depth_of_blocks : Blocks Text Value → ℕ
  depth_of_blocks no_blocks = 0
  depth_of_blocks (block args os bs) = max (region_depth os) (depth_of_blocks bs)

-- the numbers of the values that operations define themselves, where the first is n
abbrev pub own_numbers : ℕ → WholeModule → List ℕ
own_numbers n no_ops = []
own_numbers n (then_op head regions os) =
    range_with_len n (length head.results)
    ++ own_numbers (n + length head.results + length (types_in_regions regions)) os

-- those that the blocks of a region define, with their arguments
abbrev pub block_numbers : ℕ → Blocks Text Value → List ℕ
block_numbers n no_blocks = []
block_numbers n (block args os bs) =
    range_with_len n (length args)
    ++ (own_numbers (n + length args) os
    ++ block_numbers (n + length args + length (types_in os)) bs)

-- no operation stands here
abbrev pub is_end : WholeModule → Bool
is_end no_ops = true
is_end (then_op _ _ _) = false

-- Each operation has the property P where it stands: which values may be used there, how many
-- blocks its region has, the operation, its regions, and whether it is the last of its list. The
-- first value has the number n.
module _ (P : List ℕ → ℕ → WholeHead → Regions Text Value → Bool → Type 0) where
  abbrev mutual
    pub EachOp : List ℕ → ℕ → ℕ → WholeModule → Type 0
    EachOp visible blocks n no_ops = Unit {0}
    EachOp visible blocks n (then_op head regions os) =
        P visible blocks head regions (is_end os)
        × EachInRegions visible (n + length head.results) regions
        × EachOp visible blocks (n + length head.results + length (types_in_regions regions)) os

    -- the same in regions, where what is round them may be used too
    pub EachInRegions : List ℕ → ℕ → Regions Text Value → Type 0
    EachInRegions visible n no_regions = Unit {0}
    EachInRegions visible n (region bs rs) =
        EachInBlocks (block_numbers n bs ++ visible) (length (block_args bs)) n bs
        × EachInRegions visible (n + length (types_in_blocks bs)) rs

    -- the same in the blocks of a region
    pub EachInBlocks : List ℕ → ℕ → ℕ → Blocks Text Value → Type 0
    EachInBlocks visible blocks n no_blocks = Unit {0}
    EachInBlocks visible blocks n (block args os bs) =
        EachOp visible blocks (n + length args) os
        × EachInBlocks visible blocks (n + length args + length (types_in os)) bs

-- Operands are values that may be used where the operation stands, and successors are blocks of its
-- region.
pub record IsInScope (visible : List ℕ) (blocks : ℕ) (head : WholeHead)
    (regions : Regions Text Value) (is_last : Bool) : Type 0 where
  pub operands : AllByRecursion (Contains visible) head.operands
  pub successors : AllByRecursion (λ b. b < blocks) head.successors

module _ (loaded : Loaded) where
  -- An operation where it stands: what it names is in scope, no successor is the first block,
  -- attributes have good values by strictly ascending keys, and one that is declared a terminator
  -- is the last.
  pub record IsProperOp (visible : List ℕ) (blocks : ℕ) (head : WholeHead)
      (regions : Regions Text Value) (is_last : Bool) : Type 0 where
    pub in_scope : IsInScope visible blocks head regions is_last
    pub targets : AllByRecursion (λ b. 0 < b) head.successors
    pub attrs : AttrsAreRight head
    pub values : AllByRecursion (IsGood loaded) head.values
    pub terminator : (d : OpDef) → Contains loaded.ops d → d.name ≡ head.name
        → d.terminator ≡ true → is_last ≡ true

  -- Each operation is proper where it stands, a use being of a value of its region or of one round
  -- it. The types of all values are good types, and regions nest no deeper than the limit. At top
  -- level there is no block.
  pub record Proper (m : WholeModule) : Type 0 where
    pub each : EachOp IsProperOp (own_numbers 0 m) 0 0 m
    pub types : AllByRecursion (IsGoodType loaded) (types_in m)
    pub nested : region_depth m ≤ DEPTH_LIMIT
