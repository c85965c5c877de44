-- Which modules have a canonical text that is read as them.
--
-- A proper module has, each of whose operations meets a definition of its name: what completes a
-- tree is such. Besides, its texts have bytes, and there are few enough values and blocks that
-- their numbers are names; both come of how a module is stored, and are apart here.
--
--   NamesAreSpellable loaded     the names of definitions can be spelled
--   MeetsSome loaded types ..    an operation meets a definition of its name, in a module whose
--                                values have these types
--   HasTexts ..                  the keys and the values of its attributes have bytes
--   longest_region m             how many blocks there are in the region with the most
--   IsStorable m                 texts have bytes, and values and blocks are few enough
--   IsWellFormed loaded m        the module has a text that is read as it
use Rattle.std.specs.Prelude.{◌≡◌, ℕ, ◌≤◌, ◌^◌, max, Bool, List, length, map, Contains}
use Rattle.std.specs.List.{AllByRecursion}
use Rattle.attr_value.specs.Ids.{at}
use Rattle.attr_value.specs.Values.{Value}
use Rattle.derived_printer.specs.Spellable.{AreBytes, HasBytes, HaveFullNames}
use Rattle.dialect_defs.specs.declared.definition.OpDef.{OpDef}
use Rattle.dialect_defs.specs.Operations.{MeetsDefinition}
use Rattle.ir_lexer.specs.Spelling.{Text}
use Rattle.ir_store.specs.Modules.{Regions, Blocks, no_ops, then_op, no_regions, region}
use Rattle.ir_store.specs.Modules.{no_blocks, block, types_in, block_args}
use Rattle.module_meaning.specs.WholeModules.{WholeHead, WholeModule, Loaded, Proper, EachOp}
use Rattle.module_meaning.specs.WholeModules.{operation_with, own_numbers}

-- Names of types and attributes have their shape, and those of operations have bytes.
pub record NamesAreSpellable (loaded : Loaded) : Type 0 where
  pub types : HaveFullNames loaded.types
  pub ops : AllByRecursion (λ (d : OpDef). AreBytes d.name) loaded.ops

-- The operation meets a definition of its name, where its operands have the types of their values
-- in a module whose values have these types. It may do so wherever it stands.
pub record MeetsSome (loaded : Loaded) (types : List Value) (visible : List ℕ) (blocks : ℕ)
    (head : WholeHead) (regions : Regions Text Value) (is_last : Bool) : Type 0 where
  pub def : OpDef
  pub known : Contains loaded.ops def
  pub named : def.name ≡ head.name
  pub meets : MeetsDefinition loaded.values loaded.tests def
      (operation_with (map (at types) head.operands) head regions)

-- the keys of the operation's attributes have bytes, and so have all texts in their values
pub record HasTexts (visible : List ℕ) (blocks : ℕ) (head : WholeHead)
    (regions : Regions Text Value) (is_last : Bool) : Type 0 where
  pub keys : AllByRecursion AreBytes head.keys
  pub values : AllByRecursion HasBytes head.values

-- how many blocks there are in the region that has the most
abbrev mutual
  pub longest_region : WholeModule → ℕ
  longest_region no_ops = 0
  longest_region (then_op head regions os) = max (longest_of_regions regions) (longest_region os)

  -- these regions, and those in them
  pub longest_of_regions : Regions Text Value → ℕ
  longest_of_regions no_regions = 0
  longest_of_regions (region blocks rs) =
      max (max (length (block_args blocks)) (longest_in_blocks blocks)) (longest_of_regions rs)

  -- the regions in blocks
  pub longest_in_blocks : Blocks Text Value → ℕ
  longest_in_blocks no_blocks = 0
  longest_in_blocks (block args os bs) = max (longest_region os) (longest_in_blocks bs)

-- All texts of the module have bytes, and its values are numbered by 64 bits, as are the blocks of
-- each region.
pub record IsStorable (m : WholeModule) : Type 0 where
  pub types : AllByRecursion HasBytes (types_in m)
  pub attrs : EachOp HasTexts (own_numbers 0 m) 0 0 m
  pub values : length (types_in m) ≤ 2 ^ 64
  pub blocks : longest_region m ≤ 2 ^ 64

-- The module is proper, each of its operations meets a definition of its name, and it can be
-- stored.
pub record IsWellFormed (loaded : Loaded) (m : WholeModule) : Type 0 where
  pub proper : Proper loaded m
  pub meet : EachOp (MeetsSome loaded (types_in m)) (own_numbers 0 m) 0 0 m
  pub storable : IsStorable m
