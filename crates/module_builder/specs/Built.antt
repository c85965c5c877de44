-- What the module is that is built of a tree and of the parts of its operations in ids.
--
--   all_args rs             the types of the arguments of each block of regions, one region after
--                           the other, without what stands in them
--   HasParts site ids         an operation of the module has these parts
--   HasPlace site c         it stands where its tree does
--   value_number firsts p   the number of the value p.1 of definition p.0
--   successors_at sites     the successors of operations, one operation after the other
use Rattle.std.specs.Prelude.{◌≡◌, ℕ, ◌+◌, List, [], ◌∷◌, ◌++◌, slice_index}
use Rattle.attr_value.specs.declared.head.ValueId.{ValueId}
use Rattle.generic_syntax.specs.declared.module_cst.OpCst.{OpCst, out-OpCst}
use Rattle.ir_store.specs.Modules.{Regions, no_regions, region, block_args}
use Rattle.ir_store.specs.Numbering.{OpSite}
use Rattle.ir_store.specs.Store.{OpName}
use Rattle.module_faults.specs.declared.ids.OpIds.{OpIds}

-- the types of the arguments of each block of regions
abbrev pub all_args : {N V : Type 0} → Regions N V → List (List V)
all_args no_regions = []
all_args (region blocks rs) = block_args blocks ++ all_args rs

-- an operation of the module has these parts
pub record HasParts (site : OpSite OpName ValueId) (ids : OpIds) : Type 0 where
  pub def : site.head.name.def ≡ ids.def
  pub results : site.head.results ≡ ids.results.items
  pub keys : site.head.keys ≡ ids.keys
  pub values : site.head.values ≡ ids.values
  pub args : all_args site.regions ≡ ids.args

-- it stands where its tree does
pub record HasPlace (site : OpSite OpName ValueId) (c : OpCst) : Type 0 where
  pub place : site.head.name.place ≡ (out-OpCst c).place

-- The number of the value that a use means, by the number of the first value of each definition:
-- p is the number of a definition, and a number in its pack.
abbrev pub value_number : List ℕ → ℕ × ℕ → ℕ
value_number firsts p = slice_index firsts p.0 + p.1

-- the successors of operations, one operation after the other
abbrev pub successors_at : {N V : Type 0} → List (OpSite N V) → List ℕ
successors_at [] = []
successors_at (site ∷ sites) = site.head.successors ++ successors_at sites
