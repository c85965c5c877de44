-- Which modules can be printed.
--
-- Each operation names a definition, its operands are values of the module, its types and the
-- values of its attributes can be spelled, and regions nest no deeper than the limit.
--
--   CanBeSpelled values id        the id is that of a value that can be spelled
--   OpIsPrintable .. head         an operation is such, but for its regions
--   nesting m                     how many regions stand one in the other, at most
--   IsPrintable defs values m     a stored module is such
use Rattle.std.specs.Prelude.{ℕ, suc, ◌<◌, ◌≤◌, max, List, length}
use Rattle.std.specs.List.{AllByRecursion}
use Rattle.attr_value.specs.declared.head.ValueId.{ValueId}
use Rattle.attr_value.specs.Ids.{at}
use Rattle.attr_value.specs.Values.{Value}
use Rattle.dialect_defs.specs.declared.definition.OpDef.{OpDef}
use Rattle.ir_store.specs.Modules.{Ops, Regions, Blocks, no_ops, then_op, no_regions, region}
use Rattle.ir_store.specs.Modules.{no_blocks, block, types_in}
use Rattle.ir_store.specs.Numbering.{OpSite, ops_in}
use Rattle.ir_store.specs.Store.{OpName, StoredHead, Module}
use Rattle.derived_printer.specs.declared.form.TheConstants.{REGION_LIMIT}
use Rattle.derived_printer.specs.Spellable.{Spellable}

-- the id is that of a value that can be spelled
pub record CanBeSpelled (values : List Value) (id : ValueId) : Type 0 where
  pub known : id.0 < length values
  pub spellable : Spellable (at values id.0)

-- The operation names one of so many definitions, its operands are values of the module, which are
-- so many, and the values of its attributes can be spelled.
pub record OpIsPrintable (definitions count : ℕ) (values : List Value) (head : StoredHead)
    : Type 0 where
  pub definition : head.name.def < definitions
  pub operands : AllByRecursion (λ n. n < count) head.operands
  pub attrs : AllByRecursion (CanBeSpelled values) head.values

module _ {N V : Type 0} where
  -- how many regions stand one in the other, at most: an operation's region is one
  abbrev mutual
    pub nesting : Ops N V → ℕ
    nesting no_ops = 0
    nesting (then_op head regions os) = max (nesting_of_regions regions) (nesting os)

    -- the same of regions
    pub nesting_of_regions : Regions N V → ℕ
    nesting_of_regions no_regions = 0
    nesting_of_regions (region blocks rs) =
        max (suc (nesting_of_blocks blocks)) (nesting_of_regions rs)

    -- the same of what stands in blocks
    pub nesting_of_blocks : Blocks N V → ℕ
    nesting_of_blocks no_blocks = 0
    nesting_of_blocks (block args os bs) = max (nesting os) (nesting_of_blocks bs)

-- the types of all values can be spelled, each operation can be printed, and regions nest little
-- enough
pub record IsPrintable (defs : List OpDef) (values : List Value) (m : Module) : Type 0 where
  pub types : AllByRecursion (CanBeSpelled values) (types_in m)
  pub ops : AllByRecursion (λ (x : OpSite OpName ValueId).
      OpIsPrintable (length defs) (length (types_in m)) values x.head) (ops_in m)
  pub shallow : nesting m ≤ REGION_LIMIT
