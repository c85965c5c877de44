-- What a module is: a list of operations, each with regions, each with blocks, each with
-- operations.
--
-- The words take two types: N, by which an operation is named, and V, by which types and the values
-- of attributes are known. So one set of words serves stores, where these are numbers, and modules
-- with whole names and values.
--
--   OpHead N V        an operation without its regions
--   Ops N V           a list of operations; a module is one
--   Regions N V       a list of regions
--   Blocks N V        a list of blocks
--   types_in m        the types of all values of a module, in order of definition
--   types_in_regions rs, types_in_blocks bs      those that regions and blocks define
--   block_args bs, region_args rs      the types of the arguments of each block, of each region
--   joined_ops os more, joined_regions, joined_blocks      a list, and others behind it
--   mapped f g m      the module with f at each name and g at each type and value
--   mapped_head, mapped_regions, mapped_blocks      the same of its parts
use Rattle.std.specs.Prelude.{ℕ, List, [], ◌∷◌, ◌++◌, map}

-- An operation without its regions. Operands are numbers of values, counted from 0 over the whole
-- module in order of definition, and successors are numbers of blocks in the operation's region.
-- The attribute of each key has the value at its place.
pub record OpHead (N V : Type 0) : Type 0 where
  pub name : N
  pub operands : List ℕ
  pub results : List V
  pub successors : List ℕ
  pub keys : List (List ℕ)
  pub values : List V

mutual
  -- no operation, or one with its regions and those behind it
  pub data Ops (N V : Type 0) : Type 0 where
    no_ops : Ops N V
    then_op : OpHead N V → Regions N V → Ops N V → Ops N V

  -- no region, or one by its blocks and those behind it
  pub data Regions (N V : Type 0) : Type 0 where
    no_regions : Regions N V
    region : Blocks N V → Regions N V → Regions N V

  -- no block, or one by the types of its arguments and its operations, and those behind it
  pub data Blocks (N V : Type 0) : Type 0 where
    no_blocks : Blocks N V
    block : List V → Ops N V → Blocks N V → Blocks N V

module _ {N V : Type 0} where
  -- the types of all values in order of definition: the results of an operation come before what
  -- its regions define, and the arguments of a block before what its operations define
  abbrev mutual
    pub types_in : Ops N V → List V
    types_in no_ops = []
    types_in (then_op head regions os) = head.results ++ types_in_regions regions ++ types_in os

    -- those that regions define
    pub types_in_regions : Regions N V → List V
    types_in_regions no_regions = []
    types_in_regions (region blocks rs) = types_in_blocks blocks ++ types_in_regions rs

    -- those that blocks define
    pub types_in_blocks : Blocks N V → List V
    types_in_blocks no_blocks = []
    types_in_blocks (block args ops bs) = args ++ types_in ops ++ types_in_blocks bs

  -- the types of the arguments of each block
  abbrev pub block_args : Blocks N V → List (List V)
  block_args no_blocks = []
  block_args (block args ops bs) = args ∷ block_args bs

  -- those of each block of each region
  abbrev pub region_args : Regions N V → List (List (List V))
  region_args no_regions = []
  region_args (region blocks rs) = block_args blocks ∷ region_args rs

  -- these operations, and others behind them
  abbrev pub joined_ops : Ops N V → Ops N V → Ops N V
  joined_ops no_ops more = more
  joined_ops (then_op head regions os) more = then_op head regions (joined_ops os more)

  -- these regions, and others behind them
  abbrev pub joined_regions : Regions N V → Regions N V → Regions N V
  joined_regions no_regions more = more
  joined_regions (region blocks rs) more = region blocks (joined_regions rs more)

  -- these blocks, and others behind them
  abbrev pub joined_blocks : Blocks N V → Blocks N V → Blocks N V
  joined_blocks no_blocks more = more
  joined_blocks (block args ops bs) more = block args ops (joined_blocks bs more)

module _ {N V M W : Type 0} (f : N → M) (g : V → W) where
  -- an operation of another name, with other types and values
  abbrev pub mapped_head : OpHead N V → OpHead M W
  mapped_head h = record {
    name = f h.name;
    operands = h.operands;
    results = map g h.results;
    successors = h.successors;
    keys = h.keys;
    values = map g h.values;
  }

  -- the module with other names, and other types and values
  abbrev mutual
    pub mapped : Ops N V → Ops M W
    mapped no_ops = no_ops
    mapped (then_op head regions os) =
        then_op (mapped_head head) (mapped_regions regions) (mapped os)

    -- the same of regions
    pub mapped_regions : Regions N V → Regions M W
    mapped_regions no_regions = no_regions
    mapped_regions (region blocks rs) = region (mapped_blocks blocks) (mapped_regions rs)

    -- the same of blocks
    pub mapped_blocks : Blocks N V → Blocks M W
    mapped_blocks no_blocks = no_blocks
    mapped_blocks (block args ops bs) = block (map g args) (mapped ops) (mapped_blocks bs)
