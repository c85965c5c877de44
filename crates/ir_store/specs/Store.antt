-- Modules as a store has them: operations are named by numbers, types and values by ids.
--
--   OpName        the number of an operation's definition, and the place of the operation
--   StoredHead    such an operation, without its regions
--   Module        a module of such operations
--   head_of row   what a row says of an operation
use Rattle.std.specs.Prelude.{ℕ}
use Rattle.attr_value.specs.declared.head.ValueId.{ValueId}
use Rattle.ir_store.specs.declared.rows.OpRow.{OpRow}
use Rattle.ir_store.specs.Modules.{OpHead, Ops}

-- the place of a definition in the list of all, and where in its text the operation stands
pub record OpName : Type 0 where
  pub def : ℕ
  pub place : ℕ

-- an operation of a store, without its regions
abbrev pub StoredHead : Type 0
StoredHead = OpHead OpName ValueId

-- a module of a store
abbrev pub Module : Type 0
Module = Ops OpName ValueId

-- the operation that a row says
abbrev pub head_of : OpRow → StoredHead
head_of row = record {
  name = record { def = row.def; place = row.place };
  operands = row.operands.items;
  results = row.results.items;
  successors = row.successors.items;
  keys = row.keys;
  values = row.values;
}
