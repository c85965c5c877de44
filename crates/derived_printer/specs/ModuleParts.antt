-- The parts of a stored module, by their ids, and the marks that are laid down of each.
--
--   op_here m id, region_here, block_here      what an id names
--   type_in m n                      the id of the type of a value
--   front_of, front_marks head       what stands before the regions of an operation in generic form
--   back_of, back_marks types head   what stands behind them
--   attrs_marks, list_marks          attributes, and a list in parentheses, where there are some
--   argument_at types n, arguments_from types n k      an argument, and k of them in parentheses
--   label_of types indent k n count  a label by its numbers
--   op_marks_at .. indent id, region_marks_at, block_marks_at k      the marks of what an id names
--   ops_marks_of, blocks_marks_of    those of several, one behind the other
--   OpIsThere m indent id, RegionIsThere, BlockIsThere      what an id names is there, and at this
--                                    indent nothing in it is too far to the right
--
-- Inside: no public clause rests on this.
use Rattle.std.specs.Prelude.{ℕ, zero, suc, ◌+◌, ◌*◌, ◌<◌, ◌≤◌, List, [], ◌∷◌, ◌++◌, length, map, cond, slice_index_or}
use Rattle.std.specs.List.{zip}
use Rattle.attr_value.specs.declared.head.ValueId.{ValueId}
use Rattle.attr_value.specs.Ids.{at}
use Rattle.attr_value.specs.Values.{Value}
use Rattle.dialect_defs.specs.declared.definition.OpDef.{OpDef}
use Rattle.dialect_defs.specs.Operations.{Attrs}
use Rattle.ir_lexer.specs.declared.class.Class.TheVariants as c
use Rattle.ir_lexer.specs.Spelling.{Text}
use Rattle.ir_store.specs.declared.rows.OpId.{OpId}
use Rattle.ir_store.specs.declared.rows.RegionId.{RegionId}
use Rattle.ir_store.specs.declared.rows.BlockId.{BlockId}
use Rattle.ir_store.specs.Modules.{OpHead, no_regions, no_blocks, no_ops, types_in}
use Rattle.ir_store.specs.Modules.{mapped, mapped_head, mapped_regions, mapped_blocks}
use Rattle.ir_store.specs.Numbering.{first_numbers, OpSite, RegionSite, BlockSite}
use Rattle.ir_store.specs.Numbering.{ops_in, regions_in, blocks_in}
use Rattle.ir_store.specs.Store.{OpName, Module}
use Rattle.derived_printer.specs.declared.form.Form.{Form}
use Rattle.derived_printer.specs.ModuleMarks.{View, form_marks, view_of, name_in, seen_module}
use Rattle.derived_printer.specs.ModuleMarks.{op_marks, ops_marks, regions_marks, blocks_marks}
use Rattle.derived_printer.specs.ModuleMarks.{label_marks, has_label, braced_marks, value_name}
use Rattle.derived_printer.specs.ModuleMarks.{block_name, dict_marks, type_list_marks, outs_marks}
use Rattle.derived_printer.specs.ModuleMarks.{argument_marks, count_from}
use Rattle.derived_printer.specs.Printable.{nesting, nesting_of_regions, nesting_of_blocks}
use Rattle.derived_printer.specs.Spelling.{string_text}
use Rattle.derived_printer.specs.ValueMarks.{Marks, a_sign, commas, in_parens, in_squares}
use Rattle.derived_printer.specs.ValueMarks.{unless_empty}
use Rattle.text_layout.specs.Lines.{token, break_line}

-- ---- what an id names

-- the operation of an id
abbrev pub op_here : Module → OpId → OpSite OpName ValueId
op_here m id = slice_index_or (ops_in m) id.0 (record {
  at = first_numbers;
  head = record {
    name = record { def = 0; place = 0 };
    operands = [];
    results = [];
    successors = [];
    keys = [];
    values = [];
  };
  regions = no_regions;
})

-- the region of an id
abbrev pub region_here : Module → RegionId → RegionSite OpName ValueId
region_here m id =
    slice_index_or (regions_in m) id.0 (record { at = first_numbers; blocks = no_blocks })

-- the block of an id
abbrev pub block_here : Module → BlockId → BlockSite OpName ValueId
block_here m id =
    slice_index_or (blocks_in m) id.0 (record { at = first_numbers; args = []; ops = no_ops })

-- the id of the type of a value of the module
abbrev pub type_in : Module → ℕ → ValueId
type_in m n = slice_index_or (types_in m) n (record { 0 = 0 })

-- the value of an id
abbrev pub value_of_id : List Value → ValueId → Value
value_of_id values id = at values id.0

-- ---- parts of an operation and of a label

-- attributes, where there are some
abbrev pub attrs_marks : Attrs → Marks
attrs_marks attrs = unless_empty attrs (dict_marks attrs)

-- a list in parentheses, where there is something in it
abbrev pub list_marks : List Marks → Marks
list_marks ms = unless_empty ms (in_parens (commas ms))

-- what stands before the regions in generic form: a name, operands and successors
abbrev pub front_of : Text → List ℕ → List ℕ → Marks
front_of name operands successors =
    (token c.Str (string_text name) ∷ [])
    ++ (in_parens (commas (map value_name operands))
    ++ unless_empty successors (in_squares (commas (map block_name successors))))

-- that of an operation
abbrev pub front_marks : OpHead Text Value → Marks
front_marks head = front_of head.name head.operands head.successors

-- what stands behind them, by the types of all values: attributes, operands and result types
abbrev pub back_of : List Value → Attrs → List ℕ → List Value → Marks
back_of types attrs operands results =
    attrs_marks attrs
    ++ (a_sign c.Colon
    ++ (type_list_marks (map (at types) operands) ++ (a_sign c.Arrow ++ outs_marks results)))

-- that of an operation
abbrev pub back_marks : List Value → OpHead Text Value → Marks
back_marks types head = back_of types (zip head.keys head.values) head.operands head.results

-- the argument of a number
abbrev pub argument_at : List Value → ℕ → Marks
argument_at types n = argument_marks (n, at types n)

-- so many arguments in parentheses, from a number on, where there are some
abbrev pub arguments_from : List Value → ℕ → ℕ → Marks
arguments_from types n zero = []
arguments_from types n (suc k) =
    in_parens (commas (map (argument_at types) (count_from n (suc k))))

-- a label of the block k, with so many arguments from a number on
abbrev pub label_of : List Value → ℕ → ℕ → ℕ → ℕ → Marks
label_of types indent k n count =
    break_line indent ∷ (block_name k ++ (arguments_from types n count ++ a_sign c.Colon))

-- ---- what is laid down of an id

module _ (form : Form) (defs : List OpDef) (values : List Value) (m : Module) where
  -- the types of all values of the module
  abbrev pub all_types : List Value
  all_types = types_in (seen_module defs values m)

  -- an operation's head, with its name and values
  abbrev pub head_seen : OpId → OpHead Text Value
  head_seen id = mapped_head (name_in defs) (value_of_id values) (op_here m id).head

  -- the marks of the regions of an operation
  abbrev pub regions_marks_at : ℕ → OpId → List Marks
  regions_marks_at indent id =
      let x = op_here m id in
      regions_marks (form_marks form defs) all_types indent (x.at.values + length x.head.results)
      (mapped_regions (name_in defs) (value_of_id values) x.regions)

  -- what the form shows of an operation
  abbrev pub view_at : ℕ → OpId → View
  view_at indent id = view_of all_types (head_seen id) (regions_marks_at indent id)

  -- an operation
  abbrev pub op_marks_at : ℕ → OpId → Marks
  op_marks_at indent id =
      op_marks (form_marks form defs) all_types indent (op_here m id).at.values (head_seen id)
      (regions_marks_at indent id)

  -- a region
  abbrev pub region_marks_at : ℕ → RegionId → Marks
  region_marks_at indent id =
      let x = region_here m id in
      braced_marks indent (blocks_marks (form_marks form defs) all_types indent x.at.values 0
      (mapped_blocks (name_in defs) (value_of_id values) x.blocks))

  -- the operations of a block
  abbrev pub inside_marks_at : ℕ → BlockId → Marks
  inside_marks_at indent id =
      let x = block_here m id in
      ops_marks (form_marks form defs) all_types (indent + 2) (x.at.values + length x.args)
      (mapped (name_in defs) (value_of_id values) x.ops)

  -- the label of a block, the k-th in its region, where it has one
  abbrev pub label_marks_at : ℕ → ℕ → BlockId → Marks
  label_marks_at indent k id =
      let x = block_here m id in
      cond (has_label k x.args x.ops)
      (label_marks indent x.at.values k (map (value_of_id values) x.args)) []

  -- a block, the k-th in its region
  abbrev pub block_marks_at : ℕ → ℕ → BlockId → Marks
  block_marks_at indent k id = label_marks_at indent k id ++ inside_marks_at indent id

  -- operations
  abbrev pub ops_marks_of : ℕ → List OpId → Marks
  ops_marks_of indent [] = []
  ops_marks_of indent (id ∷ ids) = op_marks_at indent id ++ ops_marks_of indent ids

  -- blocks, from the k-th on
  abbrev pub blocks_marks_of : ℕ → ℕ → List BlockId → Marks
  blocks_marks_of indent k [] = []
  blocks_marks_of indent k (id ∷ ids) =
      block_marks_at indent k id ++ blocks_marks_of indent (suc k) ids

-- ---- what is there

-- the operation is there, and what its regions nest has room at this indent
pub record OpIsThere (m : Module) (indent : ℕ) (id : OpId) : Type 0 where
  pub known : id.0 < length (ops_in m)
  pub room : indent + 2 * nesting_of_regions (op_here m id).regions ≤ 128

-- the same of a region, at the indent of its operation
pub record RegionIsThere (m : Module) (indent : ℕ) (id : RegionId) : Type 0 where
  pub known : id.0 < length (regions_in m)
  pub room : indent + 2 + 2 * nesting_of_blocks (region_here m id).blocks ≤ 128

-- the same of a block
pub record BlockIsThere (m : Module) (indent : ℕ) (id : BlockId) : Type 0 where
  pub known : id.0 < length (blocks_in m)
  pub room : indent + 2 + 2 * nesting (block_here m id).ops ≤ 128
