-- The canonical text of a module, as marks of a layout.
--
-- It is a function of the module alone, and of the form in which operations are printed.
--
-- Names are numbers. Values are `%0`, `%1` and so on over the whole module, in order of definition:
-- an operation's results before what its regions define, a block's arguments before what its
-- operations define. Blocks are `^bb0`, `^bb1` and so on, from the entry block of each region on.
--
-- Each operation and each label begins a line, and so does the `}` of a region. A label and this
-- `}` stand under the operation that has the region, and the operations of a block two spaces
-- further in. The entry block has no label exactly where it has no arguments and at least one
-- operation. A label without arguments has no parentheses.
--
--   value_name n, block_name k        the token of a value, of a block
--   count_from n k                    the numbers n, n + 1 and so on, k of them
--   numbered n xs                     the items of a list, which are numbered from n on
--   results_marks n k                 names for k results, the first of the number n, and `=`
--   type_list_marks types             types in parentheses
--   stands_bare types                 result types stand without parentheses
--   outs_marks types                  the result types of an operation
--   dict_marks attrs                  attributes in braces
--   View                              what a form shows of an operation
--   view_of types head regions        that of an operation of a module, whose values have these
--                                     types, by the marks of its regions
--   generic_marks v                   the generic form
--   label_marks indent n k args       the label of the block k, whose first argument has the number
--                                     n
--   has_label k args os               the block k, with such arguments and operations, has a label
--   op_marks, ops_marks, regions_marks, blocks_marks     operations, regions and blocks, at an
--                                     indent, and from the number of a value on
--   module_marks form m               the marks of a module
--   form_marks form defs              what the form says, where these operations are defined
--   seen_module defs values m         a stored module, with the names of its operations, and with
--                                     its types and values themselves
use Rattle.std.specs.Prelude.{ℕ, zero, suc, ◌+◌, Bool, true, false, not, List, [], ◌∷◌, ◌++◌, length, map, cond, slice_get}
use Rattle.std.specs.List.{zip}
use Rattle.std.specs.declared.option.Option.TheVariants.{Some, None}
use Rattle.attr_value.specs.declared.head.ValueId.{ValueId}
use Rattle.attr_value.specs.Ids.{at}
use Rattle.attr_value.specs.Values.{Value}
use Rattle.dialect_defs.specs.declared.definition.OpDef.{OpDef}
use Rattle.dialect_defs.specs.Operations.{Attrs}
use Rattle.ir_lexer.specs.declared.class.Class.TheVariants as c
use Rattle.ir_lexer.specs.Spelling.{Text}
use Rattle.ir_store.specs.Modules.{OpHead, Ops, Regions, Blocks}
use Rattle.ir_store.specs.Modules.{no_ops, then_op, no_regions, region, no_blocks, block}
use Rattle.ir_store.specs.Modules.{types_in, types_in_regions, types_in_blocks, mapped}
use Rattle.ir_store.specs.Store.{OpName, Module}
use Rattle.text_layout.specs.Lines.{token, break_line}
use Rattle.derived_printer.specs.declared.form.Form.{Form}
use Rattle.derived_printer.specs.declared.form.Form.TheVariants.{Generic}
use Rattle.derived_printer.specs.ReadBack.{is_function}
use Rattle.derived_printer.specs.Spelling.{string_text, value_text, block_text}
use Rattle.derived_printer.specs.ValueMarks.{Marks, a_sign, commas, in_parens, in_squares, in_braces, unless_empty, entry_marks, value_marks}

-- ---- names

-- the name of a value
abbrev pub value_name : ℕ → Marks
value_name n = token c.ValueName (value_text n) ∷ []

-- the name of a block
abbrev pub block_name : ℕ → Marks
block_name k = token c.BlockName (block_text k) ∷ []

-- so many numbers, from one on
abbrev pub count_from : ℕ → ℕ → List ℕ
count_from n zero = []
count_from n (suc k) = n ∷ count_from (suc n) k

-- the items of a list with their numbers
abbrev pub numbered : {A : Type 0} → ℕ → List A → List (ℕ × A)
numbered n xs = zip (count_from n (length xs)) xs

-- Each result has its name in the list before `=`. Where there is none, there is no list.
abbrev pub results_marks : ℕ → ℕ → Marks
results_marks n zero = []
results_marks n (suc k) = commas (map value_name (count_from n (suc k))) ++ a_sign c.Equal

-- ---- types and attributes

-- types in parentheses
abbrev pub type_list_marks : List Value → Marks
type_list_marks types = in_parens (commas (map value_marks types))

-- One result type that is no function type stands without parentheses.
abbrev pub stands_bare : List Value → Bool
stands_bare [] = false
stands_bare (t ∷ []) = not (is_function t.head)
stands_bare (t ∷ u ∷ types) = false

-- the result types of an operation
abbrev pub outs_marks : List Value → Marks
outs_marks types =
    cond (stands_bare types) (commas (map value_marks types)) (type_list_marks types)

-- an attribute, where the unit value is left out
abbrev pub attr_marks : Text × Value → Marks
attr_marks e = entry_marks (e.0, (e.1.head, value_marks e.1))

-- attributes in the order of their keys
abbrev pub dict_marks : Attrs → Marks
dict_marks attrs = in_braces (commas (map attr_marks attrs))

-- ---- one operation

-- what a form shows of an operation: its name, the numbers of its operands and successors, the
-- marks of its regions, its attributes, and the types of its operands and results
pub record View : Type 0 where
  pub name : Text
  pub operands : List ℕ
  pub successors : List ℕ
  pub regions : List Marks
  pub attrs : Attrs
  pub operand_types : List Value
  pub result_types : List Value

-- that of an operation, by the types of all values of the module
abbrev pub view_of : List Value → OpHead Text Value → List Marks → View
view_of types head regions = record {
  name = head.name;
  operands = head.operands;
  successors = head.successors;
  regions = regions;
  attrs = zip head.keys head.values;
  operand_types = map (at types) head.operands;
  result_types = head.results;
}

-- The generic form: the name as a string, the operands, the successors, the regions, the
-- attributes, and the operation's type. Successors, regions and attributes are left out where there
-- are none.
abbrev pub generic_marks : View → Marks
generic_marks v =
    (token c.Str (string_text v.name) ∷ [])
    ++ (in_parens (commas (map value_name v.operands))
    ++ (unless_empty v.successors (in_squares (commas (map block_name v.successors)))
    ++ (unless_empty v.regions (in_parens (commas v.regions))
    ++ (unless_empty v.attrs (dict_marks v.attrs)
    ++ (a_sign c.Colon
    ++ (type_list_marks v.operand_types
    ++ (a_sign c.Arrow ++ outs_marks v.result_types)))))))

-- ---- labels

-- an argument of a block, with its type
abbrev pub argument_marks : ℕ × Value → Marks
argument_marks x = value_name x.0 ++ (a_sign c.Colon ++ value_marks x.1)

-- arguments in parentheses, where there are some
abbrev pub arguments_marks : ℕ → List Value → Marks
arguments_marks n args =
    unless_empty args (in_parens (commas (map argument_marks (numbered n args))))

-- a label, on a line of its own
abbrev pub label_marks : ℕ → ℕ → ℕ → List Value → Marks
label_marks indent n k args =
    break_line indent ∷ (block_name k ++ (arguments_marks n args ++ a_sign c.Colon))

-- The entry block, 0, has no label exactly where it has no arguments and at least one operation.
abbrev pub has_label : {N V : Type 0} → ℕ → List V → Ops N V → Bool
has_label zero [] (then_op _ _ _) = false
has_label zero [] no_ops = true
has_label zero (t ∷ args) os = true
has_label (suc k) args os = true

-- ---- the module

-- what stands between the braces of a region, and these
abbrev pub braced_marks : ℕ → Marks → Marks
braced_marks indent inside = a_sign c.LBrace ++ (inside ++ (break_line indent ∷ a_sign c.RBrace))

-- operations by a form, in a module whose values have these types
module _ (form : View → Marks) (types : List Value) where
  -- an operation whose first result has the number n, by the marks of its regions
  abbrev pub op_marks : ℕ → ℕ → OpHead Text Value → List Marks → Marks
  op_marks indent n head regions =
      break_line indent
      ∷ (results_marks n (length head.results) ++ form (view_of types head regions))

  abbrev mutual
    -- operations, where the next value has the number n
    pub ops_marks : ℕ → ℕ → Ops Text Value → Marks
    ops_marks indent n no_ops = []
    ops_marks indent n (then_op head regions os) =
        op_marks indent n head (regions_marks indent (n + length head.results) regions)
        ++ ops_marks indent (n + length head.results + length (types_in_regions regions)) os

    -- regions, each by itself
    pub regions_marks : ℕ → ℕ → Regions Text Value → List Marks
    regions_marks indent n no_regions = []
    regions_marks indent n (region blocks rs) =
        braced_marks indent (blocks_marks indent n 0 blocks)
        ∷ regions_marks indent (n + length (types_in_blocks blocks)) rs

    -- blocks, from the k-th of a region on
    pub blocks_marks : ℕ → ℕ → ℕ → Blocks Text Value → Marks
    blocks_marks indent n k no_blocks = []
    blocks_marks indent n k (block args os bs) =
        (cond (has_label k args os) (label_marks indent n k args) []
        ++ ops_marks (indent + 2) (n + length args) os)
        ++ blocks_marks indent (n + length args + length (types_in os)) (suc k) bs

-- a module, by a form of operations
abbrev pub module_marks : (View → Marks) → Ops Text Value → Marks
module_marks form m = ops_marks form (types_in m) 0 0 m

-- ---- what is printed of a store

-- how each operation is printed, where these are defined
abbrev pub form_marks : Form → List OpDef → View → Marks
form_marks Generic defs v = generic_marks v

-- the name that an operation of a stored module has by its definition
abbrev pub name_in : List OpDef → OpName → Text
name_in defs name = elim (slice_get defs name.def) [ None ↦ [] | Some d ↦ d.name ]

-- a stored module, with names in the place of definitions' numbers and values in that of ids
abbrev pub seen_module : List OpDef → List Value → Module → Ops Text Value
seen_module defs values m = mapped (name_in defs) (λ (id : ValueId). at values id.0) m
