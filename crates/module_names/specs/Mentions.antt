-- The aliases that a tree of a value mentions, in the order of the tree: `!a` of types, `#a` of
-- other attributes, each at the place of the value that it stands for.
--
--   value_mentions v     those of a value
--   maybe_mentions v     those of a value that may be left out
--   entry_mentions e     those of an entry of a dictionary
--   node_mentions n p    those of a form that stands at the place p
use Rattle.std.specs.Prelude.{ℕ, Bool, true, false}
use Rattle.std.specs.declared.option.Option.{Option}
use Rattle.std.specs.declared.option.Option.TheVariants.{Some, None}
use Rattle.generic_syntax.specs.declared.cst.EntryCst.{EntryCst, EntryCst-F, fold-EntryCst}
use Rattle.generic_syntax.specs.declared.cst.ValueCst.{ValueCst, ValueCst-F, fold-ValueCst}
use Rattle.generic_syntax.specs.declared.cst.ValueNode.{ValueNode, fold-ValueNode}
use Rattle.generic_syntax.specs.declared.cst.ValueNode.TheOpen.{ValueNode-F}
use Rattle.ir_lexer.specs.Spelling.{Text}
use Rattle.symbol_scopes.specs.Regions.{Notes, no_notes}
use Rattle.symbol_scopes.specs.Regions as say
use Rattle.module_names.specs.Said.{joined, all_joined, one}

-- a mention of an alias
abbrev pub alias_mentioned : Bool → Text → ℕ → Notes
alias_mentioned is_type name place =
    one (say.mentions_alias (record { is_type = is_type; name = name; place = place }))

-- the notes of what may be left out
abbrev pub if_there : Option Notes → Notes
if_there None = no_notes
if_there (Some ns) = ns

-- ---- one level of a tree, by what each level below says

-- a form, at its place
abbrev pub node_layer : ValueNode-F (ℕ → Notes) Notes Notes → ℕ → Notes
node_layer (ValueNode-F.TypeAlias name) place = alias_mentioned true name place
node_layer (ValueNode-F.AttrAlias name) place = alias_mentioned false name place
node_layer (ValueNode-F.Dialect is_type name args) place = all_joined args
node_layer (ValueNode-F.Function inputs outputs) place =
    joined (all_joined inputs) (all_joined outputs)
node_layer (ValueNode-F.Tuple types) place = all_joined types
node_layer (ValueNode-F.Shaped kind dims element) place = element
node_layer (ValueNode-F.Complex element) place = element
node_layer (ValueNode-F.Number negative digits type) place = if_there type
node_layer (ValueNode-F.Array values) place = all_joined values
node_layer (ValueNode-F.Dict entries) place = all_joined entries
node_layer _ place = no_notes

-- an entry
abbrev pub entry_layer : EntryCst-F (ℕ → Notes) Notes Notes → Notes
entry_layer e = if_there e.value

-- a value
abbrev pub value_layer : ValueCst-F (ℕ → Notes) Notes Notes → Notes
value_layer v = v.node v.place

-- ---- trees

unfoldable pub value_mentions : ValueCst → Notes
value_mentions = fold-ValueCst (ℕ → Notes) Notes Notes node_layer entry_layer value_layer

unfoldable pub entry_mentions : EntryCst → Notes
entry_mentions = fold-EntryCst (ℕ → Notes) Notes Notes node_layer entry_layer value_layer

unfoldable pub node_mentions : ValueNode → ℕ → Notes
node_mentions = fold-ValueNode (ℕ → Notes) Notes Notes node_layer entry_layer value_layer

-- those of a value that may be left out
abbrev pub maybe_mentions : Option ValueCst → Notes
maybe_mentions None = no_notes
maybe_mentions (Some v) = value_mentions v
