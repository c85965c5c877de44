-- What a tree of a value says of names is of aliases alone. By the parts of the tree.
use Rattle.std.proofs.Common.{◌≡◌, ℕ, List, [], ◌∷◌, map, sym, subst}
use Rattle.std.specs.declared.option.Option.{Option}
use Rattle.std.specs.declared.option.Option.TheVariants.{Some, None}
use Rattle.generic_syntax.specs.declared.cst.EntryCst.{EntryCst, EntryCst-F, map-EntryCst}
use Rattle.generic_syntax.specs.declared.cst.EntryCst.{fold-roll-EntryCst, roll-EntryCst}
use Rattle.generic_syntax.specs.declared.cst.EntryCst.{ind-EntryCst}
use Rattle.generic_syntax.specs.declared.cst.ValueCst.{ValueCst, ValueCst-F, map-ValueCst}
use Rattle.generic_syntax.specs.declared.cst.ValueCst.{fold-roll-ValueCst, roll-ValueCst}
use Rattle.generic_syntax.specs.declared.cst.ValueCst.{ind-ValueCst}
use Rattle.generic_syntax.specs.declared.cst.ValueNode.{ValueNode, map-ValueNode}
use Rattle.generic_syntax.specs.declared.cst.ValueNode.{fold-roll-ValueNode, roll-ValueNode}
use Rattle.generic_syntax.specs.declared.cst.ValueNode.TheOpen.{ValueNode-F}
use Rattle.ir_lexer.specs.Spelling.{Text}
use Rattle.module_names.specs.Mentions.{node_layer, entry_layer, value_layer}
use Rattle.module_names.specs.Mentions.{value_mentions, entry_mentions, node_mentions}
use Rattle.module_names.specs.Said.{all_joined, noted}
use Rattle.module_names.proofs.Cut.{IsSilent, silent-joined}
use Rattle.symbol_scopes.specs.Regions.{Notes}

abbrev NodeIs : ValueNode → Type 0
NodeIs n = (place : ℕ) → IsSilent (node_mentions n place)

abbrev EntryIs : EntryCst → Type 0
EntryIs e = IsSilent (entry_mentions e)

abbrev ValueIs : ValueCst → Type 0
ValueIs v = IsSilent (value_mentions v)

-- forms, entries and trees of which this is known
module _ (N E V : Type 0) (fn : N → ValueNode) (fe : E → EntryCst) (fv : V → ValueCst)
    (node : (n : N) → NodeIs (fn n)) (entry : (e : E) → EntryIs (fe e))
    (value : (v : V) → ValueIs (fv v)) where
  trees-are : (vs : List V) → IsSilent (all_joined (map value_mentions (map fv vs)))
  trees-are [] = tt
  trees-are (v ∷ vs) = silent-joined (value_mentions (fv v))
      (all_joined (map value_mentions (map fv vs))) (value v) (trees-are vs)

  entries-are : (es : List E) → IsSilent (all_joined (map entry_mentions (map fe es)))
  entries-are [] = tt
  entries-are (e ∷ es) = silent-joined (entry_mentions (fe e))
      (all_joined (map entry_mentions (map fe es))) (entry e) (entries-are es)

  -- what is said of the parts of a form
  abbrev layer : ValueNode-F N E V → ValueNode-F (ℕ → Notes) Notes Notes
  layer y = map-ValueNode ValueNode EntryCst ValueCst (ℕ → Notes) Notes Notes node_mentions
      entry_mentions value_mentions (map-ValueNode N E V ValueNode EntryCst ValueCst fn fe fv y)

  layer-silent : (y : ValueNode-F N E V) (place : ℕ) → IsSilent (node_layer (layer y) place)
  layer-silent (ValueNode-F.Dialect is_type name args) place = trees-are args
  layer-silent (ValueNode-F.Function inputs outputs) place =
      silent-joined (all_joined (map value_mentions (map fv inputs)))
      (all_joined (map value_mentions (map fv outputs))) (trees-are inputs) (trees-are outputs)
  layer-silent (ValueNode-F.Tuple kids) place = trees-are kids
  layer-silent (ValueNode-F.Shaped kind dims element) place = value element
  layer-silent (ValueNode-F.Complex element) place = value element
  layer-silent (ValueNode-F.Number negative digits None) place = tt
  layer-silent (ValueNode-F.Number negative digits (Some type)) place = value type
  layer-silent (ValueNode-F.Array vs) place = trees-are vs
  layer-silent (ValueNode-F.Dict es) place = entries-are es
  layer-silent (ValueNode-F.Word w) place = tt
  layer-silent (ValueNode-F.TypeAlias w) place = tt
  layer-silent (ValueNode-F.AttrAlias w) place = tt
  layer-silent (ValueNode-F.Str w) place = tt
  layer-silent (ValueNode-F.Symbol ws) place = tt
  layer-silent (ValueNode-F.Dense width items) place = tt

  node-is : (x : ValueNode-F ValueNode EntryCst ValueCst) (y : ValueNode-F N E V)
      → map-ValueNode N E V ValueNode EntryCst ValueCst fn fe fv y ≡ x → NodeIs (roll-ValueNode x)
  unfolding node_mentions entry_mentions value_mentions
  node-is x y is place =
      subst (λ z. IsSilent (node_mentions (roll-ValueNode z) place)) is
      (subst (λ (f : ℕ → Notes). IsSilent (f place))
      (sym (fold-roll-ValueNode (ℕ → Notes) Notes Notes node_layer entry_layer value_layer
      (map-ValueNode N E V ValueNode EntryCst ValueCst fn fe fv y))) (layer-silent y place))

  abbrev entry_of : EntryCst-F N E V → Notes
  entry_of y = entry_layer (map-EntryCst ValueNode EntryCst ValueCst (ℕ → Notes) Notes Notes
      node_mentions entry_mentions value_mentions
      (map-EntryCst N E V ValueNode EntryCst ValueCst fn fe fv y))

  entry-by : (place : ℕ) (key : Text) (v : Option V)
      → IsSilent (entry_of (record { place = place; key = key; value = v }))
  entry-by place key None = tt
  entry-by place key (Some v) = value v

  entry-is : (x : EntryCst-F ValueNode EntryCst ValueCst) (y : EntryCst-F N E V)
      → map-EntryCst N E V ValueNode EntryCst ValueCst fn fe fv y ≡ x → EntryIs (roll-EntryCst x)
  unfolding node_mentions entry_mentions value_mentions
  entry-is x y is =
      subst (λ z. EntryIs (roll-EntryCst z)) is
      (subst IsSilent
      (sym (fold-roll-EntryCst (ℕ → Notes) Notes Notes node_layer entry_layer value_layer
      (map-EntryCst N E V ValueNode EntryCst ValueCst fn fe fv y)))
      (entry-by y.place y.key y.value))

  value-is : (x : ValueCst-F ValueNode EntryCst ValueCst) (y : ValueCst-F N E V)
      → map-ValueCst N E V ValueNode EntryCst ValueCst fn fe fv y ≡ x → ValueIs (roll-ValueCst x)
  unfolding node_mentions entry_mentions value_mentions
  value-is x y is =
      subst (λ z. ValueIs (roll-ValueCst z)) is
      (subst IsSilent
      (sym (fold-roll-ValueCst (ℕ → Notes) Notes Notes node_layer entry_layer value_layer
      (map-ValueCst N E V ValueNode EntryCst ValueCst fn fe fv y)))
      (node y.node y.place))

pub value-silent : (v : ValueCst) → IsSilent (value_mentions v)
value-silent =
    ind-ValueCst NodeIs EntryIs ValueIs
    (λ x y is. node-is _ _ _ (λ e. e.0) (λ e. e.0) (λ e. e.0) (λ e. e.1) (λ e. e.1) (λ e. e.1)
    x y is)
    (λ x y is. entry-is _ _ _ (λ e. e.0) (λ e. e.0) (λ e. e.0) (λ e. e.1) (λ e. e.1) (λ e. e.1)
    x y is)
    (λ x y is. value-is _ _ _ (λ e. e.0) (λ e. e.0) (λ e. e.0) (λ e. e.1) (λ e. e.1) (λ e. e.1)
    x y is)

pub entry-silent : (e : EntryCst) → IsSilent (entry_mentions e)
entry-silent =
    ind-EntryCst NodeIs EntryIs ValueIs
    (λ x y is. node-is _ _ _ (λ e. e.0) (λ e. e.0) (λ e. e.0) (λ e. e.1) (λ e. e.1) (λ e. e.1)
    x y is)
    (λ x y is. entry-is _ _ _ (λ e. e.0) (λ e. e.0) (λ e. e.0) (λ e. e.1) (λ e. e.1) (λ e. e.1)
    x y is)
    (λ x y is. value-is _ _ _ (λ e. e.0) (λ e. e.0) (λ e. e.0) (λ e. e.1) (λ e. e.1) (λ e. e.1)
    x y is)

-- those of many
pub values-silent : (vs : List ValueCst) → IsSilent (noted value_mentions vs)
values-silent [] = tt
values-silent (v ∷ vs) = silent-joined (value_mentions v) (noted value_mentions vs)
    (value-silent v) (values-silent vs)

pub entries-silent : (es : List EntryCst) → IsSilent (noted entry_mentions es)
entries-silent [] = tt
entries-silent (e ∷ es) = silent-joined (entry_mentions e) (noted entry_mentions es)
    (entry-silent e) (entries-silent es)
