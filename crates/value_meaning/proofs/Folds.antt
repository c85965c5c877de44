-- What is made of a tree by its layers, one equation for each form of a value.
use Rattle.std.proofs.Common.{◌≡◌, ◌∙◌, sym, ap, ℕ, Bool, List, map}
use Rattle.std.specs.Prelude.{option_map}
use Rattle.std.specs.declared.option.Option.{Option}
use Rattle.std.specs.declared.option.Option.TheVariants.{Some, None}
use Rattle.attr_value.specs.declared.kind.ShapeKind.{ShapeKind}
use Rattle.generic_syntax.specs.declared.cst.EntryCst.{EntryCst, EntryCst-F}
use Rattle.generic_syntax.specs.declared.cst.EntryCst.{fold-EntryCst}
use Rattle.generic_syntax.specs.declared.cst.ItemCst.{ItemCst}
use Rattle.generic_syntax.specs.declared.cst.ValueCst.{ValueCst, ValueCst-F}
use Rattle.generic_syntax.specs.declared.cst.ValueCst.{fold-ValueCst}
use Rattle.generic_syntax.specs.declared.cst.ValueNode.{ValueNode, fold-ValueNode}
use Rattle.generic_syntax.specs.declared.cst.ValueNode.{fold-roll-ValueNode}
use Rattle.generic_syntax.specs.declared.cst.ValueNode.TheOpen.{ValueNode-F}
use Rattle.generic_syntax.specs.declared.cst.ValueNode.TheVariants as node
use Rattle.ir_lexer.specs.Spelling.{Text}

module _ {N E V : Type 0} (f : ValueNode-F N E V → N) (e : EntryCst-F N E V → E)
    (v : ValueCst-F N E V → V) where
  -- of a form, of an entry, of a value
  abbrev pub of_node : ValueNode → N
  of_node = fold-ValueNode N E V f e v

  abbrev pub of_entry : EntryCst → E
  of_entry = fold-EntryCst N E V f e v

  abbrev pub of_value : ValueCst → V
  of_value = fold-ValueCst N E V f e v

  pub fold-word : (w : Text) → of_node (node.Word w) ≡ f (ValueNode-F.Word w)
  fold-word w = ap of_node (sym (node.rolls-Word w))
      ∙ fold-roll-ValueNode N E V f e v (ValueNode-F.Word w)

  pub fold-type_alias : (w : Text) → of_node (node.TypeAlias w) ≡ f (ValueNode-F.TypeAlias w)
  fold-type_alias w = ap of_node (sym (node.rolls-TypeAlias w))
      ∙ fold-roll-ValueNode N E V f e v (ValueNode-F.TypeAlias w)

  pub fold-attr_alias : (w : Text) → of_node (node.AttrAlias w) ≡ f (ValueNode-F.AttrAlias w)
  fold-attr_alias w = ap of_node (sym (node.rolls-AttrAlias w))
      ∙ fold-roll-ValueNode N E V f e v (ValueNode-F.AttrAlias w)

  pub fold-dialect : (is_type : Bool) (w : Text) (vs : List ValueCst)
      → of_node (node.Dialect is_type w vs)
      ≡ f (ValueNode-F.Dialect is_type w (map of_value vs))
  fold-dialect is_type w vs = ap of_node (sym (node.rolls-Dialect is_type w vs))
      ∙ fold-roll-ValueNode N E V f e v (ValueNode-F.Dialect is_type w vs)

  pub fold-function : (xs ys : List ValueCst) → of_node (node.Function xs ys)
      ≡ f (ValueNode-F.Function (map of_value xs) (map of_value ys))
  fold-function xs ys = ap of_node (sym (node.rolls-Function xs ys))
      ∙ fold-roll-ValueNode N E V f e v (ValueNode-F.Function xs ys)

  pub fold-tuple : (vs : List ValueCst)
      → of_node (node.Tuple vs) ≡ f (ValueNode-F.Tuple (map of_value vs))
  fold-tuple vs = ap of_node (sym (node.rolls-Tuple vs))
      ∙ fold-roll-ValueNode N E V f e v (ValueNode-F.Tuple vs)

  pub fold-shaped : (kind : ShapeKind) (ds : List Text) (c : ValueCst)
      → of_node (node.Shaped kind ds c) ≡ f (ValueNode-F.Shaped kind ds (of_value c))
  fold-shaped kind ds c = ap of_node (sym (node.rolls-Shaped kind ds c))
      ∙ fold-roll-ValueNode N E V f e v (ValueNode-F.Shaped kind ds c)

  pub fold-complex : (c : ValueCst) → of_node (node.Complex c) ≡ f (ValueNode-F.Complex (of_value c))
  fold-complex c = ap of_node (sym (node.rolls-Complex c))
      ∙ fold-roll-ValueNode N E V f e v (ValueNode-F.Complex c)

  pub fold-number : (negative : Bool) (w : Text) (t : Option ValueCst)
      → of_node (node.Number negative w t)
      ≡ f (ValueNode-F.Number negative w (option_map of_value t))
  fold-number negative w None = ap of_node (sym (node.rolls-Number negative w None))
      ∙ fold-roll-ValueNode N E V f e v (ValueNode-F.Number negative w None)
  fold-number negative w (Some t) = ap of_node (sym (node.rolls-Number negative w (Some t)))
      ∙ fold-roll-ValueNode N E V f e v (ValueNode-F.Number negative w (Some t))

  pub fold-str : (w : Text) → of_node (node.Str w) ≡ f (ValueNode-F.Str w)
  fold-str w = ap of_node (sym (node.rolls-Str w))
      ∙ fold-roll-ValueNode N E V f e v (ValueNode-F.Str w)

  pub fold-array : (vs : List ValueCst)
      → of_node (node.Array vs) ≡ f (ValueNode-F.Array (map of_value vs))
  fold-array vs = ap of_node (sym (node.rolls-Array vs))
      ∙ fold-roll-ValueNode N E V f e v (ValueNode-F.Array vs)

  pub fold-dict : (es : List EntryCst)
      → of_node (node.Dict es) ≡ f (ValueNode-F.Dict (map of_entry es))
  fold-dict es = ap of_node (sym (node.rolls-Dict es))
      ∙ fold-roll-ValueNode N E V f e v (ValueNode-F.Dict es)

  pub fold-symbol : (ws : List Text) → of_node (node.Symbol ws) ≡ f (ValueNode-F.Symbol ws)
  fold-symbol ws = ap of_node (sym (node.rolls-Symbol ws))
      ∙ fold-roll-ValueNode N E V f e v (ValueNode-F.Symbol ws)

  pub fold-dense : (width : ℕ) (items : List ItemCst)
      → of_node (node.Dense width items) ≡ f (ValueNode-F.Dense width items)
  fold-dense width items = ap of_node (sym (node.rolls-Dense width items))
      ∙ fold-roll-ValueNode N E V f e v (ValueNode-F.Dense width items)
