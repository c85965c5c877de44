-- What is seen of a tree, by its form.
use Rattle.std.proofs.Common.{◌≡◌, ◌∙◌, refl, ℕ, Bool, true, false, List, ◌∷◌, [], ◌++◌, map, length}
use Rattle.std.specs.Prelude.{option_map, is_some, nat_lt}
use Rattle.std.specs.declared.option.Option.{Option}
use Rattle.std.specs.declared.option.Option.TheVariants.{Some, None}
use Rattle.attr_value.specs.declared.head.Head.TheVariants as h
use Rattle.attr_value.specs.declared.kind.ShapeKind.{ShapeKind}
use Rattle.generic_syntax.specs.declared.cst.EntryCst.{EntryCst, out-EntryCst, fold_out-EntryCst, map-EntryCst}
use Rattle.generic_syntax.specs.declared.cst.ItemCst.{ItemCst}
use Rattle.generic_syntax.specs.declared.cst.ValueCst.{ValueCst, out-ValueCst, fold_out-ValueCst}
use Rattle.generic_syntax.specs.declared.cst.ValueNode.{ValueNode}
use Rattle.generic_syntax.specs.declared.cst.ValueNode.TheVariants as node
use Rattle.ir_lexer.specs.Spelling.{Text}
use Rattle.value_meaning.specs.Meaning.{Aliases, Seen, NodeSeen, EntrySeen, seen, node_seen, entry_seen}
use Rattle.value_meaning.specs.Meaning.{node_layer, entry_layer, value_layer, seen_at, seen_entry}
use Rattle.value_meaning.specs.Meaning.{seen_leaf, seen_form, seen_array, seen_made, seen_alias}
use Rattle.value_meaning.specs.Meaning.{seen_dialect, seen_shape, seen_number, seen_dense, seen_dict}
use Rattle.value_meaning.specs.Spelled.{word_head}
use Rattle.value_meaning.proofs.Folds as fold

module _ (al : Aliases) where
  -- of a value, by its place and its form
  pub seen-value : (c : ValueCst)
      → seen al c ≡ seen_at (out-ValueCst c).place (node_seen al (out-ValueCst c).node)
  unfolding seen node_seen
  seen-value c = fold_out-ValueCst NodeSeen EntrySeen Seen (node_layer al) (entry_layer al) (value_layer al) c

  -- of an entry, by its place, its key and its value
  pub seen-entry : (e : EntryCst) → entry_seen al e
      ≡ seen_entry (out-EntryCst e).place (out-EntryCst e).key
      (option_map (seen al) (out-EntryCst e).value)
  unfolding seen entry_seen node_seen
  seen-entry e =
      fold_out-EntryCst NodeSeen EntrySeen Seen (node_layer al) (entry_layer al) (value_layer al) e
      ∙ go (out-EntryCst e).place (out-EntryCst e).key (out-EntryCst e).value
    where
      go : (place : ℕ) (key : Text) (v : Option ValueCst)
          → entry_layer al (map-EntryCst ValueNode EntryCst ValueCst NodeSeen EntrySeen Seen
          (node_seen al) (entry_seen al) (seen al)
          (record { place = place; key = key; value = v }))
          ≡ seen_entry place key (option_map (seen al) v)
      go place key None = refl
      go place key (Some v) = refl

  pub seen-word : (w : Text)
      → node_seen al (node.Word w) ≡ seen_form (word_head w) (is_some (word_head w))
  unfolding node_seen
  seen-word w = fold.fold-word (node_layer al) (entry_layer al) (value_layer al) w

  pub seen-type_alias : (w : Text) → node_seen al (node.TypeAlias w) ≡ seen_alias (al true w)
  unfolding node_seen
  seen-type_alias w = fold.fold-type_alias (node_layer al) (entry_layer al) (value_layer al) w

  pub seen-attr_alias : (w : Text) → node_seen al (node.AttrAlias w) ≡ seen_alias (al false w)
  unfolding node_seen
  seen-attr_alias w = fold.fold-attr_alias (node_layer al) (entry_layer al) (value_layer al) w

  pub seen-str : (w : Text) → node_seen al (node.Str w) ≡ seen_leaf (h.Str w)
  unfolding node_seen
  seen-str w = fold.fold-str (node_layer al) (entry_layer al) (value_layer al) w

  pub seen-symbol : (ws : List Text) → node_seen al (node.Symbol ws)
      ≡ seen_form (Some (h.Symbol ws)) (nat_lt 0 (length ws))
  unfolding node_seen
  seen-symbol ws = fold.fold-symbol (node_layer al) (entry_layer al) (value_layer al) ws

  pub seen-dense : (width : ℕ) (items : List ItemCst)
      → node_seen al (node.Dense width items) ≡ seen_dense width items
  unfolding node_seen
  seen-dense width items = fold.fold-dense (node_layer al) (entry_layer al) (value_layer al) width items

  pub seen-number : (negative : Bool) (w : Text) (t : Option ValueCst)
      → node_seen al (node.Number negative w t) ≡ seen_number negative w (option_map (seen al) t)
  unfolding node_seen seen
  seen-number negative w t =
      fold.fold-number (node_layer al) (entry_layer al) (value_layer al) negative w t

  pub seen-array : (vs : List ValueCst)
      → node_seen al (node.Array vs) ≡ seen_array (map (seen al) vs)
  unfolding node_seen seen
  seen-array vs = fold.fold-array (node_layer al) (entry_layer al) (value_layer al) vs

  pub seen-tuple : (vs : List ValueCst)
      → node_seen al (node.Tuple vs) ≡ seen_made h.Tuple (map (seen al) vs)
  unfolding node_seen seen
  seen-tuple vs = fold.fold-tuple (node_layer al) (entry_layer al) (value_layer al) vs

  pub seen-complex : (c : ValueCst)
      → node_seen al (node.Complex c) ≡ seen_made h.Complex (seen al c ∷ [])
  unfolding node_seen seen
  seen-complex c = fold.fold-complex (node_layer al) (entry_layer al) (value_layer al) c

  pub seen-function : (xs ys : List ValueCst) → node_seen al (node.Function xs ys)
      ≡ seen_made (h.Function (length (map (seen al) xs))) (map (seen al) xs ++ map (seen al) ys)
  unfolding node_seen seen
  seen-function xs ys = fold.fold-function (node_layer al) (entry_layer al) (value_layer al) xs ys

  pub seen-shaped : (kind : ShapeKind) (ds : List Text) (c : ValueCst)
      → node_seen al (node.Shaped kind ds c) ≡ seen_shape kind ds (seen al c)
  unfolding node_seen seen
  seen-shaped kind ds c = fold.fold-shaped (node_layer al) (entry_layer al) (value_layer al) kind ds c

  pub seen-dialect : (is_type : Bool) (w : Text) (vs : List ValueCst)
      → node_seen al (node.Dialect is_type w vs) ≡ seen_dialect is_type w (map (seen al) vs)
  unfolding node_seen seen
  seen-dialect is_type w vs =
      fold.fold-dialect (node_layer al) (entry_layer al) (value_layer al) is_type w vs

  pub seen-dict : (es : List _) → node_seen al (node.Dict es) ≡ seen_dict (map (entry_seen al) es)
  unfolding node_seen entry_seen
  seen-dict es = fold.fold-dict (node_layer al) (entry_layer al) (value_layer al) es
