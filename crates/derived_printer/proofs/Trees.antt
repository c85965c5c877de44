-- The value of a tree that was just made, from what is seen of its parts.
--
-- What is seen of a tree is a fold; each lemma is one step of it.
use Rattle.std.proofs.Common.{◌≡◌, ◌∙◌, sym, ap, ℕ, Bool, List, [], ◌∷◌, ◌++◌, length, map, Option, Some, None, option_map, option_and_then}
use Rattle.attr_value.specs.declared.head.Head.TheVariants as h
use Rattle.attr_value.specs.declared.kind.ShapeKind.{ShapeKind}
use Rattle.attr_value.specs.Values.{Value}
use Rattle.generic_syntax.specs.declared.cst.EntryCst.{EntryCst, fold-roll-EntryCst}
use Rattle.generic_syntax.specs.declared.cst.ItemCst.{ItemCst}
use Rattle.generic_syntax.specs.declared.cst.ValueCst.{ValueCst, fold-roll-ValueCst}
use Rattle.generic_syntax.specs.declared.cst.ValueNode.{ValueNode, fold-roll-ValueNode}
use Rattle.generic_syntax.specs.declared.cst.ValueNode.TheVariants as node
use Rattle.generic_syntax.specs.declared.cst.ValueNode.TheOpen.{ValueNode-F}
use Rattle.generic_syntax.specs.Values.{node_at, entry_at}
use Rattle.ir_lexer.specs.Spelling.{Text}
use Rattle.value_meaning.specs.Meaning.{Aliases, Seen, EntrySeen, NodeSeen, node_layer, entry_layer, value_layer, seen, entry_seen, node_seen, value_of, values_of, leaf, made_of, dict_value, entry_value}
use Rattle.value_meaning.specs.Spelled.{word_head, number_head, dense_item, dim_of, all_some}

-- the value of a node, wherever it stands
abbrev pub node_value : Aliases → ValueNode → Option Value
node_value aliases n = (node_seen aliases n).value

module _ (al : Aliases) where
  -- of a node at a place
  pub of-at : (place : ℕ) (n : ValueNode) → value_of al (node_at place n) ≡ node_value al n
  unfolding seen node_at node_seen
  of-at place n = ap (λ s. s.value)
      (fold-roll-ValueCst NodeSeen EntrySeen Seen (node_layer al) (entry_layer al) (value_layer al)
      (record { place = place; node = n }))

  pub of-word : (w : Text) → node_value al (node.Word w) ≡ option_map leaf (word_head w)
  unfolding node_seen
  of-word w = ap (λ s. s.value) (ap (node_seen al) (sym (node.rolls-Word w))
      ∙ fold-roll-ValueNode NodeSeen EntrySeen Seen (node_layer al) (entry_layer al)
      (value_layer al) (ValueNode-F.Word w))

  pub of-string : (bytes : Text) → node_value al (node.Str bytes) ≡ Some (leaf (h.Str bytes))
  unfolding node_seen
  of-string bytes = ap (λ s. s.value) (ap (node_seen al) (sym (node.rolls-Str bytes))
      ∙ fold-roll-ValueNode NodeSeen EntrySeen Seen (node_layer al) (entry_layer al)
      (value_layer al) (ValueNode-F.Str bytes))

  pub of-symbol : (parts : List Text)
      → node_value al (node.Symbol parts) ≡ Some (leaf (h.Symbol parts))
  unfolding node_seen
  of-symbol parts = ap (λ s. s.value) (ap (node_seen al) (sym (node.rolls-Symbol parts))
      ∙ fold-roll-ValueNode NodeSeen EntrySeen Seen (node_layer al) (entry_layer al)
      (value_layer al) (ValueNode-F.Symbol parts))

  pub of-number : (negative : Bool) (digits : Text) (t : ValueCst)
      → node_value al (node.Number negative digits (Some t)) ≡ option_map leaf
      (number_head negative digits (Some (value_of al t)))
  unfolding seen node_seen
  of-number negative digits t =
      ap (λ s. s.value) (ap (node_seen al) (sym (node.rolls-Number negative digits (Some t)))
      ∙ fold-roll-ValueNode NodeSeen EntrySeen Seen (node_layer al) (entry_layer al)
      (value_layer al) (ValueNode-F.Number negative digits (Some t)))

  pub of-dense : (width : ℕ) (items : List ItemCst)
      → node_value al (node.Dense width items) ≡ option_map (λ ns. leaf (h.Dense width ns))
      (all_some (map (dense_item width) items))
  unfolding node_seen
  of-dense width items = ap (λ s. s.value) (ap (node_seen al) (sym (node.rolls-Dense width items))
      ∙ fold-roll-ValueNode NodeSeen EntrySeen Seen (node_layer al) (entry_layer al)
      (value_layer al) (ValueNode-F.Dense width items))

  pub of-array : (vs : List ValueCst)
      → node_value al (node.Array vs) ≡ option_map (made_of h.Array) (values_of (map (seen al) vs))
  unfolding seen node_seen
  of-array vs = ap (λ s. s.value) (ap (node_seen al) (sym (node.rolls-Array vs))
      ∙ fold-roll-ValueNode NodeSeen EntrySeen Seen (node_layer al) (entry_layer al)
      (value_layer al) (ValueNode-F.Array vs))

  pub of-tuple : (vs : List ValueCst)
      → node_value al (node.Tuple vs) ≡ option_map (made_of h.Tuple) (values_of (map (seen al) vs))
  unfolding seen node_seen
  of-tuple vs = ap (λ s. s.value) (ap (node_seen al) (sym (node.rolls-Tuple vs))
      ∙ fold-roll-ValueNode NodeSeen EntrySeen Seen (node_layer al) (entry_layer al)
      (value_layer al) (ValueNode-F.Tuple vs))

  pub of-complex : (v : ValueCst)
      → node_value al (node.Complex v) ≡ option_map (made_of h.Complex) (values_of (seen al v ∷ []))
  unfolding seen node_seen
  of-complex v = ap (λ s. s.value) (ap (node_seen al) (sym (node.rolls-Complex v))
      ∙ fold-roll-ValueNode NodeSeen EntrySeen Seen (node_layer al) (entry_layer al)
      (value_layer al) (ValueNode-F.Complex v))

  pub of-dialect : (is_type : Bool) (name : Text) (vs : List ValueCst)
      → node_value al (node.Dialect is_type name vs) ≡ option_map (made_of (h.Dialect is_type name))
      (values_of (map (seen al) vs))
  unfolding seen node_seen
  of-dialect is_type name vs =
      ap (λ s. s.value) (ap (node_seen al) (sym (node.rolls-Dialect is_type name vs))
      ∙ fold-roll-ValueNode NodeSeen EntrySeen Seen (node_layer al) (entry_layer al)
      (value_layer al) (ValueNode-F.Dialect is_type name vs))

  pub of-function : (ins outs : List ValueCst)
      → node_value al (node.Function ins outs) ≡ option_map
      (made_of (h.Function (length (map (seen al) ins))))
      (values_of (map (seen al) ins ++ map (seen al) outs))
  unfolding seen node_seen
  of-function ins outs = ap (λ s. s.value) (ap (node_seen al) (sym (node.rolls-Function ins outs))
      ∙ fold-roll-ValueNode NodeSeen EntrySeen Seen (node_layer al) (entry_layer al)
      (value_layer al) (ValueNode-F.Function ins outs))

  pub of-shaped : (kind : ShapeKind) (dims : List Text) (v : ValueCst)
      → node_value al (node.Shaped kind dims v) ≡ option_and_then
      (λ ds. option_map (λ v. made_of (h.Shaped kind ds) (v ∷ [])) (value_of al v))
      (all_some (map (dim_of kind) dims))
  unfolding seen node_seen
  of-shaped kind dims v = ap (λ s. s.value) (ap (node_seen al) (sym (node.rolls-Shaped kind dims v))
      ∙ fold-roll-ValueNode NodeSeen EntrySeen Seen (node_layer al) (entry_layer al)
      (value_layer al) (ValueNode-F.Shaped kind dims v))

  pub of-dict : (es : List EntryCst)
      → node_value al (node.Dict es) ≡ dict_value (map (entry_seen al) es)
  unfolding entry_seen node_seen
  of-dict es = ap (λ s. s.value) (ap (node_seen al) (sym (node.rolls-Dict es))
      ∙ fold-roll-ValueNode NodeSeen EntrySeen Seen (node_layer al) (entry_layer al)
      (value_layer al) (ValueNode-F.Dict es))

  -- an entry with a value
  pub of-entry : (place : ℕ) (key : Text) (v : ValueCst)
      → entry_value (entry_seen al (entry_at place (key, Some v))) ≡ option_map (λ v. (key, v))
      (value_of al v)
  unfolding seen entry_seen
  of-entry place key v = ap entry_value
      (fold-roll-EntryCst NodeSeen EntrySeen Seen (node_layer al) (entry_layer al) (value_layer al)
      (record { place = place; key = key; value = Some v }))

  -- and one without
  pub of-key : (place : ℕ) (key : Text)
      → entry_value (entry_seen al (entry_at place (key, None))) ≡ Some (key, leaf h.Unit)
  unfolding entry_seen
  of-key place key = ap entry_value
      (fold-roll-EntryCst NodeSeen EntrySeen Seen (node_layer al) (entry_layer al) (value_layer al)
      (record { place = place; key = key; value = None }))
