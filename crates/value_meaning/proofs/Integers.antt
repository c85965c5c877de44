-- No tree spells an integer type that isn't good.
use Rattle.std.proofs.Common.{◌≡◌, ◌∙◌, Bool, List, [], ◌∷◌, ◌++◌, map, refl, sym, ap, subst}
use Rattle.std.specs.Prelude.{option_map, option_and_then}
use Rattle.std.specs.declared.option.Option.{Option}
use Rattle.std.specs.declared.option.Option.TheVariants.{Some, None}
use Rattle.attr_value.specs.declared.head.Head.{Head}
use Rattle.attr_value.specs.declared.head.Head.TheVariants as h
use Rattle.attr_value.specs.declared.head.ValueId.{ValueId}
use Rattle.attr_value.specs.declared.kind.Dim.{Dim}
use Rattle.attr_value.specs.declared.kind.ShapeKind.{ShapeKind}
use Rattle.attr_value.specs.Ids.{at}
use Rattle.attr_value.specs.Values.{Value}
use Rattle.generic_syntax.specs.declared.cst.EntryCst.{EntryCst}
use Rattle.generic_syntax.specs.declared.cst.ValueCst.{ValueCst, out-ValueCst}
use Rattle.generic_syntax.specs.declared.cst.ValueNode.{ValueNode, out-ValueNode}
use Rattle.generic_syntax.specs.declared.cst.ValueNode.{fold_out-ValueNode, map-ValueNode}
use Rattle.generic_syntax.specs.declared.cst.ValueNode.TheOpen.{ValueNode-F}
use Rattle.ir_lexer.specs.Spelling.{Text}
use Rattle.value_meaning.specs.Judging.{Ground, IsGood, IsNoBadInteger, IsOther, Basis, IsReady}
use Rattle.value_meaning.specs.Judging.{with_table, values_at}
use Rattle.value_meaning.specs.Meaning.{Aliases, Seen, NodeSeen, EntrySeen, seen, node_seen}
use Rattle.value_meaning.specs.Meaning.{entry_seen, node_layer, entry_layer, value_layer}
use Rattle.value_meaning.specs.Meaning.{leaf, made_of, values_of}
use Rattle.value_meaning.specs.Spelled.{word_head, number_head, all_some, dim_of, dense_item}
use Rattle.value_meaning.proofs.Dicts.{dict-other}
use Rattle.value_meaning.proofs.Leaves.{word-good, symbol-other}
use Rattle.value_meaning.proofs.Numbers.{number-good}
use Rattle.value_meaning.proofs.Trees.{seen-value}

module _ (g : Ground) where
  -- what is made of something isn't one, where its head isn't an integer type's
  made-other : {A : Type 0} (f : A → Value) (o : Option A) → ((a : A) → IsOther (f a).head)
      → IsNoBadInteger g (option_map f o)
  made-other f None other v kind e int = absurd (cc)
  made-other f (Some a) other v kind e int =
      let is : f a ≡ v = cc in
      absurd (other a kind (ap (λ x. x.head) is ∙ int))

  -- nor where it is good
  made-good : {A : Type 0} (f : A → Value) (o : Option A)
      → ((a : A) → o ≡ Some a → IsGood g (f a)) → IsNoBadInteger g (option_map f o)
  made-good f None good v kind e int = absurd (cc)
  made-good f (Some a) good v kind e int =
      let is : f a ≡ v = cc in
      subst (IsGood g) is (good a refl)

  -- a shape
  shape-other : (kind : ShapeKind) (dims : Option (List Dim)) (element : Option Value)
      → IsNoBadInteger g (option_and_then
      (λ ds. option_map (λ v. made_of (h.Shaped kind ds) (v ∷ [])) element) dims)
  shape-other kind None element v int e is = absurd (cc)
  shape-other kind (Some ds) element v int e is =
      made-other (λ v. made_of (h.Shaped kind ds) (v ∷ [])) element (λ v int e. absurd (cc))
      v int e is

  -- what some values make
  list-other : (head : Head) (kids : List Seen) → IsOther head
      → IsNoBadInteger g (option_map (made_of head) (values_of kids))
  list-other head kids other = made-other (made_of head) (values_of kids) (λ vs. other)

-- each alias that is there has a good value
pub record HaveGoodValues (g : Ground) (al : Aliases) : Type 0 where
  pub each : (is_type : Bool) (name : Text) (v : Value) → al is_type name ≡ Some v → IsGood g v

module _ (g : Ground) (al : Aliases) (good : HaveGoodValues g al) where
  -- the value of an alias
  alias-integer : (is_type : Bool) (name : Text) → IsNoBadInteger g (al is_type name)
  alias-integer is_type name v kind e int = good.each is_type name v e

  -- by the layers of a form
  layer-integer : (r : ValueNode-F ValueNode EntryCst ValueCst)
      → IsNoBadInteger g (node_layer al (map-ValueNode ValueNode EntryCst ValueCst
      NodeSeen EntrySeen Seen (node_seen al) (entry_seen al) (seen al) r)).value
  layer-integer (ValueNode-F.Word w) =
      made-good g leaf (word_head w) (λ head is. word-good g w head is)
  layer-integer (ValueNode-F.TypeAlias name) = alias-integer _ name
  layer-integer (ValueNode-F.AttrAlias name) = alias-integer _ name
  layer-integer (ValueNode-F.Dialect is_type name args) =
      list-other g (h.Dialect is_type name) (map (seen al) args) (λ kind e. absurd (cc))
  layer-integer (ValueNode-F.Function inputs outputs) =
      list-other g (h.Function _) (map (seen al) inputs ++ map (seen al) outputs)
      (λ kind e. absurd (cc))
  layer-integer (ValueNode-F.Tuple kids) =
      list-other g h.Tuple (map (seen al) kids) (λ kind e. absurd (cc))
  layer-integer (ValueNode-F.Shaped kind dims element) =
      shape-other g kind (all_some (map (dim_of kind) dims)) (seen al element).value
  layer-integer (ValueNode-F.Complex element) =
      list-other g h.Complex (seen al element ∷ []) (λ kind e. absurd (cc))
  layer-integer (ValueNode-F.Number negative digits None) =
      made-good g leaf (number_head negative digits None)
      (λ head is. number-good g negative digits None head is)
  layer-integer (ValueNode-F.Number negative digits (Some type)) =
      made-good g leaf (number_head negative digits (Some (seen al type).value))
      (λ head is. number-good g negative digits (Some (seen al type).value) head is)
  layer-integer (ValueNode-F.Str bytes) =
      made-other g (λ (b : Text). leaf (h.Str b)) (Some bytes) (λ b kind e. absurd (cc))
  layer-integer (ValueNode-F.Array vs) =
      list-other g h.Array (map (seen al) vs) (λ kind e. absurd (cc))
  layer-integer (ValueNode-F.Dict es) = dict-other g (map (entry_seen al) es)
  layer-integer (ValueNode-F.Symbol parts) = symbol-other g parts
  layer-integer (ValueNode-F.Dense width items) =
      made-other g (λ ns. leaf (h.Dense width ns)) (all_some (map (dense_item width) items))
      (λ ns kind e. absurd (cc))

  -- of a form
  node-integer : (node : ValueNode) → IsNoBadInteger g (node_seen al node).value
  unfolding node_seen entry_seen seen
  node-integer node =
      subst (λ (s : NodeSeen). IsNoBadInteger g s.value)
      (sym (fold_out-ValueNode NodeSeen EntrySeen Seen (node_layer al) (entry_layer al)
      (value_layer al) node))
      (layer-integer (out-ValueNode node))

  -- of a tree
  pub spelled-integer : (c : ValueCst) → IsNoBadInteger g (seen al c).value
  spelled-integer c =
      subst (λ (s : Seen). IsNoBadInteger g s.value) (sym (seen-value al c))
      (node-integer (out-ValueCst c).node)

module _ (b : Basis) (table : List Value) (ready : IsReady b table) where
  -- aliases by the ids of good values have good values
  pub ready-good : HaveGoodValues (with_table b table) (values_at table b.ids)
  ready-good = record {
    each = λ is_type name v is. go is_type name v (b.ids is_type name) refl is;
  }
    where
      go : (is_type : Bool) (name : Text) (v : Value) (o : Option ValueId)
          → b.ids is_type name ≡ o → option_map (λ id. at table id.0) o ≡ Some v
          → IsGood (with_table b table) v
      go is_type name v None is e = absurd (cc)
      go is_type name v (Some id) is e =
          let same : at table id.0 ≡ v = cc in
          subst (IsGood (with_table b table)) same (ready.good is_type name id is)

  -- so no tree spells a bad integer type under these
  pub tree-integer : (c : ValueCst)
      → IsNoBadInteger (with_table b table) (seen (values_at table b.ids) c).value
  tree-integer c = spelled-integer (with_table b table) (values_at table b.ids) ready-good c
