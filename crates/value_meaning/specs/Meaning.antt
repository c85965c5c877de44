-- What a tree of a value means: the value that it spells, and what it says that may be wrong.
--
-- A tree is taken with the values of the aliases before it. It spells at most one value. A value
-- spells what its parts do, so it has none where a part has none. What dialects define is no part
-- of this; that is asked of the value afterwards.
--
-- What may be wrong is a list of claims, each at its place, in the order of the text. A value that
-- stands directly in what holds it has nesting 1, and one that stands in a value one more than
-- that; the type behind a number has the number's nesting. An entry without a value has the unit
-- attribute, which stands at its key.
--
-- A tree can also be one that no text has: a word that isn't known, a symbol without parts, an
-- attribute where a type is asked. That is a claim too, and wrong as a syntax fault is.
--
--   Aliases                  the value of each alias, by its kind and name
--   Claim, Mark              one thing that a tree says, and its place
--   Seen, EntrySeen          the value of a tree, and its marks at a nesting
--   seen aliases c           what is seen of a tree
--   value_of aliases c       the value that a tree spells, or none
--   marks aliases n c        the marks of a tree that stands at nesting n
use Rattle.std.specs.Prelude.{ℕ, ◌+◌, Bool, true, false, List, [], ◌∷◌, ◌++◌, map, length}
use Rattle.std.specs.Prelude.{is_some, nat_lt}
use Rattle.std.specs.Prelude.{option_map, option_and_then}
use Rattle.std.specs.List.{flat_map}
use Rattle.std.specs.declared.option.Option.{Option}
use Rattle.std.specs.declared.option.Option.TheVariants.{Some, None}
use Rattle.attr_value.specs.declared.head.Head.{Head}
use Rattle.attr_value.specs.declared.head.Head.TheVariants as h
use Rattle.attr_value.specs.declared.kind.ShapeKind.{ShapeKind}
use Rattle.attr_value.specs.Values.{Value, Values, none, more, value}
use Rattle.generic_syntax.specs.declared.cst.EntryCst.{EntryCst, EntryCst-F, fold-EntryCst}
use Rattle.generic_syntax.specs.declared.cst.ItemCst.{ItemCst}
use Rattle.generic_syntax.specs.declared.cst.ValueCst.{ValueCst, ValueCst-F, fold-ValueCst}
use Rattle.generic_syntax.specs.declared.cst.ValueNode.{ValueNode, fold-ValueNode}
use Rattle.generic_syntax.specs.declared.cst.ValueNode.TheOpen.{ValueNode-F}
use Rattle.ir_lexer.specs.Spelling.{Text}
use Rattle.value_meaning.specs.Spelled.{word_head, number_head, dense_item, dim_of, all_some}
use Rattle.value_meaning.specs.Spelled.{sorted_entries, is_dense_width}

-- the values of the aliases that are there, of types and of attributes
abbrev pub Aliases : Type 0
Aliases = Bool → Text → Option Value

-- ---- claims

-- one thing that a tree says, which may be wrong
pub data Claim : Type 0 where
  -- a value stands here, at this nesting
  stands : ℕ → Claim
  -- an alias is mentioned at this nesting, which has this value, where it is there
  mentions : ℕ → Option Value → Claim
  -- the form that stands here is one that texts have
  spells : Bool → Claim
  -- these, which stand in a type, mean types
  types : List (Option Value) → Claim
  -- a number with a minus or without one, its digits, and what its type means, where it has one
  counts : Bool → Text → Option (Option Value) → Claim
  -- an item of a dense array of this width
  holds : ℕ → ItemCst → Claim
  -- a shape of this kind has these dimensions, and an element type that means this
  measures : ShapeKind → List Text → Option Value → Claim
  -- an entry has this key, behind those before it
  keys : List Text → Text → Claim
  -- a dialect's type or attribute of this name has parameters that mean these
  names : Bool → Text → List (Option Value) → Claim

-- a claim and its place
pub record Mark : Type 0 where
  pub place : ℕ
  pub claim : Claim

-- a claim at a place
abbrev pub claim_at : ℕ → Claim → Mark
claim_at place claim = record { place = place; claim = claim }

-- ---- what is seen of a tree

-- the value that a tree spells, and its marks where it stands at a nesting
pub record Seen : Type 0 where
  pub value : Option Value
  pub marks : ℕ → List Mark

-- of an entry: its place, its key, and what is seen of its value
pub record EntrySeen : Type 0 where
  pub place : ℕ
  pub key : Text
  pub seen : Seen

-- what is seen of the form of a value, whose place comes first
pub record NodeSeen : Type 0 where
  pub value : Option Value
  pub marks : ℕ → ℕ → List Mark

-- a value without kids
abbrev pub leaf : Head → Value
leaf head = value head none

-- values, as the kids of one
abbrev pub kids_of : List Value → Values
kids_of [] = none
kids_of (v ∷ vs) = more v.head v.kids (kids_of vs)

-- a value of this head and these kids
abbrev pub made_of : Head → List Value → Value
made_of head vs = value head (kids_of vs)

-- the values of some trees, where each has one
abbrev pub values_of : List Seen → Option (List Value)
values_of kids = all_some (map (λ kid. kid.value) kids)

-- the marks of kids, which stand one deeper
abbrev pub marks_of : ℕ → List Seen → List Mark
marks_of n kids = flat_map (λ kid. kid.marks (n + 1)) kids

-- ---- entries

-- an entry and its value, where it has one
abbrev pub entry_value : EntrySeen → Option (Text × Value)
entry_value e = option_map (λ v. (e.key, v)) e.seen.value

-- the value of a dictionary of these entries, which ascend
abbrev pub dict_of : List (Text × Value) → Value
dict_of es = made_of (h.Dict (map (λ e. e.0) es)) (map (λ e. e.1) es)

-- the value of a dictionary, whatever the order of its entries
abbrev pub dict_value : List EntrySeen → Option Value
dict_value es = option_map dict_of (option_and_then sorted_entries (all_some (map entry_value es)))

-- the marks of entries behind some keys, with values at nesting n
abbrev pub entries_marks : ℕ → List Text → List EntrySeen → List Mark
entries_marks n before [] = []
entries_marks n before (e ∷ es) =
    claim_at e.place (keys before e.key) ∷ e.seen.marks n ++ entries_marks n (before ++ e.key ∷ []) es

-- ---- nodes

-- a node that has no kid and is always right
abbrev pub seen_leaf : Head → NodeSeen
seen_leaf head = record { value = Some (leaf head); marks = λ place n. [] }

-- a node that has no kid, and is one of texts where this holds
abbrev pub seen_form : Option Head → Bool → NodeSeen
seen_form head b = record {
  value = option_map leaf head;
  marks = λ place n. claim_at place (spells b) ∷ [];
}

-- an array
abbrev pub seen_array : List Seen → NodeSeen
seen_array kids = record {
  value = option_map (made_of h.Array) (values_of kids);
  marks = λ place n. marks_of n kids;
}

-- a type that is made of types
abbrev pub seen_made : Head → List Seen → NodeSeen
seen_made head kids = record {
  value = option_map (made_of head) (values_of kids);
  marks = λ place n. claim_at place (types (map (λ kid. kid.value) kids)) ∷ marks_of n kids;
}

-- a mention of an alias
abbrev pub seen_alias : Option Value → NodeSeen
seen_alias v = record {
  value = v;
  marks = λ place n. claim_at place (mentions n v) ∷ [];
}

-- a value of a dialect
abbrev pub seen_dialect : Bool → Text → List Seen → NodeSeen
seen_dialect is_type name args = record {
  value = option_map (made_of (h.Dialect is_type name)) (values_of args);
  marks = λ place n.
      claim_at place (names is_type name (map (λ arg. arg.value) args)) ∷ marks_of n args;
}

-- a shaped type
abbrev pub seen_shape : ShapeKind → List Text → Seen → NodeSeen
seen_shape kind dims element = record {
  value = option_and_then
      (λ ds. option_map (λ v. made_of (h.Shaped kind ds) (v ∷ [])) element.value)
      (all_some (map (dim_of kind) dims));
  marks = λ place n. claim_at place (types (element.value ∷ []))
      ∷ claim_at place (measures kind dims element.value) ∷ marks_of n (element ∷ []);
}

-- the marks of the type behind a number, which stands at the number's nesting
abbrev pub type_marks : ℕ → Option Seen → List Mark
type_marks n None = []
type_marks n (Some type) = type.marks n

-- a number
abbrev pub seen_number : Bool → Text → Option Seen → NodeSeen
seen_number negative digits type = record {
  value = option_map leaf (number_head negative digits (option_map (λ t. t.value) type));
  marks = λ place n.
      claim_at place (counts negative digits (option_map (λ t. t.value) type)) ∷ type_marks n type;
}

-- a dense array
abbrev pub seen_dense : ℕ → List ItemCst → NodeSeen
seen_dense width items = record {
  value = option_map (λ ns. leaf (h.Dense width ns)) (all_some (map (dense_item width) items));
  marks = λ place n. claim_at place (spells (is_dense_width width))
      ∷ map (λ item. claim_at item.place (holds width item)) items;
}

-- a dictionary
abbrev pub seen_dict : List EntrySeen → NodeSeen
seen_dict es = record {
  value = dict_value es;
  marks = λ place n. entries_marks (n + 1) [] es;
}

-- ---- trees

-- a value at its place: that it stands there is its first claim
abbrev pub seen_at : ℕ → NodeSeen → Seen
seen_at place node = record {
  value = node.value;
  marks = λ n. claim_at place (stands n) ∷ node.marks place n;
}

-- the unit attribute that a key alone has
abbrev pub seen_unit : ℕ → Seen
seen_unit place = seen_at place (seen_leaf h.Unit)

-- an entry, with what is seen of its value, where one stands there
abbrev pub seen_entry : ℕ → Text → Option Seen → EntrySeen
seen_entry place key (Some v) = record { place = place; key = key; seen = v }
seen_entry place key None = record { place = place; key = key; seen = seen_unit place }

module _ (aliases : Aliases) where
  -- the form of a value, of whose parts this is seen
  abbrev pub node_layer : ValueNode-F NodeSeen EntrySeen Seen → NodeSeen
  node_layer (ValueNode-F.Word w) = seen_form (word_head w) (is_some (word_head w))
  node_layer (ValueNode-F.TypeAlias name) = seen_alias (aliases true name)
  node_layer (ValueNode-F.AttrAlias name) = seen_alias (aliases false name)
  node_layer (ValueNode-F.Dialect is_type name args) = seen_dialect is_type name args
  node_layer (ValueNode-F.Function inputs outputs) =
      seen_made (h.Function (length inputs)) (inputs ++ outputs)
  node_layer (ValueNode-F.Tuple kids) = seen_made h.Tuple kids
  node_layer (ValueNode-F.Shaped kind dims element) = seen_shape kind dims element
  node_layer (ValueNode-F.Complex element) = seen_made h.Complex (element ∷ [])
  node_layer (ValueNode-F.Number negative digits type) = seen_number negative digits type
  node_layer (ValueNode-F.Str bytes) = seen_leaf (h.Str bytes)
  node_layer (ValueNode-F.Array vs) = seen_array vs
  node_layer (ValueNode-F.Dict es) = seen_dict es
  node_layer (ValueNode-F.Symbol parts) =
      seen_form (Some (h.Symbol parts)) (nat_lt 0 (length parts))
  node_layer (ValueNode-F.Dense width items) = seen_dense width items

  -- an entry, of whose value this is seen
  abbrev pub entry_layer : EntryCst-F NodeSeen EntrySeen Seen → EntrySeen
  entry_layer e = seen_entry e.place e.key e.value

  -- a value, of whose form this is seen
  abbrev pub value_layer : ValueCst-F NodeSeen EntrySeen Seen → Seen
  value_layer v = seen_at v.place v.node

  -- what is seen of a tree
  unfoldable pub seen : ValueCst → Seen
  seen = fold-ValueCst NodeSeen EntrySeen Seen node_layer entry_layer value_layer

  -- what is seen of an entry
  unfoldable pub entry_seen : EntryCst → EntrySeen
  entry_seen = fold-EntryCst NodeSeen EntrySeen Seen node_layer entry_layer value_layer

  -- what is seen of the form of a value
  unfoldable pub node_seen : ValueNode → NodeSeen
  node_seen = fold-ValueNode NodeSeen EntrySeen Seen node_layer entry_layer value_layer

  -- the value that a tree spells, or none
  abbrev pub value_of : ValueCst → Option Value
  value_of c = (seen c).value

  -- the marks of a tree that stands at nesting n
  abbrev pub marks : ℕ → ValueCst → List Mark
  marks n c = (seen c).marks n
