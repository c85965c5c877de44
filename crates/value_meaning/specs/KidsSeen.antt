-- The kids of a form, in the order of the text.
--
--   kids_seen al node       what is seen of the kids of a form
--   kid_seen al kid         what is seen of one
--   kids_at_nesting node n  the nesting of the kids of a form that stands at nesting n
--   IsBelow node kid        a kid is smaller than its form
--
-- Inside: no public clause rests on this.
use Rattle.std.specs.Prelude.{ℕ, ◌+◌, ◌<◌, List, [], ◌∷◌, ◌++◌, map}
use Rattle.std.specs.declared.option.Option.TheVariants.{Some}
use Rattle.generic_syntax.specs.declared.cst.EntryCst.{EntryCst}
use Rattle.generic_syntax.specs.declared.cst.ValueCst.{ValueCst, size-ValueCst}
use Rattle.generic_syntax.specs.declared.cst.ValueNode.{ValueNode, size-ValueNode, out-ValueNode}
use Rattle.generic_syntax.specs.declared.cst.ValueNode.{map-ValueNode}
use Rattle.generic_syntax.specs.declared.cst.ValueNode.TheOpen.{ValueNode-F}
use Rattle.value_meaning.specs.declared.kid.Kid.{Kid}
use Rattle.value_meaning.specs.declared.kid.Kid.TheVariants.{Tree, Lone}
use Rattle.value_meaning.specs.Meaning.{Aliases, Seen, NodeSeen, EntrySeen}
use Rattle.value_meaning.specs.Meaning.{seen, node_seen, entry_seen, seen_unit}

-- of a form, of whose parts this is seen
abbrev pub kids_layer : ValueNode-F NodeSeen EntrySeen Seen → List Seen
kids_layer (ValueNode-F.Dialect is_type name args) = args
kids_layer (ValueNode-F.Function inputs outputs) = inputs ++ outputs
kids_layer (ValueNode-F.Tuple kids) = kids
kids_layer (ValueNode-F.Shaped kind dims element) = element ∷ []
kids_layer (ValueNode-F.Complex element) = element ∷ []
kids_layer (ValueNode-F.Number negative digits (Some type)) = type ∷ []
kids_layer (ValueNode-F.Array vs) = vs
kids_layer (ValueNode-F.Dict es) = map (λ e. e.seen) es
kids_layer _ = []

-- what is seen of the kids of a form
unfoldable pub kids_seen : Aliases → ValueNode → List Seen
kids_seen al node = kids_layer (map-ValueNode ValueNode EntryCst ValueCst NodeSeen EntrySeen Seen
    (node_seen al) (entry_seen al) (seen al) (out-ValueNode node))

-- what is seen of a kid
abbrev pub kid_seen : Aliases → Kid → Seen
kid_seen al (Tree tree) = seen al tree.now
kid_seen al (Lone place) = seen_unit place

-- The type behind a number stands at the number's nesting, and all else one deeper.
abbrev pub nesting_layer : ValueNode-F ValueNode EntryCst ValueCst → ℕ → ℕ
nesting_layer (ValueNode-F.Number negative digits type) n = n
nesting_layer _ n = n + 1

-- the nesting of the kids of a form that stands at nesting n
unfoldable pub kids_nesting : ValueNode → ℕ → ℕ
kids_nesting node n = nesting_layer (out-ValueNode node) n

-- a kid is smaller than its form
abbrev pub IsBelow : ValueNode → Kid → Type 0
IsBelow node (Tree tree) = size-ValueCst tree.now < size-ValueNode node
IsBelow node (Lone place) = Unit {0}
