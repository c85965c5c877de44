use Rattle.std.proofs.Common.{◌+◌, ◌*◌}
use Rattle.grammar.specs.Rules.{◌>>◌, punct}
use Rattle.ir_lexer.specs.declared.class.Class.TheVariants as c
use Rattle.generic_syntax.specs.Nested.{values_within}
use Rattle.generic_syntax.specs.Values as spec
use Rattle.generic_syntax.specs.Sorts.{sort_of}
use Rattle.generic_syntax.proofs.Rows.{Builds}
use Rattle.generic_syntax.proofs.value.+values.Given as goal

abbrev pub decreases-value : goal.decreases-value
decreases-value g l = 32 * l.room + 0

abbrev pub decreases-node : goal.decreases-node
decreases-node g l = 32 * l.room + 30

abbrev pub decreases-lists::values : goal.decreases-lists::values
decreases-lists::values g l = 32 * l.room + 6

abbrev pub decreases-lists::some_values : goal.decreases-lists::some_values
decreases-lists::some_values g l = 32 * l.room + 5

abbrev pub invariant-lists::some_values-each : goal.invariant-lists::some_values-each
invariant-lists::some_values-each g l = Builds (values_within l.room) (punct c.Comma >> spec.inner (sort_of l.sort)) (spec.list1 (spec.inner (sort_of l.sort))) (λ l. l) l.found (g.T.TokenSource.state l.fn.t) (g.T.TokenSource.state l.t)

abbrev pub decreases-lists::some_values-each : goal.decreases-lists::some_values-each
decreases-lists::some_values-each g l = (g.T.TokenSource.state l.t).left

abbrev pub decreases-type_forms::typ : goal.decreases-type_forms::typ
decreases-type_forms::typ g l = 32 * l.room + 25

abbrev pub decreases-type_forms::type_node : goal.decreases-type_forms::type_node
decreases-type_forms::type_node g l = 32 * l.room + 24

abbrev pub decreases-attribute_forms::any_node : goal.decreases-attribute_forms::any_node
decreases-attribute_forms::any_node g l = 32 * l.room + 29

abbrev pub decreases-type_forms::plain_node : goal.decreases-type_forms::plain_node
decreases-type_forms::plain_node g l = 32 * l.room + 22

abbrev pub decreases-attribute_forms::attr_node : goal.decreases-attribute_forms::attr_node
decreases-attribute_forms::attr_node g l = 32 * l.room + 28

abbrev pub decreases-type_forms::tuple : goal.decreases-type_forms::tuple
decreases-type_forms::tuple g l = 32 * l.room + 17

abbrev pub decreases-type_forms::complex : goal.decreases-type_forms::complex
decreases-type_forms::complex g l = 32 * l.room + 17

abbrev pub decreases-type_forms::shaped : goal.decreases-type_forms::shaped
decreases-type_forms::shaped g l = 32 * l.room + 17

abbrev pub decreases-type_forms::arguments : goal.decreases-type_forms::arguments
decreases-type_forms::arguments g l = 32 * l.room + 10

abbrev pub decreases-type_forms::function : goal.decreases-type_forms::function
decreases-type_forms::function g l = 32 * l.room + 21

abbrev pub decreases-type_forms::types : goal.decreases-type_forms::types
decreases-type_forms::types g l = 32 * l.room + 18

abbrev pub decreases-type_forms::outs : goal.decreases-type_forms::outs
decreases-type_forms::outs g l = 32 * l.room + 19

abbrev pub decreases-lists::entry_list : goal.decreases-lists::entry_list
decreases-lists::entry_list g l = 32 * l.room + 6

abbrev pub decreases-lists::some_entries : goal.decreases-lists::some_entries
decreases-lists::some_entries g l = 32 * l.room + 5

abbrev pub decreases-attribute_forms::number : goal.decreases-attribute_forms::number
decreases-attribute_forms::number g l = 32 * l.room + 27

abbrev pub decreases-attribute_forms::type_behind : goal.decreases-attribute_forms::type_behind
decreases-attribute_forms::type_behind g l = 32 * l.room + 26

abbrev pub decreases-attribute_forms::array : goal.decreases-attribute_forms::array
decreases-attribute_forms::array g l = 32 * l.room + 17

abbrev pub decreases-attribute_forms::dict : goal.decreases-attribute_forms::dict
decreases-attribute_forms::dict g l = 32 * l.room + 17

abbrev pub decreases-attribute_forms::entries : goal.decreases-attribute_forms::entries
decreases-attribute_forms::entries g l = 32 * l.room + 16

abbrev pub decreases-attribute_forms::entry : goal.decreases-attribute_forms::entry
decreases-attribute_forms::entry g l = 32 * l.room + 4

abbrev pub decreases-attribute_forms::value_behind : goal.decreases-attribute_forms::value_behind
decreases-attribute_forms::value_behind g l = 32 * l.room + 3

abbrev pub invariant-lists::some_entries-each : goal.invariant-lists::some_entries-each
invariant-lists::some_entries-each g l = Builds (values_within l.room) (punct c.Comma >> spec.entry) (spec.list1 (spec.entry)) (λ l. l) l.found (g.T.TokenSource.state l.fn.t) (g.T.TokenSource.state l.t)

abbrev pub decreases-lists::some_entries-each : goal.decreases-lists::some_entries-each
decreases-lists::some_entries-each g l = (g.T.TokenSource.state l.t).left
