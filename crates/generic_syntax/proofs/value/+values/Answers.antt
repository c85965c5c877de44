use Rattle.std.proofs.Common.{arith, refl, sym, ◌∙◌, [], ◌∷◌, codes}
use Rattle.ir_lexer.specs.declared.class.Class.TheVariants as cls
use Rattle.grammar.specs.Looks.{dotted, undotted}
use Rattle.grammar.proofs.Codes.{refuses-is}
use Rattle.grammar.proofs.Runs.{exit, at-tok, at-ret, both-ok, both-first, both-second, left, right, made-ok, made-err, placed-ok, placed-err}
use Rattle.generic_syntax.specs.Values.{node_at}
use Rattle.generic_syntax.proofs.Knot.{values-fit}
use Rattle.generic_syntax.proofs.Rows.{builds-on, builds-end, builds-err, builds-memory, builds-first}
use Rattle.generic_syntax.proofs.Steps.{memory-after, at-look, at-words, at-type-word, deeper, value-deep, value-refused, no-values, some-values, type-begins, function-begins, no-type-begins}
use Rattle.generic_syntax.proofs.value.+values.Goals as goal

pub value-returns-in_err-node : goal.value-returns-in_err-node
value-returns-in_err-node g t c = exit c.from_residual.ensures (deeper _ _ c.if-room-gt0.true (placed-err c.in_err-node.ensures))

pub value-returns-then-room-gt0 : goal.value-returns-then-room-gt0
unfolding node_at
value-returns-then-room-gt0 g t c = deeper _ _ c.if-room-gt0.true (rw c.place-place.ensures (placed-ok c.in_ok-node.ensures))

pub value-returns-then-begins : goal.value-returns-then-begins
value-returns-then-begins g t c = value-deep _ _ (omega arith) (sym c.begins.ensures ∙ c.if-begins.true) c.too_deep.ensures

pub value-returns : goal.value-returns
value-returns g t c = value-refused _ _ (omega arith) (sym c.begins.ensures ∙ c.if-begins.false) (refuses-is (g.T.TokenSource.state c.args.t.now).now _ c.refused.ensures)

pub node-returns-in-AnyType : goal.node-returns-in-AnyType
node-returns-in-AnyType g t c = rw c.in-AnyType.is c.type_node.ensures

pub node-returns-in-PlainType : goal.node-returns-in-PlainType
node-returns-in-PlainType g t c = rw c.in-PlainType.is c.plain_node.ensures

pub node-returns-in-Attribute : goal.node-returns-in-Attribute
node-returns-in-Attribute g t c = rw c.in-Attribute.is c.any_node.ensures

pub lists::values-returns-then-not-begins : goal.lists::values-returns-then-not-begins
lists::values-returns-then-not-begins g t c = rw c.new.ensures (no-values _ _ (sym c.begins.ensures ∙ c.if-not-begins.true))

pub lists::values-returns : goal.lists::values-returns
lists::values-returns g t c = some-values _ _ (sym c.begins.ensures ∙ c.if-not-begins.false) c.some_values.ensures

pub lists::some_values-returns-in_err-value : goal.lists::some_values-returns-in_err-value
lists::some_values-returns-in_err-value g t c = exit c.from_residual.ensures (both-first c.in_err-value.ensures)

pub lists::some_values-returns-in_err-push : goal.lists::some_values-returns-in_err-push
lists::some_values-returns-in_err-push g t c = exit c.from_residual-in_err-push.ensures (both-first (memory-after c.in_ok-value.ensures))

pub lists::some_values-each-init : goal.lists::some_values-each-init
lists::some_values-each-init g t c = rw (c.in_ok-push.ensures.ok, c.new-found.ensures) (builds-first c.in_ok-value.ensures)

pub lists::some_values-returns-in_err-expect : goal.lists::some_values-returns-in_err-expect
lists::some_values-returns-in_err-expect g t c = exit c.from_residual-in_err-expect.ensures (builds-err (rw (sym c.is_class.ensures.passes ∙ c.each-test.true) refl) (c.each.invariant) (both-first (at-tok c.in_err-expect.ensures.took)))

pub lists::some_values-returns-in_err-value-2 : goal.lists::some_values-returns-in_err-value-2
lists::some_values-returns-in_err-value-2 g t c = exit c.from_residual-in_err-value-2.ensures (builds-err (rw (sym c.is_class.ensures.passes ∙ c.each-test.true) refl) (c.each.invariant) (both-second (at-tok c.in_ok-expect.ensures.took) c.in_err-value-2.ensures))

pub lists::some_values-each-preserved : goal.lists::some_values-each-preserved
lists::some_values-each-preserved g t c = rw c.in_ok-push-2.ensures.ok (builds-on (values-fit _) refl (rw (sym c.is_class.ensures.passes ∙ c.each-test.true) refl) (c.each.invariant) (both-ok (at-tok c.in_ok-expect.ensures.took) c.in_ok-value-2.ensures))

pub lists::some_values-returns-in_err-push-2 : goal.lists::some_values-returns-in_err-push-2
lists::some_values-returns-in_err-push-2 g t c = exit c.from_residual-in_err-push-2.ensures (builds-memory (values-fit _) refl (rw (sym c.is_class.ensures.passes ∙ c.each-test.true) refl) (c.each.invariant) (both-ok (at-tok c.in_ok-expect.ensures.took) c.in_ok-value-2.ensures))

pub lists::some_values-each-smaller : goal.lists::some_values-each-smaller
lists::some_values-each-smaller g t c = omega (arith, c.in_ok-expect.ensures.took.ran.less, c.in_ok-value-2.ensures.ran.less)

pub lists::some_values-returns : goal.lists::some_values-returns
lists::some_values-returns g t c = rw c.trim.ensures (builds-end (rw (sym c.is_class.ensures.passes ∙ c.each-test.false) refl) (c.each.invariant))

pub type_forms::typ-returns-in_err-node : goal.type_forms::typ-returns-in_err-node
type_forms::typ-returns-in_err-node g t c = exit c.from_residual.ensures (placed-err c.in_err-node.ensures)

pub type_forms::typ-returns : goal.type_forms::typ-returns
unfolding node_at
type_forms::typ-returns g t c = rw c.place-place.ensures (placed-ok c.in_ok-node.ensures)

pub type_forms::type_node-returns-then-begins_plain : goal.type_forms::type_node-returns-then-begins_plain
type_forms::type_node-returns-then-begins_plain g t c = left (sym c.begins_plain.ensures ∙ c.if-begins_plain.true) c.plain_node.ensures

pub type_forms::type_node-returns : goal.type_forms::type_node-returns
type_forms::type_node-returns g t c = right (sym c.begins_plain.ensures ∙ c.if-begins_plain.false) c.function.ensures

pub attribute_forms::any_node-returns-then-begins_plain : goal.attribute_forms::any_node-returns-then-begins_plain
attribute_forms::any_node-returns-then-begins_plain g t c = left (type-begins (g.T.TokenSource.state c.args.t.now).now (sym c.begins_plain.ensures ∙ c.if-begins_plain.true)) (left (sym c.begins_plain.ensures ∙ c.if-begins_plain.true) c.plain_node.ensures)

pub attribute_forms::any_node-returns-then-is_class : goal.attribute_forms::any_node-returns-then-is_class
attribute_forms::any_node-returns-then-is_class g t c = left (function-begins (g.T.TokenSource.state c.args.t.now).now (sym c.begins_plain.ensures ∙ c.if-begins_plain.false) (sym c.is_class.ensures.passes ∙ c.if-is_class.true)) (right (sym c.begins_plain.ensures ∙ c.if-begins_plain.false) c.function.ensures)

pub attribute_forms::any_node-returns : goal.attribute_forms::any_node-returns
attribute_forms::any_node-returns g t c = right (no-type-begins (g.T.TokenSource.state c.args.t.now).now (sym c.begins_plain.ensures ∙ c.if-begins_plain.false) (sym c.is_class.ensures.passes ∙ c.if-is_class.false)) c.attr_node.ensures

pub type_forms::plain_node-returns-in_err-word : goal.type_forms::plain_node-returns-in_err-word
type_forms::plain_node-returns-in_err-word g t c = exit c.from_residual.ensures (left (sym c.is_type_word.ensures ∙ c.if-is_type_word.true) (made-err (at-type-word (sym c.is_type_word.ensures ∙ c.if-is_type_word.true) c.in_err-word.ensures)))

pub type_forms::plain_node-returns-then-is_type_word : goal.type_forms::plain_node-returns-then-is_type_word
type_forms::plain_node-returns-then-is_type_word g t c = (left (sym c.is_type_word.ensures ∙ c.if-is_type_word.true) (made-ok (at-type-word (sym c.is_type_word.ensures ∙ c.if-is_type_word.true) c.in_ok-word.ensures)))

pub type_forms::plain_node-returns-in_err-name : goal.type_forms::plain_node-returns-in_err-name
type_forms::plain_node-returns-in_err-name g t c = exit c.from_residual-in_err-name.ensures (right (rw (sym c.is_type_word.ensures ∙ c.if-is_type_word.false) refl) (left (sym c.is_undotted.ensures ∙ c.if-is_undotted.true) (made-err (at-look (undotted cls.TypeName) (sym c.is_undotted.ensures ∙ c.if-is_undotted.true) c.in_err-name.ensures))))

pub type_forms::plain_node-returns-then-is_undotted : goal.type_forms::plain_node-returns-then-is_undotted
type_forms::plain_node-returns-then-is_undotted g t c = (right (rw (sym c.is_type_word.ensures ∙ c.if-is_type_word.false) refl) (left (sym c.is_undotted.ensures ∙ c.if-is_undotted.true) (made-ok (at-look (undotted cls.TypeName) (sym c.is_undotted.ensures ∙ c.if-is_undotted.true) c.in_ok-name.ensures))))

pub type_forms::plain_node-returns-in_err-name-2 : goal.type_forms::plain_node-returns-in_err-name-2
type_forms::plain_node-returns-in_err-name-2 g t c = exit c.from_residual-in_err-name-2.ensures (right (rw (sym c.is_type_word.ensures ∙ c.if-is_type_word.false) refl) (right (rw (sym c.is_undotted.ensures ∙ c.if-is_undotted.false) refl) (left (rw (sym c.is_dotted.ensures ∙ c.if-is_dotted.true) refl) (made-err (both-first (at-look (dotted cls.TypeName) (sym c.is_dotted.ensures ∙ c.if-is_dotted.true) c.in_err-name-2.ensures))))))

pub type_forms::plain_node-returns-in_err-args : goal.type_forms::plain_node-returns-in_err-args
type_forms::plain_node-returns-in_err-args g t c = exit c.from_residual-in_err-args.ensures (right (rw (sym c.is_type_word.ensures ∙ c.if-is_type_word.false) refl) (right (rw (sym c.is_undotted.ensures ∙ c.if-is_undotted.false) refl) (left (rw (sym c.is_dotted.ensures ∙ c.if-is_dotted.true) refl) (made-err (both-second (at-look (dotted cls.TypeName) (sym c.is_dotted.ensures ∙ c.if-is_dotted.true) c.in_ok-name-2.ensures) c.in_err-args.ensures)))))

pub type_forms::plain_node-returns-then-is_dotted : goal.type_forms::plain_node-returns-then-is_dotted
type_forms::plain_node-returns-then-is_dotted g t c = (right (rw (sym c.is_type_word.ensures ∙ c.if-is_type_word.false) refl) (right (rw (sym c.is_undotted.ensures ∙ c.if-is_undotted.false) refl) (left (rw (sym c.is_dotted.ensures ∙ c.if-is_dotted.true) refl) (made-ok (both-ok (at-look (dotted cls.TypeName) (sym c.is_dotted.ensures ∙ c.if-is_dotted.true) c.in_ok-name-2.ensures) c.in_ok-args.ensures)))))

pub type_forms::plain_node-returns-then-is_word : goal.type_forms::plain_node-returns-then-is_word
type_forms::plain_node-returns-then-is_word g t c = (right (rw (sym c.is_type_word.ensures ∙ c.if-is_type_word.false) refl) (right (rw (sym c.is_undotted.ensures ∙ c.if-is_undotted.false) refl) (right (rw (sym c.is_dotted.ensures ∙ c.if-is_dotted.false) refl) (left (rw (sym c.is_word.ensures.passes ∙ c.if-is_word.true) refl) c.tuple.ensures))))

pub type_forms::plain_node-returns-then-is_word-2 : goal.type_forms::plain_node-returns-then-is_word-2
type_forms::plain_node-returns-then-is_word-2 g t c = (right (rw (sym c.is_type_word.ensures ∙ c.if-is_type_word.false) refl) (right (rw (sym c.is_undotted.ensures ∙ c.if-is_undotted.false) refl) (right (rw (sym c.is_dotted.ensures ∙ c.if-is_dotted.false) refl) (right (rw (sym c.is_word.ensures.passes ∙ c.if-is_word.false) refl) (left (rw (sym c.is_word-2.ensures.passes ∙ c.if-is_word-2.true) refl) c.complex.ensures)))))

pub type_forms::plain_node-returns-then-is_word-3 : goal.type_forms::plain_node-returns-then-is_word-3
type_forms::plain_node-returns-then-is_word-3 g t c = (right (rw (sym c.is_type_word.ensures ∙ c.if-is_type_word.false) refl) (right (rw (sym c.is_undotted.ensures ∙ c.if-is_undotted.false) refl) (right (rw (sym c.is_dotted.ensures ∙ c.if-is_dotted.false) refl) (right (rw (sym c.is_word.ensures.passes ∙ c.if-is_word.false) refl) (right (rw (sym c.is_word-2.ensures.passes ∙ c.if-is_word-2.false) refl) (left (rw (sym c.is_word-3.ensures.passes ∙ c.if-is_word-3.true) refl) c.shaped.ensures))))))

pub type_forms::plain_node-returns-then-is_word-4 : goal.type_forms::plain_node-returns-then-is_word-4
type_forms::plain_node-returns-then-is_word-4 g t c = (right (rw (sym c.is_type_word.ensures ∙ c.if-is_type_word.false) refl) (right (rw (sym c.is_undotted.ensures ∙ c.if-is_undotted.false) refl) (right (rw (sym c.is_dotted.ensures ∙ c.if-is_dotted.false) refl) (right (rw (sym c.is_word.ensures.passes ∙ c.if-is_word.false) refl) (right (rw (sym c.is_word-2.ensures.passes ∙ c.if-is_word-2.false) refl) (right (rw (sym c.is_word-3.ensures.passes ∙ c.if-is_word-3.false) refl) (left (rw (sym c.is_word-4.ensures.passes ∙ c.if-is_word-4.true) refl) c.shaped-then-is_word-4.ensures)))))))

pub type_forms::plain_node-returns : goal.type_forms::plain_node-returns
type_forms::plain_node-returns g t c = (right (rw (sym c.is_type_word.ensures ∙ c.if-is_type_word.false) refl) (right (rw (sym c.is_undotted.ensures ∙ c.if-is_undotted.false) refl) (right (rw (sym c.is_dotted.ensures ∙ c.if-is_dotted.false) refl) (right (rw (sym c.is_word.ensures.passes ∙ c.if-is_word.false) refl) (right (rw (sym c.is_word-2.ensures.passes ∙ c.if-is_word-2.false) refl) (right (rw (sym c.is_word-3.ensures.passes ∙ c.if-is_word-3.false) refl) (right (rw (sym c.is_word-4.ensures.passes ∙ c.if-is_word-4.false) refl) c.shaped-2.ensures)))))))

pub attribute_forms::attr_node-returns-in_err-word : goal.attribute_forms::attr_node-returns-in_err-word
attribute_forms::attr_node-returns-in_err-word g t c = exit c.from_residual.ensures (left (sym c.is_attr_word.ensures ∙ c.if-is_attr_word.true) (made-err (at-words (codes "true") (codes "false" ∷ codes "unit" ∷ []) (sym c.is_attr_word.ensures ∙ c.if-is_attr_word.true) c.in_err-word.ensures)))

pub attribute_forms::attr_node-returns-then-is_attr_word : goal.attribute_forms::attr_node-returns-then-is_attr_word
attribute_forms::attr_node-returns-then-is_attr_word g t c = (left (sym c.is_attr_word.ensures ∙ c.if-is_attr_word.true) (made-ok (at-words (codes "true") (codes "false" ∷ codes "unit" ∷ []) (sym c.is_attr_word.ensures ∙ c.if-is_attr_word.true) c.in_ok-word.ensures)))

pub attribute_forms::attr_node-returns-in_err-bytes : goal.attribute_forms::attr_node-returns-in_err-bytes
attribute_forms::attr_node-returns-in_err-bytes g t c = exit c.from_residual-in_err-bytes.ensures (right (rw (sym c.is_attr_word.ensures ∙ c.if-is_attr_word.false) refl) (left (sym c.is_class.ensures.passes ∙ c.if-is_class.true) (made-err (at-tok c.in_err-bytes.ensures))))

pub attribute_forms::attr_node-returns-then-is_class : goal.attribute_forms::attr_node-returns-then-is_class
attribute_forms::attr_node-returns-then-is_class g t c = (right (rw (sym c.is_attr_word.ensures ∙ c.if-is_attr_word.false) refl) (left (sym c.is_class.ensures.passes ∙ c.if-is_class.true) (made-ok (at-tok c.in_ok-bytes.ensures))))

pub attribute_forms::attr_node-returns-then-is_class-2 : goal.attribute_forms::attr_node-returns-then-is_class-2
attribute_forms::attr_node-returns-then-is_class-2 g t c = (right (rw (sym c.is_attr_word.ensures ∙ c.if-is_attr_word.false) refl) (right (rw (sym c.is_class.ensures.passes ∙ c.if-is_class.false) refl) (left (rw (sym c.is_class-2.ensures.passes ∙ c.if-is_class-2.true) refl) (c.symbol.ensures _))))

pub attribute_forms::attr_node-returns-then-begins_number : goal.attribute_forms::attr_node-returns-then-begins_number
attribute_forms::attr_node-returns-then-begins_number g t c = (right (rw (sym c.is_attr_word.ensures ∙ c.if-is_attr_word.false) refl) (right (rw (sym c.is_class.ensures.passes ∙ c.if-is_class.false) refl) (right (rw (sym c.is_class-2.ensures.passes ∙ c.if-is_class-2.false) refl) (left (sym c.begins_number.ensures ∙ c.if-begins_number.true) c.number.ensures))))

pub attribute_forms::attr_node-returns-then-is_class-3 : goal.attribute_forms::attr_node-returns-then-is_class-3
attribute_forms::attr_node-returns-then-is_class-3 g t c = (right (rw (sym c.is_attr_word.ensures ∙ c.if-is_attr_word.false) refl) (right (rw (sym c.is_class.ensures.passes ∙ c.if-is_class.false) refl) (right (rw (sym c.is_class-2.ensures.passes ∙ c.if-is_class-2.false) refl) (right (rw (sym c.begins_number.ensures ∙ c.if-begins_number.false) refl) (left (rw (sym c.is_class-3.ensures.passes ∙ c.if-is_class-3.true) refl) c.array.ensures)))))

pub attribute_forms::attr_node-returns-then-is_class-4 : goal.attribute_forms::attr_node-returns-then-is_class-4
attribute_forms::attr_node-returns-then-is_class-4 g t c = (right (rw (sym c.is_attr_word.ensures ∙ c.if-is_attr_word.false) refl) (right (rw (sym c.is_class.ensures.passes ∙ c.if-is_class.false) refl) (right (rw (sym c.is_class-2.ensures.passes ∙ c.if-is_class-2.false) refl) (right (rw (sym c.begins_number.ensures ∙ c.if-begins_number.false) refl) (right (rw (sym c.is_class-3.ensures.passes ∙ c.if-is_class-3.false) refl) (left (rw (sym c.is_class-4.ensures.passes ∙ c.if-is_class-4.true) refl) c.dict.ensures))))))

pub attribute_forms::attr_node-returns-in_err-name : goal.attribute_forms::attr_node-returns-in_err-name
attribute_forms::attr_node-returns-in_err-name g t c = exit c.from_residual-in_err-name.ensures (right (rw (sym c.is_attr_word.ensures ∙ c.if-is_attr_word.false) refl) (right (rw (sym c.is_class.ensures.passes ∙ c.if-is_class.false) refl) (right (rw (sym c.is_class-2.ensures.passes ∙ c.if-is_class-2.false) refl) (right (rw (sym c.begins_number.ensures ∙ c.if-begins_number.false) refl) (right (rw (sym c.is_class-3.ensures.passes ∙ c.if-is_class-3.false) refl) (right (rw (sym c.is_class-4.ensures.passes ∙ c.if-is_class-4.false) refl) (left (sym c.is_undotted.ensures ∙ c.if-is_undotted.true) (made-err (at-look (undotted cls.AttrName) (sym c.is_undotted.ensures ∙ c.if-is_undotted.true) c.in_err-name.ensures)))))))))

pub attribute_forms::attr_node-returns-then-is_undotted : goal.attribute_forms::attr_node-returns-then-is_undotted
attribute_forms::attr_node-returns-then-is_undotted g t c = (right (rw (sym c.is_attr_word.ensures ∙ c.if-is_attr_word.false) refl) (right (rw (sym c.is_class.ensures.passes ∙ c.if-is_class.false) refl) (right (rw (sym c.is_class-2.ensures.passes ∙ c.if-is_class-2.false) refl) (right (rw (sym c.begins_number.ensures ∙ c.if-begins_number.false) refl) (right (rw (sym c.is_class-3.ensures.passes ∙ c.if-is_class-3.false) refl) (right (rw (sym c.is_class-4.ensures.passes ∙ c.if-is_class-4.false) refl) (left (sym c.is_undotted.ensures ∙ c.if-is_undotted.true) (made-ok (at-look (undotted cls.AttrName) (sym c.is_undotted.ensures ∙ c.if-is_undotted.true) c.in_ok-name.ensures)))))))))

pub attribute_forms::attr_node-returns-in_err-name-2 : goal.attribute_forms::attr_node-returns-in_err-name-2
attribute_forms::attr_node-returns-in_err-name-2 g t c = exit c.from_residual-in_err-name-2.ensures (right (rw (sym c.is_attr_word.ensures ∙ c.if-is_attr_word.false) refl) (right (rw (sym c.is_class.ensures.passes ∙ c.if-is_class.false) refl) (right (rw (sym c.is_class-2.ensures.passes ∙ c.if-is_class-2.false) refl) (right (rw (sym c.begins_number.ensures ∙ c.if-begins_number.false) refl) (right (rw (sym c.is_class-3.ensures.passes ∙ c.if-is_class-3.false) refl) (right (rw (sym c.is_class-4.ensures.passes ∙ c.if-is_class-4.false) refl) (right (rw (sym c.is_undotted.ensures ∙ c.if-is_undotted.false) refl) (left (rw (sym c.is_dotted.ensures ∙ c.if-is_dotted.true) refl) (made-err (both-first (at-look (dotted cls.AttrName) (sym c.is_dotted.ensures ∙ c.if-is_dotted.true) c.in_err-name-2.ensures)))))))))))

pub attribute_forms::attr_node-returns-in_err-args : goal.attribute_forms::attr_node-returns-in_err-args
attribute_forms::attr_node-returns-in_err-args g t c = exit c.from_residual-in_err-args.ensures (right (rw (sym c.is_attr_word.ensures ∙ c.if-is_attr_word.false) refl) (right (rw (sym c.is_class.ensures.passes ∙ c.if-is_class.false) refl) (right (rw (sym c.is_class-2.ensures.passes ∙ c.if-is_class-2.false) refl) (right (rw (sym c.begins_number.ensures ∙ c.if-begins_number.false) refl) (right (rw (sym c.is_class-3.ensures.passes ∙ c.if-is_class-3.false) refl) (right (rw (sym c.is_class-4.ensures.passes ∙ c.if-is_class-4.false) refl) (right (rw (sym c.is_undotted.ensures ∙ c.if-is_undotted.false) refl) (left (rw (sym c.is_dotted.ensures ∙ c.if-is_dotted.true) refl) (made-err (both-second (at-look (dotted cls.AttrName) (sym c.is_dotted.ensures ∙ c.if-is_dotted.true) c.in_ok-name-2.ensures) c.in_err-args.ensures))))))))))

pub attribute_forms::attr_node-returns-then-is_dotted : goal.attribute_forms::attr_node-returns-then-is_dotted
attribute_forms::attr_node-returns-then-is_dotted g t c = (right (rw (sym c.is_attr_word.ensures ∙ c.if-is_attr_word.false) refl) (right (rw (sym c.is_class.ensures.passes ∙ c.if-is_class.false) refl) (right (rw (sym c.is_class-2.ensures.passes ∙ c.if-is_class-2.false) refl) (right (rw (sym c.begins_number.ensures ∙ c.if-begins_number.false) refl) (right (rw (sym c.is_class-3.ensures.passes ∙ c.if-is_class-3.false) refl) (right (rw (sym c.is_class-4.ensures.passes ∙ c.if-is_class-4.false) refl) (right (rw (sym c.is_undotted.ensures ∙ c.if-is_undotted.false) refl) (left (rw (sym c.is_dotted.ensures ∙ c.if-is_dotted.true) refl) (made-ok (both-ok (at-look (dotted cls.AttrName) (sym c.is_dotted.ensures ∙ c.if-is_dotted.true) c.in_ok-name-2.ensures) c.in_ok-args.ensures))))))))))

pub attribute_forms::attr_node-returns : goal.attribute_forms::attr_node-returns
attribute_forms::attr_node-returns g t c = (right (rw (sym c.is_attr_word.ensures ∙ c.if-is_attr_word.false) refl) (right (rw (sym c.is_class.ensures.passes ∙ c.if-is_class.false) refl) (right (rw (sym c.is_class-2.ensures.passes ∙ c.if-is_class-2.false) refl) (right (rw (sym c.begins_number.ensures ∙ c.if-begins_number.false) refl) (right (rw (sym c.is_class-3.ensures.passes ∙ c.if-is_class-3.false) refl) (right (rw (sym c.is_class-4.ensures.passes ∙ c.if-is_class-4.false) refl) (right (rw (sym c.is_undotted.ensures ∙ c.if-is_undotted.false) refl) (right (rw (sym c.is_dotted.ensures ∙ c.if-is_dotted.false) refl) (c.dense.ensures _)))))))))

pub type_forms::tuple-returns-in_err-expect_word : goal.type_forms::tuple-returns-in_err-expect_word
type_forms::tuple-returns-in_err-expect_word g t c = exit c.from_residual.ensures (made-err (both-first (at-tok c.in_err-expect_word.ensures.took)))

pub type_forms::tuple-returns-in_err-expect : goal.type_forms::tuple-returns-in_err-expect
type_forms::tuple-returns-in_err-expect g t c = exit c.from_residual-in_err-expect.ensures (made-err (both-second (at-tok c.in_ok-expect_word.ensures.took) (both-first (at-tok c.in_err-expect.ensures.took))))

pub type_forms::tuple-returns-in_err-items : goal.type_forms::tuple-returns-in_err-items
type_forms::tuple-returns-in_err-items g t c = exit c.from_residual-in_err-items.ensures (made-err (both-second (at-tok c.in_ok-expect_word.ensures.took) (both-second (at-tok c.in_ok-expect.ensures.took) (both-first c.in_err-items.ensures))))

pub type_forms::tuple-returns-in_err-expect-2 : goal.type_forms::tuple-returns-in_err-expect-2
type_forms::tuple-returns-in_err-expect-2 g t c = exit c.from_residual-in_err-expect-2.ensures (made-err (both-second (at-tok c.in_ok-expect_word.ensures.took) (both-second (at-tok c.in_ok-expect.ensures.took) (both-second c.in_ok-items.ensures (at-tok c.in_err-expect-2.ensures.took)))))

pub type_forms::tuple-returns : goal.type_forms::tuple-returns
type_forms::tuple-returns g t c = (made-ok (both-ok (at-tok c.in_ok-expect_word.ensures.took) (both-ok (at-tok c.in_ok-expect.ensures.took) (both-ok c.in_ok-items.ensures (at-tok c.in_ok-expect-2.ensures.took)))))

pub type_forms::complex-returns-in_err-expect_word : goal.type_forms::complex-returns-in_err-expect_word
type_forms::complex-returns-in_err-expect_word g t c = exit c.from_residual.ensures (made-err (both-first (at-tok c.in_err-expect_word.ensures.took)))

pub type_forms::complex-returns-in_err-expect : goal.type_forms::complex-returns-in_err-expect
type_forms::complex-returns-in_err-expect g t c = exit c.from_residual-in_err-expect.ensures (made-err (both-second (at-tok c.in_ok-expect_word.ensures.took) (both-first (at-tok c.in_err-expect.ensures.took))))

pub type_forms::complex-returns-in_err-element : goal.type_forms::complex-returns-in_err-element
type_forms::complex-returns-in_err-element g t c = exit c.from_residual-in_err-element.ensures (made-err (both-second (at-tok c.in_ok-expect_word.ensures.took) (both-second (at-tok c.in_ok-expect.ensures.took) (both-first c.in_err-element.ensures))))

pub type_forms::complex-returns-in_err-expect-2 : goal.type_forms::complex-returns-in_err-expect-2
type_forms::complex-returns-in_err-expect-2 g t c = exit c.from_residual-in_err-expect-2.ensures (made-err (both-second (at-tok c.in_ok-expect_word.ensures.took) (both-second (at-tok c.in_ok-expect.ensures.took) (both-second c.in_ok-element.ensures (at-tok c.in_err-expect-2.ensures.took)))))

pub type_forms::complex-returns-in_err-element-2 : goal.type_forms::complex-returns-in_err-element-2
type_forms::complex-returns-in_err-element-2 g t c = exit c.from_residual-in_err-element-2.ensures (memory-after (made-ok (both-ok (at-tok c.in_ok-expect_word.ensures.took) (both-ok (at-tok c.in_ok-expect.ensures.took) (both-ok c.in_ok-element.ensures (at-tok c.in_ok-expect-2.ensures.took))))))

pub type_forms::complex-returns : goal.type_forms::complex-returns
type_forms::complex-returns g t c = rw c.in_ok-element-2.ensures (made-ok (both-ok (at-tok c.in_ok-expect_word.ensures.took) (both-ok (at-tok c.in_ok-expect.ensures.took) (both-ok c.in_ok-element.ensures (at-tok c.in_ok-expect-2.ensures.took)))))

pub type_forms::shaped-returns-in_err-expect_word : goal.type_forms::shaped-returns-in_err-expect_word
type_forms::shaped-returns-in_err-expect_word g t c = exit c.from_residual.ensures (made-err (both-first (at-tok c.in_err-expect_word.ensures.took)))

pub type_forms::shaped-returns-in_err-expect : goal.type_forms::shaped-returns-in_err-expect
type_forms::shaped-returns-in_err-expect g t c = exit c.from_residual-in_err-expect.ensures (made-err (both-second (at-tok c.in_ok-expect_word.ensures.took) (both-first (at-tok c.in_err-expect.ensures.took))))

pub type_forms::shaped-returns-in_err-dims : goal.type_forms::shaped-returns-in_err-dims
type_forms::shaped-returns-in_err-dims g t c = exit c.from_residual-in_err-dims.ensures (made-err (both-second (at-tok c.in_ok-expect_word.ensures.took) (both-second (at-tok c.in_ok-expect.ensures.took) (both-first (both-first (c.in_err-dims.ensures _))))))

pub type_forms::shaped-returns-in_err-element : goal.type_forms::shaped-returns-in_err-element
type_forms::shaped-returns-in_err-element g t c = exit c.from_residual-in_err-element.ensures (made-err (both-second (at-tok c.in_ok-expect_word.ensures.took) (both-second (at-tok c.in_ok-expect.ensures.took) (both-first (both-second (c.in_ok-dims.ensures _) c.in_err-element.ensures)))))

pub type_forms::shaped-returns-in_err-expect-2 : goal.type_forms::shaped-returns-in_err-expect-2
type_forms::shaped-returns-in_err-expect-2 g t c = exit c.from_residual-in_err-expect-2.ensures (made-err (both-second (at-tok c.in_ok-expect_word.ensures.took) (both-second (at-tok c.in_ok-expect.ensures.took) (both-second (both-ok (c.in_ok-dims.ensures _) c.in_ok-element.ensures) (at-tok c.in_err-expect-2.ensures.took)))))

pub type_forms::shaped-returns-in_err-element-2 : goal.type_forms::shaped-returns-in_err-element-2
type_forms::shaped-returns-in_err-element-2 g t c = exit c.from_residual-in_err-element-2.ensures (memory-after (made-ok (both-ok (at-tok c.in_ok-expect_word.ensures.took) (both-ok (at-tok c.in_ok-expect.ensures.took) (both-ok (both-ok (c.in_ok-dims.ensures _) c.in_ok-element.ensures) (at-tok c.in_ok-expect-2.ensures.took))))))

pub type_forms::shaped-returns : goal.type_forms::shaped-returns
type_forms::shaped-returns g t c = rw c.in_ok-element-2.ensures (made-ok (both-ok (at-tok c.in_ok-expect_word.ensures.took) (both-ok (at-tok c.in_ok-expect.ensures.took) (both-ok (both-ok (c.in_ok-dims.ensures _) c.in_ok-element.ensures) (at-tok c.in_ok-expect-2.ensures.took)))))

pub type_forms::arguments-returns-then-not-is_class : goal.type_forms::arguments-returns-then-not-is_class
type_forms::arguments-returns-then-not-is_class g t c = rw c.new.ensures (right (rw (sym c.is_class.ensures.passes ∙ c.if-not-is_class.true) refl) at-ret)

pub type_forms::arguments-returns-in_err-expect : goal.type_forms::arguments-returns-in_err-expect
type_forms::arguments-returns-in_err-expect g t c = exit c.from_residual.ensures (left (rw (sym c.is_class.ensures.passes ∙ c.if-not-is_class.false) refl) (both-first (at-tok c.in_err-expect.ensures.took)))

pub type_forms::arguments-returns-in_err-args : goal.type_forms::arguments-returns-in_err-args
type_forms::arguments-returns-in_err-args g t c = exit c.from_residual-in_err-args.ensures (left (rw (sym c.is_class.ensures.passes ∙ c.if-not-is_class.false) refl) (both-second (at-tok c.in_ok-expect.ensures.took) (both-first c.in_err-args.ensures)))

pub type_forms::arguments-returns-in_err-expect-2 : goal.type_forms::arguments-returns-in_err-expect-2
type_forms::arguments-returns-in_err-expect-2 g t c = exit c.from_residual-in_err-expect-2.ensures (left (rw (sym c.is_class.ensures.passes ∙ c.if-not-is_class.false) refl) (both-second (at-tok c.in_ok-expect.ensures.took) (both-second c.in_ok-args.ensures (at-tok c.in_err-expect-2.ensures.took))))

pub type_forms::arguments-returns : goal.type_forms::arguments-returns
type_forms::arguments-returns g t c = (left (rw (sym c.is_class.ensures.passes ∙ c.if-not-is_class.false) refl) (both-ok (at-tok c.in_ok-expect.ensures.took) (both-ok c.in_ok-args.ensures (at-tok c.in_ok-expect-2.ensures.took))))

pub type_forms::function-returns-in_err-inputs : goal.type_forms::function-returns-in_err-inputs
type_forms::function-returns-in_err-inputs g t c = exit c.from_residual.ensures (made-err (both-first c.in_err-inputs.ensures))

pub type_forms::function-returns-in_err-expect : goal.type_forms::function-returns-in_err-expect
type_forms::function-returns-in_err-expect g t c = exit c.from_residual-in_err-expect.ensures (made-err (both-second c.in_ok-inputs.ensures (both-first (at-tok c.in_err-expect.ensures.took))))

pub type_forms::function-returns-in_err-outputs : goal.type_forms::function-returns-in_err-outputs
type_forms::function-returns-in_err-outputs g t c = exit c.from_residual-in_err-outputs.ensures (made-err (both-second c.in_ok-inputs.ensures (both-second (at-tok c.in_ok-expect.ensures.took) c.in_err-outputs.ensures)))

pub type_forms::function-returns : goal.type_forms::function-returns
type_forms::function-returns g t c = (made-ok (both-ok c.in_ok-inputs.ensures (both-ok (at-tok c.in_ok-expect.ensures.took) c.in_ok-outputs.ensures)))

pub type_forms::types-returns-in_err-expect : goal.type_forms::types-returns-in_err-expect
type_forms::types-returns-in_err-expect g t c = exit c.from_residual.ensures (both-first (at-tok c.in_err-expect.ensures.took))

pub type_forms::types-returns-in_err-found : goal.type_forms::types-returns-in_err-found
type_forms::types-returns-in_err-found g t c = exit c.from_residual-in_err-found.ensures (both-second (at-tok c.in_ok-expect.ensures.took) (both-first c.in_err-found.ensures))

pub type_forms::types-returns-in_err-expect-2 : goal.type_forms::types-returns-in_err-expect-2
type_forms::types-returns-in_err-expect-2 g t c = exit c.from_residual-in_err-expect-2.ensures (both-second (at-tok c.in_ok-expect.ensures.took) (both-second c.in_ok-found.ensures (at-tok c.in_err-expect-2.ensures.took)))

pub type_forms::types-returns : goal.type_forms::types-returns
type_forms::types-returns g t c = (both-ok (at-tok c.in_ok-expect.ensures.took) (both-ok c.in_ok-found.ensures (at-tok c.in_ok-expect-2.ensures.took)))

pub type_forms::outs-returns-then-is_class : goal.type_forms::outs-returns-then-is_class
type_forms::outs-returns-then-is_class g t c = left (rw (sym c.is_class.ensures.passes ∙ c.if-is_class.true) refl) c.types.ensures

pub type_forms::outs-returns-in_err-value : goal.type_forms::outs-returns-in_err-value
type_forms::outs-returns-in_err-value g t c = exit c.from_residual.ensures (right (rw (sym c.is_class.ensures.passes ∙ c.if-is_class.false) refl) (made-err c.in_err-value.ensures))

pub type_forms::outs-returns-in_err-push : goal.type_forms::outs-returns-in_err-push
type_forms::outs-returns-in_err-push g t c = exit c.from_residual-in_err-push.ensures (right (rw (sym c.is_class.ensures.passes ∙ c.if-is_class.false) refl) (made-err (memory-after c.in_ok-value.ensures)))

pub type_forms::outs-returns : goal.type_forms::outs-returns
type_forms::outs-returns g t c = rw (c.trim.ensures, c.in_ok-push.ensures.ok, c.new-found.ensures) (right (rw (sym c.is_class.ensures.passes ∙ c.if-is_class.false) refl) (made-ok c.in_ok-value.ensures))

pub lists::entry_list-returns-then-not-begins_entry : goal.lists::entry_list-returns-then-not-begins_entry
lists::entry_list-returns-then-not-begins_entry g t c = rw c.new.ensures (right (rw (sym c.begins_entry.ensures ∙ c.if-not-begins_entry.true) refl) at-ret)

pub lists::entry_list-returns : goal.lists::entry_list-returns
lists::entry_list-returns g t c = left (rw (sym c.begins_entry.ensures ∙ c.if-not-begins_entry.false) refl) c.some_entries.ensures

pub lists::some_entries-returns-in_err-entry : goal.lists::some_entries-returns-in_err-entry
lists::some_entries-returns-in_err-entry g t c = exit c.from_residual.ensures (both-first c.in_err-entry.ensures)

pub lists::some_entries-returns-in_err-push : goal.lists::some_entries-returns-in_err-push
lists::some_entries-returns-in_err-push g t c = exit c.from_residual-in_err-push.ensures (both-first (memory-after c.in_ok-entry.ensures))

pub lists::some_entries-each-init : goal.lists::some_entries-each-init
lists::some_entries-each-init g t c = rw (c.in_ok-push.ensures.ok, c.new-found.ensures) (builds-first c.in_ok-entry.ensures)

pub lists::some_entries-returns-in_err-expect : goal.lists::some_entries-returns-in_err-expect
lists::some_entries-returns-in_err-expect g t c = exit c.from_residual-in_err-expect.ensures (builds-err (rw (sym c.is_class.ensures.passes ∙ c.each-test.true) refl) (c.each.invariant) (both-first (at-tok c.in_err-expect.ensures.took)))

pub lists::some_entries-returns-in_err-entry-2 : goal.lists::some_entries-returns-in_err-entry-2
lists::some_entries-returns-in_err-entry-2 g t c = exit c.from_residual-in_err-entry-2.ensures (builds-err (rw (sym c.is_class.ensures.passes ∙ c.each-test.true) refl) (c.each.invariant) (both-second (at-tok c.in_ok-expect.ensures.took) c.in_err-entry-2.ensures))

pub lists::some_entries-each-preserved : goal.lists::some_entries-each-preserved
lists::some_entries-each-preserved g t c = rw c.in_ok-push-2.ensures.ok (builds-on (values-fit _) refl (rw (sym c.is_class.ensures.passes ∙ c.each-test.true) refl) (c.each.invariant) (both-ok (at-tok c.in_ok-expect.ensures.took) c.in_ok-entry-2.ensures))

pub lists::some_entries-returns-in_err-push-2 : goal.lists::some_entries-returns-in_err-push-2
lists::some_entries-returns-in_err-push-2 g t c = exit c.from_residual-in_err-push-2.ensures (builds-memory (values-fit _) refl (rw (sym c.is_class.ensures.passes ∙ c.each-test.true) refl) (c.each.invariant) (both-ok (at-tok c.in_ok-expect.ensures.took) c.in_ok-entry-2.ensures))

pub lists::some_entries-each-smaller : goal.lists::some_entries-each-smaller
lists::some_entries-each-smaller g t c = omega (arith, c.in_ok-expect.ensures.took.ran.less, c.in_ok-entry-2.ensures.ran.less)

pub lists::some_entries-returns : goal.lists::some_entries-returns
lists::some_entries-returns g t c = rw c.trim.ensures (builds-end (rw (sym c.is_class.ensures.passes ∙ c.each-test.false) refl) (c.each.invariant))

pub attribute_forms::number-returns-in_err-negative : goal.attribute_forms::number-returns-in_err-negative
attribute_forms::number-returns-in_err-negative g t c = exit c.from_residual.ensures (made-err (both-first (both-first (c.in_err-negative.ensures _))))

pub attribute_forms::number-returns-in_err-digits : goal.attribute_forms::number-returns-in_err-digits
attribute_forms::number-returns-in_err-digits g t c = exit c.from_residual-in_err-digits.ensures (made-err (both-first (both-second (c.in_ok-negative.ensures _) (at-tok c.in_err-digits.ensures))))

pub attribute_forms::number-returns-in_err-ty : goal.attribute_forms::number-returns-in_err-ty
attribute_forms::number-returns-in_err-ty g t c = exit c.from_residual-in_err-ty.ensures (made-err (both-second (both-ok (c.in_ok-negative.ensures _) (at-tok c.in_ok-digits.ensures)) c.in_err-ty.ensures))

pub attribute_forms::number-returns : goal.attribute_forms::number-returns
attribute_forms::number-returns g t c = (made-ok (both-ok (both-ok (c.in_ok-negative.ensures _) (at-tok c.in_ok-digits.ensures)) c.in_ok-ty.ensures))

pub attribute_forms::type_behind-returns-then-not-is_class : goal.attribute_forms::type_behind-returns-then-not-is_class
attribute_forms::type_behind-returns-then-not-is_class g t c = (right (rw (sym c.is_class.ensures.passes ∙ c.if-not-is_class.true) refl) at-ret)

pub attribute_forms::type_behind-returns-in_err-expect : goal.attribute_forms::type_behind-returns-in_err-expect
attribute_forms::type_behind-returns-in_err-expect g t c = exit c.from_residual.ensures (left (rw (sym c.is_class.ensures.passes ∙ c.if-not-is_class.false) refl) (made-err (both-first (at-tok c.in_err-expect.ensures.took))))

pub attribute_forms::type_behind-returns-in_err-ty : goal.attribute_forms::type_behind-returns-in_err-ty
attribute_forms::type_behind-returns-in_err-ty g t c = exit c.from_residual-in_err-ty.ensures (left (rw (sym c.is_class.ensures.passes ∙ c.if-not-is_class.false) refl) (made-err (both-second (at-tok c.in_ok-expect.ensures.took) c.in_err-ty.ensures)))

pub attribute_forms::type_behind-returns-in_err-ty-2 : goal.attribute_forms::type_behind-returns-in_err-ty-2
attribute_forms::type_behind-returns-in_err-ty-2 g t c = exit c.from_residual-in_err-ty-2.ensures (memory-after (left (rw (sym c.is_class.ensures.passes ∙ c.if-not-is_class.false) refl) (made-ok (both-ok (at-tok c.in_ok-expect.ensures.took) c.in_ok-ty.ensures))))

pub attribute_forms::type_behind-returns : goal.attribute_forms::type_behind-returns
attribute_forms::type_behind-returns g t c = rw c.in_ok-ty-2.ensures (left (rw (sym c.is_class.ensures.passes ∙ c.if-not-is_class.false) refl) (made-ok (both-ok (at-tok c.in_ok-expect.ensures.took) c.in_ok-ty.ensures)))

pub attribute_forms::array-returns-in_err-expect : goal.attribute_forms::array-returns-in_err-expect
attribute_forms::array-returns-in_err-expect g t c = exit c.from_residual.ensures (made-err (both-first (at-tok c.in_err-expect.ensures.took)))

pub attribute_forms::array-returns-in_err-items : goal.attribute_forms::array-returns-in_err-items
attribute_forms::array-returns-in_err-items g t c = exit c.from_residual-in_err-items.ensures (made-err (both-second (at-tok c.in_ok-expect.ensures.took) (both-first c.in_err-items.ensures)))

pub attribute_forms::array-returns-in_err-expect-2 : goal.attribute_forms::array-returns-in_err-expect-2
attribute_forms::array-returns-in_err-expect-2 g t c = exit c.from_residual-in_err-expect-2.ensures (made-err (both-second (at-tok c.in_ok-expect.ensures.took) (both-second c.in_ok-items.ensures (at-tok c.in_err-expect-2.ensures.took))))

pub attribute_forms::array-returns : goal.attribute_forms::array-returns
attribute_forms::array-returns g t c = (made-ok (both-ok (at-tok c.in_ok-expect.ensures.took) (both-ok c.in_ok-items.ensures (at-tok c.in_ok-expect-2.ensures.took))))

pub attribute_forms::dict-returns-in_err-found : goal.attribute_forms::dict-returns-in_err-found
attribute_forms::dict-returns-in_err-found g t c = exit c.from_residual.ensures (made-err c.in_err-found.ensures)

pub attribute_forms::dict-returns : goal.attribute_forms::dict-returns
attribute_forms::dict-returns g t c = (made-ok c.in_ok-found.ensures)

pub attribute_forms::entries-returns-in_err-expect : goal.attribute_forms::entries-returns-in_err-expect
attribute_forms::entries-returns-in_err-expect g t c = exit c.from_residual.ensures (both-first (at-tok c.in_err-expect.ensures.took))

pub attribute_forms::entries-returns-in_err-found : goal.attribute_forms::entries-returns-in_err-found
attribute_forms::entries-returns-in_err-found g t c = exit c.from_residual-in_err-found.ensures (both-second (at-tok c.in_ok-expect.ensures.took) (both-first c.in_err-found.ensures))

pub attribute_forms::entries-returns-in_err-expect-2 : goal.attribute_forms::entries-returns-in_err-expect-2
attribute_forms::entries-returns-in_err-expect-2 g t c = exit c.from_residual-in_err-expect-2.ensures (both-second (at-tok c.in_ok-expect.ensures.took) (both-second c.in_ok-found.ensures (at-tok c.in_err-expect-2.ensures.took)))

pub attribute_forms::entries-returns : goal.attribute_forms::entries-returns
attribute_forms::entries-returns g t c = (both-ok (at-tok c.in_ok-expect.ensures.took) (both-ok c.in_ok-found.ensures (at-tok c.in_ok-expect-2.ensures.took)))

pub attribute_forms::entry-returns-in_err-key : goal.attribute_forms::entry-returns-in_err-key
attribute_forms::entry-returns-in_err-key g t c = exit c.from_residual.ensures (placed-err (both-first c.in_err-key.ensures))

pub attribute_forms::entry-returns-in_err-value : goal.attribute_forms::entry-returns-in_err-value
attribute_forms::entry-returns-in_err-value g t c = exit c.from_residual-in_err-value.ensures (placed-err (both-second c.in_ok-key.ensures c.in_err-value.ensures))

pub attribute_forms::entry-returns : goal.attribute_forms::entry-returns
attribute_forms::entry-returns g t c = rw c.place-place.ensures (placed-ok (both-ok c.in_ok-key.ensures c.in_ok-value.ensures))

pub attribute_forms::value_behind-returns-then-not-is_class : goal.attribute_forms::value_behind-returns-then-not-is_class
attribute_forms::value_behind-returns-then-not-is_class g t c = (right (rw (sym c.is_class.ensures.passes ∙ c.if-not-is_class.true) refl) at-ret)

pub attribute_forms::value_behind-returns-in_err-expect : goal.attribute_forms::value_behind-returns-in_err-expect
attribute_forms::value_behind-returns-in_err-expect g t c = exit c.from_residual.ensures (left (rw (sym c.is_class.ensures.passes ∙ c.if-not-is_class.false) refl) (made-err (both-first (at-tok c.in_err-expect.ensures.took))))

pub attribute_forms::value_behind-returns-in_err-value : goal.attribute_forms::value_behind-returns-in_err-value
attribute_forms::value_behind-returns-in_err-value g t c = exit c.from_residual-in_err-value.ensures (left (rw (sym c.is_class.ensures.passes ∙ c.if-not-is_class.false) refl) (made-err (both-second (at-tok c.in_ok-expect.ensures.took) c.in_err-value.ensures)))

pub attribute_forms::value_behind-returns : goal.attribute_forms::value_behind-returns
attribute_forms::value_behind-returns g t c = (left (rw (sym c.is_class.ensures.passes ∙ c.if-not-is_class.false) refl) (made-ok (both-ok (at-tok c.in_ok-expect.ensures.took) c.in_ok-value.ensures)))
