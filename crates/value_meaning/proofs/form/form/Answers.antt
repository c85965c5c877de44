use Rattle.std.proofs.Common.{◌∙◌, ap, sym, true, false, length, nat_lt, is_some}
use Rattle.std.specs.declared.option.Option.TheVariants.{Some}
use Rattle.std.specs.declared.result.Result.TheVariants.{Ok}
use Rattle.attr_value.specs.declared.head.Head.TheVariants as h
use Rattle.generic_syntax.specs.declared.cst.ValueNode.TheVariants as node
use Rattle.value_meaning.specs.Meaning.{seen_alias, seen_dense, seen_form, seen_leaf}
use Rattle.value_meaning.specs.Spelled.{word_head}
use Rattle.value_meaning.proofs.Forms.{form-array, form-complex, form-dialect, form-dict, form-function}
use Rattle.value_meaning.proofs.Forms.{form-leaf, form-number, form-plain, form-same, form-shaped, form-tuple}
use Rattle.value_meaning.proofs.Trees.{seen-attr_alias, seen-dense, seen-str, seen-symbol}
use Rattle.value_meaning.proofs.Trees.{seen-type_alias, seen-word}
use Rattle.value_meaning.proofs.form.form.Goals as goal

pub number-requires : goal.number-requires
number-requires g c = record { known = c.type_of.ensures.known _ c.requires.known }

pub returns-in-Word-clause-judged : goal.returns-in-Word-clause-judged
returns-in-Word-clause-judged g c =
    form-same _ c.args.nesting c.args.u.now c.args.kids c.args.place
    c.word.new.u c.word.result
    (node.Word c.in-Word.text) c.args.node.now
    (c.in-Word.is)
    (form-plain _ c.args.nesting c.args.u.now c.args.kids c.args.place
    c.word.new.u c.word.result
    (node.Word c.in-Word.text) (seen_form (word_head c.in-Word.text) (is_some (word_head c.in-Word.text))) (λ al. seen-word al c.in-Word.text)
    c.word.ensures.judged)

pub returns-in-TypeAlias-clause-judged : goal.returns-in-TypeAlias-clause-judged
returns-in-TypeAlias-clause-judged g c =
    form-same _ {E = Unit {0}} c.args.nesting c.args.u.now c.args.kids c.args.place
    c.args.u.now (Ok c.mention.result)
    (node.TypeAlias c.in-TypeAlias.name) c.args.node.now
    (c.in-TypeAlias.is)
    (form-leaf _ {E = Unit {0}} c.args.nesting c.args.u.now c.args.kids c.args.place
    c.args.u.now (Ok c.mention.result)
    (node.TypeAlias c.in-TypeAlias.name) (λ al. seen_alias (al true c.in-TypeAlias.name)) (λ al. seen-type_alias al c.in-TypeAlias.name)
    c.mention.ensures.judged)

pub returns-in-AttrAlias-clause-judged : goal.returns-in-AttrAlias-clause-judged
returns-in-AttrAlias-clause-judged g c =
    form-same _ {E = Unit {0}} c.args.nesting c.args.u.now c.args.kids c.args.place
    c.args.u.now (Ok c.mention-in-AttrAlias.result)
    (node.AttrAlias c.in-AttrAlias.name) c.args.node.now
    (c.in-AttrAlias.is)
    (form-leaf _ {E = Unit {0}} c.args.nesting c.args.u.now c.args.kids c.args.place
    c.args.u.now (Ok c.mention-in-AttrAlias.result)
    (node.AttrAlias c.in-AttrAlias.name) (λ al. seen_alias (al false c.in-AttrAlias.name)) (λ al. seen-attr_alias al c.in-AttrAlias.name)
    c.mention-in-AttrAlias.ensures.judged)

pub returns-in-Dialect-clause-judged : goal.returns-in-Dialect-clause-judged
returns-in-Dialect-clause-judged g c =
    form-same _ c.args.nesting c.args.u.now c.args.kids c.args.place
    c.dialect.new.u c.dialect.result
    (node.Dialect c.in-Dialect.is_type c.in-Dialect.name c.in-Dialect.args) c.args.node.now
    (c.in-Dialect.is)
    (form-dialect _ c.args.nesting c.args.u.now c.args.kids c.args.place
    c.dialect.new.u c.dialect.result
    c.in-Dialect.is_type c.in-Dialect.name c.in-Dialect.args c.dialect.ensures.judged)

pub returns-in-Function-clause-judged : goal.returns-in-Function-clause-judged
returns-in-Function-clause-judged g c =
    form-same _ c.args.nesting c.args.u.now c.args.kids c.args.place
    c.of_types.new.u c.of_types.result
    (node.Function c.in-Function.inputs c.in-Function.outputs) c.args.node.now
    (c.in-Function.is)
    (form-function _ c.args.nesting c.args.u.now c.args.kids c.args.place
    c.of_types.new.u c.of_types.result
    c.in-Function.inputs c.in-Function.outputs c.len-inputs.result c.len-inputs.ensures
    c.of_types.ensures.judged)

pub returns-in-Tuple-clause-judged : goal.returns-in-Tuple-clause-judged
returns-in-Tuple-clause-judged g c =
    form-same _ c.args.nesting c.args.u.now c.args.kids c.args.place
    c.of_types-in-Tuple.new.u c.of_types-in-Tuple.result
    (node.Tuple c.in-Tuple.field-0) c.args.node.now
    (c.in-Tuple.is)
    (form-tuple _ c.args.nesting c.args.u.now c.args.kids c.args.place
    c.of_types-in-Tuple.new.u c.of_types-in-Tuple.result
    c.in-Tuple.field-0 c.of_types-in-Tuple.ensures.judged)

pub returns-in-Shaped-clause-judged : goal.returns-in-Shaped-clause-judged
returns-in-Shaped-clause-judged g c =
    form-same _ c.args.nesting c.args.u.now c.args.kids c.args.place
    c.shape.new.u c.shape.result
    (node.Shaped c.in-Shaped.kind c.as_slice.result.now c.in-Shaped.element) c.args.node.now
    (c.in-Shaped.is
    ∙ ap (λ l. node.Shaped c.in-Shaped.kind l c.in-Shaped.element) (sym c.as_slice.ensures))
    (form-shaped _ c.args.nesting c.args.u.now c.args.kids c.args.place
    c.shape.new.u c.shape.result
    c.in-Shaped.kind c.as_slice.result.now c.in-Shaped.element c.shape.ensures.judged)

pub returns-in-Complex-clause-judged : goal.returns-in-Complex-clause-judged
returns-in-Complex-clause-judged g c =
    form-same _ c.args.nesting c.args.u.now c.args.kids c.args.place
    c.of_types-in-Complex.new.u c.of_types-in-Complex.result
    (node.Complex c.in-Complex.field-0) c.args.node.now
    (c.in-Complex.is)
    (form-complex _ c.args.nesting c.args.u.now c.args.kids c.args.place
    c.of_types-in-Complex.new.u c.of_types-in-Complex.result
    c.in-Complex.field-0 c.of_types-in-Complex.ensures.judged)

pub returns-in-Number-clause-judged : goal.returns-in-Number-clause-judged
returns-in-Number-clause-judged g c =
    form-same _ c.args.nesting c.args.u.now c.args.kids c.args.place
    c.number.new.u c.number.result
    (node.Number c.in-Number.negative c.in-Number.digits c.in-Number.ty) c.args.node.now
    (c.in-Number.is)
    (form-number _ c.args.nesting c.args.u.now c.args.kids c.args.place
    c.number.new.u c.number.result
    c.in-Number.negative c.in-Number.digits c.in-Number.ty c.type_of.result
    (c.type_of.ensures.typed ∙ c.is_some.ensures) c.type_of.ensures.only c.number.ensures.judged)

pub returns-in-Str-clause-judged : goal.returns-in-Str-clause-judged
returns-in-Str-clause-judged g c =
    form-same _ c.args.nesting c.args.u.now c.args.kids c.args.place
    c.string.new.u c.string.result
    (node.Str c.in-Str.bytes) c.args.node.now
    (c.in-Str.is)
    (form-plain _ c.args.nesting c.args.u.now c.args.kids c.args.place
    c.string.new.u c.string.result
    (node.Str c.in-Str.bytes) (seen_leaf (h.Str c.in-Str.bytes)) (λ al. seen-str al c.in-Str.bytes)
    c.string.ensures.judged)

pub returns-in-Array-clause-judged : goal.returns-in-Array-clause-judged
returns-in-Array-clause-judged g c =
    form-same _ c.args.nesting c.args.u.now c.args.kids c.args.place
    c.made.new.u c.made.result
    (node.Array c.in-Array.field-0) c.args.node.now
    (c.in-Array.is)
    (form-array _ c.args.nesting c.args.u.now c.args.kids c.args.place
    c.made.new.u c.made.result
    c.in-Array.field-0 c.made.ensures.judged)

pub returns-in-Dict-clause-judged : goal.returns-in-Dict-clause-judged
returns-in-Dict-clause-judged g c =
    form-same _ c.args.nesting c.args.u.now c.args.kids c.args.place
    c.dict.new.u c.dict.result
    (node.Dict c.as_slice-in-Dict.result.now) c.args.node.now
    (c.in-Dict.is ∙ ap node.Dict (sym c.as_slice-in-Dict.ensures))
    (form-dict _ c.args.nesting c.args.u.now c.args.kids c.args.place
    c.dict.new.u c.dict.result
    c.as_slice-in-Dict.result.now c.dict.ensures.judged)

pub returns-in-Symbol-clause-judged : goal.returns-in-Symbol-clause-judged
returns-in-Symbol-clause-judged g c =
    form-same _ c.args.nesting c.args.u.now c.args.kids c.args.place
    c.symbol.new.u c.symbol.result
    (node.Symbol c.as_slice-in-Symbol.result.now) c.args.node.now
    (c.in-Symbol.is ∙ ap node.Symbol (sym c.as_slice-in-Symbol.ensures))
    (form-plain _ c.args.nesting c.args.u.now c.args.kids c.args.place
    c.symbol.new.u c.symbol.result
    (node.Symbol c.as_slice-in-Symbol.result.now) (seen_form (Some (h.Symbol c.as_slice-in-Symbol.result.now))
    (nat_lt 0 (length c.as_slice-in-Symbol.result.now))) (λ al. seen-symbol al c.as_slice-in-Symbol.result.now)
    c.symbol.ensures.judged)

pub returns-in-Dense-clause-judged : goal.returns-in-Dense-clause-judged
returns-in-Dense-clause-judged g c =
    form-same _ c.args.nesting c.args.u.now c.args.kids c.args.place
    c.dense.new.u c.dense.result
    (node.Dense c.in-Dense.width c.as_slice-in-Dense.result.now) c.args.node.now
    (c.in-Dense.is
    ∙ ap (node.Dense c.in-Dense.width) (sym c.as_slice-in-Dense.ensures))
    (form-plain _ c.args.nesting c.args.u.now c.args.kids c.args.place
    c.dense.new.u c.dense.result
    (node.Dense c.in-Dense.width c.as_slice-in-Dense.result.now) (seen_dense c.in-Dense.width c.as_slice-in-Dense.result.now) (λ al. seen-dense al c.in-Dense.width c.as_slice-in-Dense.result.now)
    c.dense.ensures.judged)
