use Rattle.std.proofs.Common.{◌∙◌, ◌∷◌, [], ap, sym}
use Rattle.std.specs.Prelude.{slice_get}
use Rattle.generic_syntax.specs.declared.cst.ValueNode.TheVariants as node
use Rattle.value_meaning.specs.KidsSeen.{kids_seen}
use Rattle.value_meaning.specs.Meaning.{seen}
use Rattle.value_meaning.proofs.KidAt.{tree-at, tree-past, input-at, output-at, output-past}
use Rattle.value_meaning.proofs.KidAt.{entry-past, value-at, unit-at, no-kids}
use Rattle.value_meaning.proofs.KidsOf.{kids-dialect, kids-function, kids-tuple, kids-array}
use Rattle.value_meaning.proofs.KidsOf.{kids-shaped, kids-complex, kids-number, kids-number_plain}
use Rattle.value_meaning.proofs.KidsOf.{kids-dict}
use Rattle.value_meaning.proofs.kid.kid_at.Goals as goal

pub returns-in_err-get-in-Dialect-clause-kid : goal.returns-in_err-get-in-Dialect-clause-kid
returns-in_err-get-in-Dialect-clause-kid c = λ al. rw c.from_residual.ensures
    (tree-past al c.args.node.now c.args.i c.in-Dialect.args
    (ap (kids_seen al) c.in-Dialect.is ∙ kids-dialect al c.in-Dialect.is_type c.in-Dialect.name c.in-Dialect.args)
    c.as_slice.result.now c.as_slice.ensures
    c.in_err-get-in-Dialect.ensures.lookup)

pub returns-in_ok-get-in-Dialect-clause-kid : goal.returns-in_ok-get-in-Dialect-clause-kid
returns-in_ok-get-in-Dialect-clause-kid c = λ al.
    tree-at al c.args.node.now c.args.i c.in-Dialect.args
    (ap (kids_seen al) c.in-Dialect.is ∙ kids-dialect al c.in-Dialect.is_type c.in-Dialect.name c.in-Dialect.args)
    c.as_slice.result.now c.as_slice.ensures
    c.in_ok-get-in-Dialect.field-0 c.in_ok-get-in-Dialect.ensures.lookup

pub returns-in_err-get-in-Tuple-clause-kid : goal.returns-in_err-get-in-Tuple-clause-kid
returns-in_err-get-in-Tuple-clause-kid c = λ al. rw c.from_residual-in_err-get-in-Tuple.ensures
    (tree-past al c.args.node.now c.args.i c.in-Tuple.trees
    (ap (kids_seen al) c.in-Tuple.is ∙ kids-tuple al c.in-Tuple.trees)
    c.as_slice-in-Tuple.result.now c.as_slice-in-Tuple.ensures
    c.in_err-get-in-Tuple.ensures.lookup)

pub returns-in_ok-get-in-Tuple-clause-kid : goal.returns-in_ok-get-in-Tuple-clause-kid
returns-in_ok-get-in-Tuple-clause-kid c = λ al.
    tree-at al c.args.node.now c.args.i c.in-Tuple.trees
    (ap (kids_seen al) c.in-Tuple.is ∙ kids-tuple al c.in-Tuple.trees)
    c.as_slice-in-Tuple.result.now c.as_slice-in-Tuple.ensures
    c.in_ok-get-in-Tuple.field-0 c.in_ok-get-in-Tuple.ensures.lookup

pub returns-in_err-get-in-Array-clause-kid : goal.returns-in_err-get-in-Array-clause-kid
returns-in_err-get-in-Array-clause-kid c = λ al. rw c.from_residual-in_err-get-in-Array.ensures
    (tree-past al c.args.node.now c.args.i c.in-Array.trees
    (ap (kids_seen al) c.in-Array.is ∙ kids-array al c.in-Array.trees)
    c.as_slice-in-Array.result.now c.as_slice-in-Array.ensures
    c.in_err-get-in-Array.ensures.lookup)

pub returns-in_ok-get-in-Array-clause-kid : goal.returns-in_ok-get-in-Array-clause-kid
returns-in_ok-get-in-Array-clause-kid c = λ al.
    tree-at al c.args.node.now c.args.i c.in-Array.trees
    (ap (kids_seen al) c.in-Array.is ∙ kids-array al c.in-Array.trees)
    c.as_slice-in-Array.result.now c.as_slice-in-Array.ensures
    c.in_ok-get-in-Array.field-0 c.in_ok-get-in-Array.ensures.lookup

pub returns-in-Some-clause-kid : goal.returns-in-Some-clause-kid
returns-in-Some-clause-kid c = λ al.
    input-at al c.args.node.now c.args.i c.in-Function.inputs c.in-Function.outputs
    (ap (kids_seen al) c.in-Function.is ∙ kids-function al c.in-Function.inputs c.in-Function.outputs)
    c.as_slice-in-Function.result.now c.as_slice-in-Function.ensures
    c.in-Some.input c.in-Some.ensures.lookup

pub returns-in_err-get-in-None-clause-kid : goal.returns-in_err-get-in-None-clause-kid
returns-in_err-get-in-None-clause-kid c = λ al. rw c.from_residual-in_err-get-in-None.ensures
    (output-past al c.args.node.now c.args.i c.in-Function.inputs c.in-Function.outputs
    (ap (kids_seen al) c.in-Function.is ∙ kids-function al c.in-Function.inputs c.in-Function.outputs)
    c.as_slice-in-Function.result.now c.as_slice-in-Function.ensures
    c.in-None.ensures.lookup c.as_slice-in-None.result.now c.as_slice-in-None.ensures c.len.result
    c.len.ensures c.in_err-get-in-None.ensures.lookup)

pub returns-in_ok-get-in-None-clause-kid : goal.returns-in_ok-get-in-None-clause-kid
returns-in_ok-get-in-None-clause-kid c = λ al.
    output-at al c.args.node.now c.args.i c.in-Function.inputs c.in-Function.outputs
    (ap (kids_seen al) c.in-Function.is ∙ kids-function al c.in-Function.inputs c.in-Function.outputs)
    c.as_slice-in-Function.result.now c.as_slice-in-Function.ensures
    c.in-None.ensures.lookup c.as_slice-in-None.result.now c.as_slice-in-None.ensures c.len.result
    c.len.ensures c.in_ok-get-in-None.field-0 c.in_ok-get-in-None.ensures.lookup

pub returns-in-Shaped-clause-kid : goal.returns-in-Shaped-clause-kid
returns-in-Shaped-clause-kid c = λ al.
    c.only.ensures.kid al
    ∙ ap (λ k. slice_get (seen al k ∷ []) c.args.i) c.get-in-Shaped.ensures
    ∙ ap (λ l. slice_get l c.args.i)
    (sym (ap (kids_seen al) c.in-Shaped.is
    ∙ kids-shaped al c.in-Shaped.kind c.in-Shaped.dims c.in-Shaped.element))

pub returns-in-Complex-clause-kid : goal.returns-in-Complex-clause-kid
returns-in-Complex-clause-kid c = λ al.
    c.only-in-Complex.ensures.kid al
    ∙ ap (λ k. slice_get (seen al k ∷ []) c.args.i) c.get-in-Complex.ensures
    ∙ ap (λ l. slice_get l c.args.i)
    (sym (ap (kids_seen al) c.in-Complex.is
    ∙ kids-complex al c.in-Complex.element))

pub returns-in-Some-ty-clause-kid : goal.returns-in-Some-ty-clause-kid
returns-in-Some-ty-clause-kid c = λ al.
    c.only-in-Some-ty.ensures.kid al
    ∙ ap (λ k. slice_get (seen al k ∷ []) c.args.i) c.get-in-Some-ty.ensures
    ∙ ap (λ l. slice_get l c.args.i)
    (sym (ap (kids_seen al) c.in-Number.is
    ∙ ap (λ t. kids_seen al (node.Number c.in-Number.negative c.in-Number.digits t)) c.in-Some-ty.is
    ∙ kids-number al c.in-Number.negative c.in-Number.digits c.in-Some-ty.ty))

pub returns-in-None-ty-clause-kid : goal.returns-in-None-ty-clause-kid
returns-in-None-ty-clause-kid c = λ al.
    ap (λ l. slice_get l c.args.i)
    (sym (ap (kids_seen al) c.in-Number.is
    ∙ ap (λ t. kids_seen al (node.Number c.in-Number.negative c.in-Number.digits t)) c.in-None-ty.is
    ∙ kids-number_plain al c.in-Number.negative c.in-Number.digits))

pub returns-in_err-entry-in-Dict-clause-kid : goal.returns-in_err-entry-in-Dict-clause-kid
returns-in_err-entry-in-Dict-clause-kid c = λ al. rw c.from_residual-in_err-entry-in-Dict.ensures
    (entry-past al c.args.node.now c.args.i c.in-Dict.entries
    (ap (kids_seen al) c.in-Dict.is ∙ kids-dict al c.in-Dict.entries)
    c.as_slice-in-Dict.result.now c.as_slice-in-Dict.ensures
    c.in_err-entry-in-Dict.ensures.lookup)

pub returns-in-Some-value-clause-kid : goal.returns-in-Some-value-clause-kid
returns-in-Some-value-clause-kid c = λ al.
    value-at al c.args.node.now c.args.i c.in-Dict.entries
    (ap (kids_seen al) c.in-Dict.is ∙ kids-dict al c.in-Dict.entries)
    c.as_slice-in-Dict.result.now c.as_slice-in-Dict.ensures
    c.in_ok-entry-in-Dict.entry c.in_ok-entry-in-Dict.ensures.lookup c.in-Some-value.value
    c.in-Some-value.is

pub returns-in-None-value-clause-kid : goal.returns-in-None-value-clause-kid
returns-in-None-value-clause-kid c = λ al.
    unit-at al c.args.node.now c.args.i c.in-Dict.entries
    (ap (kids_seen al) c.in-Dict.is ∙ kids-dict al c.in-Dict.entries)
    c.as_slice-in-Dict.result.now c.as_slice-in-Dict.ensures
    c.in_ok-entry-in-Dict.entry c.in_ok-entry-in-Dict.ensures.lookup c.in-None-value.is

pub returns-in-Word-clause-kid : goal.returns-in-Word-clause-kid
returns-in-Word-clause-kid c = λ al. no-kids al c.args.node.now c.args.i c.in-Word.is
