use Rattle.std.proofs.Common.{[], ◌∷◌, ◌++◌, take, sym, ◌∙◌, ap, subst, append_assoc}
use Rattle.std.proofs.lemmas.List.{take_more}
use Rattle.dialect_registry.specs.Scopes.{Finds}
use Rattle.dialect_registry.proofs.Targeted.{finds-more}
use Rattle.dialect_registry.proofs.targets.Targets.add_file.Goals as goal

pub loop-dialect-preserved : goal.loop-dialect-preserved
loop-dialect-preserved c = λ before k.
    let items = c.as_slice-dialect-items.result.now in
    let i = c.loop-dialect.dialect-index in
    let dialect = c.dialect-item.result in
    let more = take_more items i dialect c.loop-dialect-test.true
    ∙ ap (λ y. take i items ++ y ∷ []) (sym c.dialect-item.is) in
    subst (λ l. Finds l (record c.loop-dialect.self { dialects = c.add.new.self }))
    (append_assoc before (take i items) (dialect ∷ []) ∙ ap (λ l. before ++ l) (sym more))
    (finds-more (before ++ take i items) dialect c.loop-dialect.self _
    c.in_ok-definitions.definitions
    (c.loop-dialect.invariant before k) c.in_ok-definitions.ensures
    (rw c.bytes.ensures at c.in_ok-add.ensures.after))
