use Rattle.std.proofs.Common.{rules, sym}
use Rattle.std.proofs.lemmas.Fn.{always_returns_same}
use Rattle.op_verifier.proofs.Found.{compare_texts, sorted, rises, found-at, found-nowhere, apart}
use Rattle.op_verifier.proofs.attrs.id_of.Goals as goal

pub returns-in-Ok : goal.returns-in-Ok
returns-in-Ok c =
    let here = c.in-Ok.ensures.position (λ k. compare_texts k c.args.key.now)
    (always_returns_same _ _ _ (λ a r f' called. search rules)) in
    sym (found-at c.args.keys.now c.args.values.now c.args.key.now c.in-Ok.i _
    (sorted _ c.requires.ascend) c.requires.counts c.in-Ok.ensures.bound here)

pub returns-in-Err : goal.returns-in-Err
returns-in-Err c =
    let point = c.in-Err.ensures.position (λ k. compare_texts k c.args.key.now)
    (always_returns_same _ _ _ (λ a r f' called. search rules))
    (rises _ c.args.key.now c.requires.ascend) in
    sym (found-nowhere c.args.keys.now c.args.values.now c.args.key.now
    (apart _ c.args.key.now c.in-Err.field-0 point))
